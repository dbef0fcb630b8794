-- One list is held after a list of enterings, and one list stands in the slots of what is held.
use Rattle.std.proofs.Common.{◌≡◌, ℕ, ◌⊎◌, List, [], ◌∷◌, sym, ◌∙◌, subst, inl, inr}
use Rattle.span.specs.Echelon.{Row}
use Rattle.span.specs.Held.{Binds, HeldBy, InSlots}

-- v is x where P holds, and y where it does not
abbrev Choice : {V : Type 0} → Type 0 → V → V → V → Type 0
Choice P x y v = (P × (v ≡ x)) ⊎ ((¬ P) × (v ≡ y))

-- that is one value
choice_one : {V : Type 0} (P : Type 0) (x y u v : V) → Choice P x y u → Choice P x y v → u ≡ v
choice_one P x y u v (inl (s, p)) (inl (t, q)) = p ∙ sym q
choice_one P x y u v (inl (s, p)) (inr (t, q)) = absurd (t s)
choice_one P x y u v (inr (s, p)) (inl (t, q)) = absurd (s t)
choice_one P x y u v (inr (s, p)) (inr (t, q)) = p ∙ sym q

-- one list is held
pub held_one : {V : Type 0} (can : List V → Type 0) (E G H : List V) → HeldBy can E G → HeldBy can E H → G ≡ H
held_one can [] G H p q = p ∙ sym q
held_one {V} can (e ∷ E) G H (F, held, last) (F', held', last') =
    choice_one (can (e ∷ F)) (e ∷ F) F G H last
    (subst (λ (N : List V). Choice (can (e ∷ N)) (e ∷ N) N H) (sym (held_one can E F F' held held')) last')

-- one list stands in the slots
pub in_slots_one : (H L M : List (Row ℕ)) → InSlots H L → InSlots H M → L ≡ M
in_slots_one [] L M p q = p ∙ sym q
in_slots_one (e ∷ H) L M (N, slots, last) (N', slots', last') =
    choice_one (Binds H e) (e ∷ N) N L M last
    (subst (λ (F : List (Row ℕ)). Choice (Binds H e) (e ∷ F) F M) (sym (in_slots_one H N N' slots slots')) last')
