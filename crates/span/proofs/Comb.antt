-- Combinations: sums of some of the entries of a list, for every kind.
use Rattle.std.proofs.Common.{◌≡◌, List, [], ◌∷◌, sym, refl, ap, ◌∙◌, subst, ap₂, inl, inr}
use Rattle.span.specs.Kinds.{Kind, Comb, Member}

module _ {V : Type 0} (K : Kind V) where
  open K use {none, sum, assoc, comm, plus_none, plus_self}

  -- zero on the left
  pub none_plus : (x : V) → sum none x ≡ x
  none_plus x = comm none x ∙ plus_none x

  -- an entry added twice is gone
  pub cancel : (x y : V) → sum x (sum x y) ≡ y
  cancel x y = sym (assoc x x y) ∙ ap (λ (z : V). sum z y) (plus_self x) ∙ none_plus y

  -- the first two of three change places
  pub left_comm : (x y z : V) → sum x (sum y z) ≡ sum y (sum x z)
  left_comm x y z = sym (assoc x y z) ∙ ap (λ (w : V). sum w z) (comm x y) ∙ assoc y x z

  -- two sums with one entry in common
  pub cancel_common : (e x y : V) → sum (sum e x) (sum e y) ≡ sum x y
  cancel_common e x y = assoc e x (sum e y) ∙ ap (sum e) (left_comm x e y) ∙ cancel e (sum x y)

  -- a sum that is zero has equal parts
  pub same_of_none : (x y : V) → sum x y ≡ none → x ≡ y
  same_of_none x y h = sym (plus_none x) ∙ ap (sum x) (sym h) ∙ cancel x y

  -- zero is the sum of no entries
  pub comb_none : (H : List V) → Comb K H none
  comb_none [] = refl
  comb_none (e ∷ H) = inl (comb_none H)

  -- the sum of two combinations is one
  pub comb_sum : (H : List V) (u v : V) → Comb K H u → Comb K H v → Comb K H (sum u v)
  comb_sum [] u v p q = ap₂ sum p q ∙ plus_none none
  comb_sum (e ∷ H) u v (inl p) (inl q) = inl (comb_sum H u v p q)
  comb_sum (e ∷ H) u v (inl p) (inr q) = inr (subst (Comb K H) (left_comm u e v) (comb_sum H u (sum e v) p q))
  comb_sum (e ∷ H) u v (inr p) (inl q) = inr (subst (Comb K H) (assoc e u v) (comb_sum H (sum e u) v p q))
  comb_sum (e ∷ H) u v (inr p) (inr q) = inl (subst (Comb K H) (cancel_common e u v) (comb_sum H (sum e u) (sum e v) p q))

  -- the first entry is a combination
  pub comb_head : (e : V) (H : List V) → Comb K (e ∷ H) e
  comb_head e H = inr (subst (Comb K H) (sym (plus_self e)) (comb_none H))

  -- each entry is a combination
  pub comb_member : (H : List V) (v : V) → Member v H → Comb K H v
  comb_member [] v m = elim m [ ]
  comb_member (e ∷ H) v (inl p) = subst (Comb K (e ∷ H)) (sym p) (comb_head e H)
  comb_member (e ∷ H) v (inr m) = inl (comb_member H v m)

  -- a property that zero and every sum of two with it have, and each entry has, holds of each combination
  pub comb_ind : (P : V → Type 0) → P none → ((u v : V) → P u → P v → P (sum u v))
      → (G : List V) → ((e : V) → Member e G → P e) → (v : V) → Comb K G v → P v
  comb_ind P z s [] h v p = subst P (sym p) z
  comb_ind P z s (e ∷ G) h v (inl p) = comb_ind P z s G (λ x m. h x (inr m)) v p
  comb_ind P z s (e ∷ G) h v (inr p) =
      subst P (cancel e v) (s e (sum e v) (h e (inl refl)) (comb_ind P z s G (λ x m. h x (inr m)) (sum e v) p))

  -- combinations of combinations are combinations
  pub comb_trans : (G H : List V) → ((e : V) → Member e G → Comb K H e) → (v : V) → Comb K G v → Comb K H v
  comb_trans G H = comb_ind (Comb K H) (comb_none H) (comb_sum H) G
