-- Drawn cells: one draw more, the numbers that a clause goes by, and the cells drawn an odd number of times.
use Rattle.std.proofs.Common.{◌≡◌, ℕ, zero, suc, ◌+◌, ◌%◌, ◌^◌, ◌<◌, Bool, true, false, cond, eqb, List, [], ◌∷◌, ◌++◌, get_or, sym, refl, ap, ◌∙◌, ap₂, inl, inr, add-one, arith, bit_xor, length, length-append, take, ◌≤◌, length-take-le}
use Rattle.std.proofs.lemmas.Bool.{lt-ltb, cases_eq, eq-eqb, ne_eqb}
use Rattle.std.proofs.lemmas.List.{get_or_push, get_or_append_left, get_or-take}
use Rattle.span.specs.Sets.{is_one, has, differs}
use Rattle.span.proofs.Bits.{has_zero, has_xor, has_pow, has_pow_other}
use Rattle.gf2.specs.Masks.{width, toggled_in}
use Rattle.readers.specs.Draws.{drawn, clause_of, times, OddDraws}
use Rattle.shapes.specs.declared.shape.Dims.{Dims}

-- one draw more, below the width of a set
drawn_more : (draw : ℕ → ℕ) (i m m' : ℕ) → draw i < width → m ≡ drawn draw i → m' ≡ toggled_in width m (draw i) → m' ≡ drawn draw (i + 1)
drawn_more draw i m m' below e is =
    is
    ∙ ap (λ (t : Bool). cond t (bit_xor m (2 ^ draw i)) m) (lt-ltb (draw i) width below)
    ∙ ap (λ (x : ℕ). bit_xor x (2 ^ draw i)) e
    ∙ sym (ap (drawn draw) (add-one i))

drawn_same : (v w : ℕ → ℕ) (k : ℕ) → ((i : ℕ) → i < k → v i ≡ w i) → drawn v k ≡ drawn w k
drawn_same v w zero same = refl
drawn_same v w (suc k) same =
    ap₂ bit_xor (drawn_same v w k (λ i h. same i (omega arith))) (ap (λ (d : ℕ). 2 ^ d) (same k (omega arith)))

-- the cells drawn by all of a list
abbrev pub drawn_by : ℕ → List ℕ → ℕ
drawn_by n ys = drawn (λ i. get_or ys i 0 % n) (length ys)

pub drawn_push : (n : ℕ) (ys : List ℕ) (x m m' : ℕ) → x % n < width → m ≡ drawn_by n ys → m' ≡ toggled_in width m (x % n) → m' ≡ drawn_by n (ys ++ x ∷ [])
drawn_push n ys x m m' below e is =
    let draw : ℕ → ℕ = λ i. get_or (ys ++ x ∷ []) i 0 % n in
    let here : draw (length ys) ≡ x % n = ap (λ (y : ℕ). y % n) (get_or_push ys x 0 (length ys) refl) in
    let before : m ≡ drawn draw (length ys) =
    e ∙ drawn_same _ draw (length ys) (λ i h. ap (λ (y : ℕ). y % n) (sym (get_or_append_left ys (x ∷ []) 0 i h))) in
    let long : length ys + 1 ≡ length (ys ++ x ∷ []) = omega (arith, length-append ys (x ∷ [])) in
    drawn_more draw (length ys) m m' (rw here below) before (rw here is) ∙ ap (drawn draw) long

pub drawn_by_take : (n k : ℕ) (words : List ℕ) → k ≤ length words → drawn_by n (take k words) ≡ drawn (λ i. get_or words i 0 % n) k
drawn_by_take n k words long =
    let draw : ℕ → ℕ = λ i. get_or (take k words) i 0 % n in
    ap (drawn draw) (length-take-le k words long)
    ∙ drawn_same draw _ k (λ i h. ap (λ (y : ℕ). y % n) (get_or-take k words i 0 h))

-- a clause goes by the first k + 2 numbers of its row
pub clause_of_same : (d : Dims) (v w : ℕ → ℕ) → ((i : ℕ) → i < d.k + 2 → v i ≡ w i) → clause_of d v ≡ clause_of d w
clause_of_same d v w same =
    let block : v (d.k + 1) ≡ w (d.k + 1) = same (d.k + 1) (omega arith) in
    let cells = drawn_same (λ i. v i % d.n) (λ i. w i % d.n) d.k (λ i h. ap (λ (x : ℕ). x % d.n) (same i (omega arith))) in
    let check : v d.k ≡ w d.k = same d.k (omega arith) in
    λ j. record { block = block j % d.b; cells = cells j; check = check j % 2 ^ d.s }

-- ---- odd draws

-- one draw turns membership of its own cell over, and no other's
turned : (t : ℕ) (b : Bool) → differs (is_one (t % 2)) b ≡ is_one ((t + cond b 1 0) % 2)
turned t true = elim (cases_eq (t % 2) 0) [
  | inl e ↦ let f : (t + 1) % 2 ≡ 1 = omega arith in ap₂ differs (ap is_one e) refl ∙ sym (ap is_one f)
  | inr n ↦
      let e : t % 2 ≡ 1 = omega arith in
      let f : (t + 1) % 2 ≡ 0 = omega arith in
      ap₂ differs (ap is_one e) refl ∙ sym (ap is_one f)
]
turned t false =
    let f : t + 0 ≡ t = omega arith in
    unchanged (is_one (t % 2)) ∙ sym (ap (λ (x : ℕ). is_one (x % 2)) f)
  where
    unchanged : (b : Bool) → differs b false ≡ b
    unchanged true = refl
    unchanged false = refl

one_cell : (d c : ℕ) → has (2 ^ d) c ≡ eqb d c
one_cell d c = elim (cases_eq d c) [
  | inl e ↦ ap (λ (x : ℕ). has (2 ^ x) c) e ∙ has_pow c ∙ sym (eq-eqb d c e)
  | inr n ↦ has_pow_other d c (λ e. n (sym e)) ∙ sym (ne_eqb d c n)
]

pub odd_draws : OddDraws
odd_draws draw zero c = has_zero c
odd_draws draw (suc i) c =
    has_xor (drawn draw i) (2 ^ draw i) c
    ∙ ap₂ differs (odd_draws draw i c) (one_cell (draw i) c)
    ∙ turned (times draw c i) (eqb (draw i) c)

-- ---- rows of numbers

-- zeros after the last number are read as the numbers past it are
pub zeros_after : (row : List ℕ) (i : ℕ) → get_or (row ++ 0 ∷ 0 ∷ []) i 0 ≡ get_or row i 0
zeros_after [] zero = refl
zeros_after [] (suc zero) = refl
zeros_after [] (suc (suc i)) = refl
zeros_after (x ∷ row) zero = refl
zeros_after (x ∷ row) (suc i) = zeros_after row i
