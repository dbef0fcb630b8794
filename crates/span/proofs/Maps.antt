-- A state seen through a map of its answers that keeps sums.
use Rattle.std.proofs.Common.{◌≡◌, ℕ, zero, suc, Bool, true, false, List, ◌∷◌, map, bit_xor, sym, refl, ap, ◌∙◌, subst, ap₂}
use Rattle.span.specs.Sets.{Within}
use Rattle.span.specs.Lead.{Lead}
use Rattle.span.specs.Kinds.{Kind, Comb}
use Rattle.span.specs.Echelon.{Row, rows, State, put, rows_of, Echelon, Clear, Added, Put}
use Rattle.span.proofs.Span.{comb_map}

-- a row with its answer mapped
abbrev pub row_with : {A B : Type 0} → (A → B) → Row A → Row B
row_with h v = (v.0, h v.1)

-- T is S with the answers of its rows mapped
pub record Mapped {A B : Type 0} (h : A → B) (S : State A) (T : State B) : Type 0 where
  pub bound : (c : ℕ) → T.bound c ≡ S.bound c
  pub row : (c : ℕ) → T.row c ≡ row_with h (S.row c)

module _ {A B : Type 0} (h : A → B) (S : State A) (T : State B) (m : Mapped h S T) where
  -- the rows of T are the rows of S, mapped
  pub rows_map : (n : ℕ) → map (row_with h) (rows_of S n) ≡ rows_of T n
  rows_map zero = refl
  rows_map (suc k) = go (S.bound k) (rows_map k) ∙ ap₂ (λ (b : Bool) (v : Row B). put b v (rows_of T k)) (sym (m.bound k)) (sym (m.row k))
    where
      go : (b : Bool) → map (row_with h) (rows_of S k) ≡ rows_of T k → map (row_with h) (put b (S.row k) (rows_of S k)) ≡ put b (row_with h (S.row k)) (rows_of T k)
      go true e = ap (λ (N : List (Row B)). row_with h (S.row k) ∷ N) e
      go false e = e

  -- in echelon form they are together
  pub echelon_back : (n : ℕ) → Echelon n T → Echelon n S
  echelon_back n ech c l b = subst (λ (v : Row B). Lead v.0 c × Within n v.0) (m.row c) (ech c l (m.bound c ∙ b))

  -- a set that holds no bound cell of S holds none of T
  pub clear_map : (n : ℕ) (x : ℕ) → Clear n S x → Clear n T x
  clear_map n x clear c l b = clear c l (sym (m.bound c) ∙ b)

  -- a set of rows added to S is one added to T
  pub added_map : (K : Kind A) (L : Kind B) → h K.none ≡ L.none → ((x y : A) → h (K.sum x y) ≡ L.sum (h x) (h y))
      → (n : ℕ) (v w : Row A) → Added K n S v w → Added L n T (row_with h v) (row_with h w)
  added_map K L none sum n v w a =
      subst (Comb (rows L) (rows_of T n)) (λ i. (bit_xor v.0 w.0, sum v.1 w.1 i))
      (subst (λ (N : List (Row B)). Comb (rows L) N (row_with h ((rows K).sum v w))) (rows_map n)
      (comb_map (rows K) (rows L) (row_with h) (λ i. (0, none i)) (λ x y i. (bit_xor x.0 y.0, sum x.1 y.1 i)) (rows_of S n) ((rows K).sum v w) a))

-- a row put into S is one put into T
pub put_map : {A B : Type 0} (h : A → B) (S S' : State A) (T T' : State B) → Mapped h S T → Mapped h S' T'
    → (p : ℕ) (v : Row A) → Put S p v S' → Put T p (row_with h v) T'
put_map h S S' T T' m m' p v (b, r, rest) = (
  m'.bound p ∙ b,
  m'.row p ∙ ap (row_with h) r,
  λ c ne. (m'.bound c ∙ (rest c ne).0 ∙ sym (m.bound c), m'.row c ∙ ap (row_with h) (rest c ne).1 ∙ sym (m.row c)),
)
