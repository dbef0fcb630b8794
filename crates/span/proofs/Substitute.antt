-- Substitution back from the last cell to the first.
use Rattle.std.proofs.Common.{◌≡◌, ℕ, ◌^◌, ◌<◌, ◌≤◌, Bool, true, false, bit_xor, sym, refl, ap, ◌∙◌, ap₂, true≢false, zero-le, arith}
use Rattle.std.proofs.Math.Decide.{ℕ_discrete as dec_eq, dec_le}
use Rattle.std.proofs.lemmas.Nat.{xor_comm}
use Rattle.span.specs.Sets.{has, differs}
use Rattle.span.specs.Lead.{Lead}
use Rattle.span.specs.Kinds.{numbers}
use Rattle.span.specs.Echelon.{State, Echelon}
use Rattle.span.specs.Fillings.{pick, xor_over, Satisfies, SatisfiesRows, ZeroInFree, substituted}
use Rattle.span.specs.Theorems.{SubstitutionGoesDown, SubstitutionSolves}
use Rattle.span.proofs.Bits.{has_xor, has_xor_clear, has_pow, has_pow_other}
use Rattle.span.proofs.Lead.{lead_has, lead_first}
use Rattle.span.proofs.Comb.{cancel}
use Rattle.span.proofs.Xors.{xor_over_xor, xor_over_among, xor_over_pow}

-- the other cells of a row that c leads are none before c, nor c itself
pub others_after : (m c d : ℕ) → Lead m c → d ≤ c → has (bit_xor m (2 ^ c)) d ≡ false
others_after m c d lead h = go (dec_eq d c)
  where
    go : Dec (d ≡ c) → has (bit_xor m (2 ^ c)) d ≡ false
    go (yes e) = ap (has (bit_xor m (2 ^ c))) e ∙ has_xor_clear m (2 ^ c) c (lead_has m c lead) (has_pow c)
    go (no e) = has_xor m (2 ^ c) d ∙ ap₂ differs (lead_first m c d lead (omega arith)) (has_pow_other c d e)

-- two fillings that agree after c give it the same word
pub substituted_same : (n : ℕ) (S : State ℕ) → Echelon n S → (f g : ℕ → ℕ) (c : ℕ) → c < n → ((d : ℕ) → c < d → d < n → f d ≡ g d)
    → substituted n S f c ≡ substituted n S g c
substituted_same n S ech f g c cn same = go (S.bound c) refl
  where
    others : ℕ
    others = bit_xor (S.row c).0 (2 ^ c)

    after : S.bound c ≡ true → (d : ℕ) → d < n → has others d ≡ true → f d ≡ g d
    after b d dn t = by (dec_le d c)
      where
        by : Dec (d ≤ c) → f d ≡ g d
        by (yes h) = absurd (true≢false (sym t ∙ others_after (S.row c).0 c d (ech c cn b).0 h))
        by (no h) = same d (omega arith) dn

    go : (b : Bool) → S.bound c ≡ b → pick b (bit_xor (S.row c).1 (xor_over f n others)) ≡ pick b (bit_xor (S.row c).1 (xor_over g n others))
    go true b = ap (bit_xor (S.row c).1) (xor_over_among f g n others (after b))
    go false b = refl

-- one cell more
pub goes_down : SubstitutionGoesDown
goes_down n S ech k kn f g above here kept c kc cn = go (dec_eq c k)
  where
    same : (j : ℕ) → k ≤ j → j < n → substituted n S f j ≡ substituted n S g j
    same j kj jn = substituted_same n S ech f g j jn (λ d jd dn. sym (kept d dn (λ e. absurd (omega arith))))

    go : Dec (c ≡ k) → g c ≡ substituted n S g c
    go (yes e) = ap g e ∙ here ∙ same k (omega arith) kn ∙ ap (substituted n S g) (sym e)
    go (no e) = kept c cn e ∙ above c (omega arith) cn ∙ same c kc cn

-- a row is satisfied where its cell has the word that its answer lacks over the other cells
row_satisfied : (n : ℕ) (f : ℕ → ℕ) (m a c : ℕ) → c < n → f c ≡ bit_xor a (xor_over f n (bit_xor m (2 ^ c))) → Satisfies n f (m, a)
row_satisfied n f m a c cn e =
    ap (xor_over f n) (sym (back m c)) ∙ xor_over_xor f n (bit_xor m (2 ^ c)) (2 ^ c)
    ∙ ap (bit_xor rest) (xor_over_pow f n c cn ∙ e ∙ xor_comm a rest) ∙ cancel numbers rest a
  where
    rest : ℕ
    rest = xor_over f n (bit_xor m (2 ^ c))

    back : (m c : ℕ) → bit_xor (bit_xor m (2 ^ c)) (2 ^ c) ≡ m
    back m c = xor_comm (bit_xor m (2 ^ c)) (2 ^ c) ∙ ap (bit_xor (2 ^ c)) (xor_comm m (2 ^ c)) ∙ cancel numbers (2 ^ c) m

-- and the other way round
satisfied_row : (n : ℕ) (f : ℕ → ℕ) (m a c : ℕ) → c < n → Satisfies n f (m, a) → f c ≡ bit_xor a (xor_over f n (bit_xor m (2 ^ c)))
satisfied_row n f m a c cn s =
    sym (ap (bit_xor a) (xor_over_xor f n m (2 ^ c) ∙ ap₂ bit_xor s (xor_over_pow f n c cn)) ∙ cancel numbers a (f c))

-- all cells
pub solves : SubstitutionSolves
solves n S ech f = (
  λ s. (
    λ c cn b. row_satisfied n f (S.row c).0 (S.row c).1 c cn (s c zero-le cn ∙ ap (λ (t : Bool). pick t (lack c)) b),
    λ c cn b. s c zero-le cn ∙ ap (λ (t : Bool). pick t (lack c)) b,
  ),
  λ t c h cn. go t.0 t.1 c cn (S.bound c) refl,
)
  where
    lack : ℕ → ℕ
    lack c = bit_xor (S.row c).1 (xor_over f n (bit_xor (S.row c).0 (2 ^ c)))

    go : SatisfiesRows n S f → ZeroInFree n S f → (c : ℕ) → c < n → (b : Bool) → S.bound c ≡ b → f c ≡ pick (S.bound c) (lack c)
    go sat free c cn true b = satisfied_row n f (S.row c).0 (S.row c).1 c cn (sat c cn b) ∙ ap (λ (t : Bool). pick t (lack c)) (sym b)
    go sat free c cn false b = free c cn b ∙ ap (λ (t : Bool). pick t (lack c)) (sym b)
