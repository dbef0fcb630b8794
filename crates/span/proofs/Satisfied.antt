-- What follows where a filling satisfies entries.
use Rattle.std.proofs.Common.{◌≡◌, ℕ, ◌+◌, ◌*◌, ◌/◌, ◌%◌, ◌^◌, ◌<◌, List, bit_xor, ap, ◌∙◌, ap₂}
use Rattle.std.proofs.Math.Pow.{high, low}
use Rattle.span.specs.Kinds.{numbers, Comb}
use Rattle.span.specs.Echelon.{Row, rows}
use Rattle.span.specs.Fillings.{xor_over, Satisfies, SatisfiesAll}
use Rattle.span.proofs.Comb.{comb_ind}
use Rattle.span.proofs.Xors.{xor_over_empty, xor_over_xor}

-- a filling that satisfies all entries satisfies each combination of them
pub satisfies_comb : (n : ℕ) (f : ℕ → ℕ) (H : List (Row ℕ)) → SatisfiesAll n f H → (v : Row ℕ) → Comb (rows numbers) H v → Satisfies n f v
satisfies_comb n f H =
    comb_ind (rows numbers) (Satisfies n f) (xor_over_empty f n) (λ u v p q. xor_over_xor f n u.0 v.0 ∙ ap₂ bit_xor p q) H

-- a satisfied entry answers with the two numbers that its word was put together from
pub held_is_answered : (n r : ℕ) (f : ℕ → ℕ) (m check notice : ℕ) → notice < 2 ^ r → Satisfies n f (m, check * 2 ^ r + notice)
    → (xor_over f n m / 2 ^ r ≡ check) × (xor_over f n m % 2 ^ r ≡ notice)
held_is_answered n r f m check notice h s =
    (ap (λ (x : ℕ). x / 2 ^ r) s ∙ high check r h, ap (λ (x : ℕ). x % 2 ^ r) s ∙ low check r h)
