-- From a row of numbers to a clause: k draws of cells, then the check, then the block.
use Rattle.std.specs.Prelude.{◌≡◌, ℕ, zero, suc, ◌+◌, ◌%◌, ◌^◌, ◌<◌, cond, ◌==◌, bit_xor}
use Rattle.std.proofs.Common.{ap₂, ◌∙◌, arith}
use Rattle.std.proofs.lemmas.Nat.{mod_below, pow_pos}
use Rattle.span.specs.Sets.{is_one, has, differs, Within}
use Rattle.span.proofs.Bits.{has_zero, has_xor, has_pow_other}
use Rattle.shapes.specs.Limits.{InLimits}
use Rattle.readers.specs.Meaning.{Clause, Formed}
use Rattle.shapes.specs.declared.shape.Dims.{Dims}

-- The set of cells after the first i draws: each draw puts its cell in, or takes it out where it was in.
abbrev pub drawn : (ℕ → ℕ) → ℕ → ℕ
drawn draw zero = 0
drawn draw (suc i) = bit_xor (drawn draw i) (2 ^ draw i)

-- The clause of the row w.
abbrev pub clause_of : Dims → (ℕ → ℕ) → Clause
clause_of d w = record { block = w (d.k + 1) % d.b; cells = drawn (λ i. w i % d.n) d.k; check = w d.k % 2 ^ d.s }

-- How often c comes in the first i draws.
abbrev pub times : (ℕ → ℕ) → ℕ → ℕ → ℕ
times draw c zero = 0
times draw c (suc i) = times draw c i + cond (draw i == c) 1 0

-- A cell is in the drawn set exactly where it was drawn an odd number of times.
abbrev pub OddDraws : Type 0
OddDraws = (draw : ℕ → ℕ) (i c : ℕ) → has (drawn draw i) c ≡ is_one (times draw c i % 2)

drawn_within : (draw : ℕ → ℕ) (n : ℕ) → ((i : ℕ) → draw i < n) → (k : ℕ) → Within n (drawn draw k)
drawn_within draw n below zero c h = has_zero c
drawn_within draw n below (suc k) c h =
    let less = below k in
    has_xor (drawn draw k) (2 ^ draw k) c
    ∙ ap₂ differs (drawn_within draw n below k c h) (has_pow_other (draw k) c (λ e. absurd (omega arith)))

-- It is a clause of the shape.
pub clause_of_formed : (d : Dims) (w : ℕ → ℕ) → InLimits d → Formed d (clause_of d w)
clause_of_formed d w limits = record {
  block_below = mod_below (w (d.k + 1)) d.b limits.b_low;
  cells_within = drawn_within (λ i. w i % d.n) d.n (λ i. mod_below (w i) d.n limits.n_low) d.k;
  check_below = mod_below (w d.k) (2 ^ d.s) (pow_pos d.s);
}
