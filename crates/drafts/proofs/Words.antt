-- An answer's bits.
use Rattle.std.proofs.Common.{ℕ, ◌+◌, ◌*◌, ◌^◌, ◌<◌, arith}
use Rattle.std.proofs.lemmas.Nat.{pow-add, mul-add-lt}

-- a check of s bits above a notice of r bits
pub answer_below : (s r check notice : ℕ) → check < 2 ^ s → notice < 2 ^ r → check * 2 ^ r + notice < 2 ^ (s + r)
answer_below s r check notice c n = omega (arith, mul-add-lt check (2 ^ r) notice (2 ^ s) c n, pow-add 2 s r)
