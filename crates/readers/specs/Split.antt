-- The split reader: a key of four bytes is a row of eight digits of four bits.
use Rattle.std.specs.Prelude.{◌≡◌, ℕ, ◌/◌, ◌%◌, Bool, true, false, cond, ◌&&◌, List, [], ◌∷◌, length, Ok, Err, Result, ◌==◌, nat_le, slice_index}
use Rattle.std.proofs.Common.{subst, arith}
use Rattle.shapes.specs.Limits.{InLimits}
use Rattle.readers.specs.Meaning.{Meaning, Clause, Formed, refusal}
use Rattle.readers.specs.Draws.{clause_of, clause_of_formed}
use Rattle.shapes.specs.declared.fault.Refusal.{Refusal}
use Rattle.shapes.specs.declared.shape.Dims.{Dims}

-- The digits of bytes, the high digit of each first.
abbrev pub digits : List ℕ → List ℕ
digits [] = []
digits (b ∷ bs) = b / 16 ∷ b % 16 ∷ digits bs

-- Digit i, from 0.
abbrev pub digit : List ℕ → ℕ → ℕ
digit key i = slice_index (digits key) i

-- At most 16 cells, 6 draws, 4 check bits and 16 blocks: a digit has four bits, and there are eight of them.
abbrev pub split_admits : Dims → Bool
split_admits d = nat_le d.n 16 && (nat_le d.k 6 && (nat_le d.s 4 && nat_le d.b 16))

-- A key of another length than four bytes is turned down with reason 1, and the place is its length.
abbrev pub split_gives : Dims → List ℕ → Result Clause Refusal
split_gives d key = cond (length key == 4) (Ok (clause_of d (digit key))) (Err (refusal 1 (length key) 0))

-- A clause that it gives is one of the shape.
pub split_formed : (d : Dims) (key : List ℕ) (c : Clause) → InLimits d → (b : Bool)
    → cond b (Ok (clause_of d (digit key))) (Err (refusal 1 (length key) 0)) ≡ Ok c → Formed d c
split_formed d key c limits true e =
    let same : clause_of d (digit key) ≡ c = cc in
    subst (Formed d) same (clause_of_formed d (digit key) limits)
split_formed d key c limits false e = let z : ◌≡◌ {A = ℕ} 0 1 = cc in absurd (omega arith)

-- The meaning of the split reader.
abbrev pub split_meaning : Meaning
split_meaning = record {
  admits = split_admits;
  gives = split_gives;
  formed = λ d key c limits _ e. split_formed d key c limits (length key == 4) e;
}
