-- The stream reader: the FNV-1a hash of a key seeds SplitMix64, whose words are the row of numbers.
use Rattle.std.specs.Prelude.{◌≡◌, ℕ, zero, suc, ◌+◌, ◌*◌, ◌/◌, ◌%◌, ◌^◌, true, List, [], ◌∷◌, ◌++◌, Ok, Result, bit_xor}
use Rattle.std.proofs.Common.{subst}
use Rattle.shapes.specs.Limits.{InLimits}
use Rattle.readers.specs.Meaning.{Meaning, Clause, Formed}
use Rattle.readers.specs.Draws.{clause_of, clause_of_formed}
use Rattle.shapes.specs.declared.fault.Refusal.{Refusal}
use Rattle.shapes.specs.declared.shape.Dims.{Dims}

-- FNV-1a, 64 bits: one byte more.
abbrev pub fnv_step : ℕ → ℕ → ℕ
fnv_step h b = (bit_xor h b * 1099511628211) % 2 ^ 64

-- The hash, byte after byte, from a hash of what came before.
abbrev pub fnv_from : ℕ → List ℕ → ℕ
fnv_from h [] = h
fnv_from h (b ∷ bs) = fnv_from (fnv_step h b) bs

-- FNV-1a: the hash of a key.
abbrev pub fnv : List ℕ → ℕ
fnv key = fnv_from 14695981039346656037 key

-- The same rule by the last byte.
abbrev pub FnvRule : Type 0
FnvRule = (fnv [] ≡ 14695981039346656037) × ((key : List ℕ) (b : ℕ) → fnv (key ++ b ∷ []) ≡ (bit_xor (fnv key) b * 1099511628211) % 2 ^ 64)

-- SplitMix64: the next state.
abbrev pub advance : ℕ → ℕ
advance st = (st + 0x9E3779B97F4A7C15) % 2 ^ 64

-- The state after i words.
abbrev pub state : ℕ → ℕ → ℕ
state seed zero = seed
state seed (suc i) = advance (state seed i)

-- A shift, an XOR and a product, as they come twice in the mix.
abbrev pub scramble : ℕ → ℕ → ℕ → ℕ
scramble shift factor z = (bit_xor z (z / 2 ^ shift) * factor) % 2 ^ 64

-- The word of a state.
abbrev pub mix : ℕ → ℕ
mix z =
    let y = scramble 27 0x94D049BB133111EB (scramble 30 0xBF58476D1CE4E5B9 z) in
    bit_xor y (y / 2 ^ 31)

-- Word i, from 0.
abbrev pub word : ℕ → ℕ → ℕ
word seed i = mix (state seed (suc i))

-- The row of numbers of a key: the words from the seed hash plus salt.
abbrev pub stream_row : ℕ → List ℕ → ℕ → ℕ
stream_row salt key = word ((fnv key + salt) % 2 ^ 64)

-- What the stream reader gives: every key has a clause.
abbrev pub stream_gives : ℕ → Dims → List ℕ → Result Clause Refusal
stream_gives salt d key = Ok (clause_of d (stream_row salt key))

-- A clause that it gives is one of the shape.
pub stream_formed : (salt : ℕ) (d : Dims) (key : List ℕ) (c : Clause) → InLimits d → stream_gives salt d key ≡ Ok c → Formed d c
stream_formed salt d key c limits e =
    let same : clause_of d (stream_row salt key) ≡ c = cc in
    subst (Formed d) same (clause_of_formed d (stream_row salt key) limits)

-- Every shape is admitted, and every key has a clause.
abbrev pub stream_meaning : ℕ → Meaning
stream_meaning salt = record { admits = λ _. true; gives = stream_gives salt; formed = λ d key c limits _ e. stream_formed salt d key c limits e }
