-- The fold layer: spaces and hyphens are dropped and letters become capitals before a key is handed below.
use Rattle.std.specs.Prelude.{◌≡◌, ℕ, ◌+◌, ◌-◌, min, Bool, true, false, cond, ◌&&◌, ◌||◌, not, List, length, map, filter, Ok, Err, Result, ◌==◌, nat_le, nat_lt}
use Rattle.std.proofs.Common.{arith}
use Rattle.std.specs.List.{position_or_len}
use Rattle.std.specs.Result.{result_map_both}
use Rattle.shapes.specs.Limits.{InLimits}
use Rattle.readers.specs.Meaning.{Meaning, Clause, Formed, refusal, reply, reply_formed}
use Rattle.shapes.specs.declared.fault.Refusal.{Refusal}
use Rattle.shapes.specs.declared.shape.Dims.{Dims}

-- The printable bytes of ASCII, the space among them.
abbrev pub printable : ℕ → Bool
printable b = nat_le 0x20 b && nat_le b 0x7E

-- The position of the first byte that is not printable, or the length where all are.
abbrev pub unprintable_at : List ℕ → ℕ
unprintable_at = position_or_len (λ b. not (printable b))

-- Spaces and hyphens.
abbrev pub dropped : ℕ → Bool
dropped b = b == 0x20 || b == 0x2D

-- A small letter's capital; any other byte as it is.
abbrev pub capital : ℕ → ℕ
capital b = cond (nat_le 0x61 b && nat_le b 0x7A) (b - 0x20) b

-- The key as it is handed below.
abbrev pub folded : List ℕ → List ℕ
folded key = map capital (filter (λ b. not (dropped b)) key)

-- A refusal from below, one layer further up: the depth counts to 255.
abbrev pub deeper : Refusal → Refusal
deeper e = refusal e.reason e.place (min 255 (e.depth + 1))

-- Reason 2 at the first byte that is not printable, and otherwise what the reader below tells of the folded key.
abbrev pub fold_gives : Meaning → Dims → List ℕ → Result Clause Refusal
fold_gives m d key =
    cond (nat_lt (unprintable_at key) (length key)) (Err (refusal 2 (unprintable_at key) 0)) (result_map_both (λ c. c) deeper (reply m d (folded key)))

-- A clause that comes up through the layer was told below.
passed : (r : Result Clause Refusal) (c : Clause) → result_map_both (λ x. x) deeper r ≡ Ok c → r ≡ Ok c
passed (Ok x) c e = e
passed (Err x) c e = let z : ◌≡◌ {A = ℕ} 0 1 = cc in absurd (omega arith)

-- A clause that the layer gives is one of the shape.
pub fold_formed : (m : Meaning) (d : Dims) (key : List ℕ) (c : Clause) → InLimits d → (t : Bool)
    → cond t (Err (refusal 2 (unprintable_at key) 0)) (result_map_both (λ x. x) deeper (reply m d (folded key))) ≡ Ok c → Formed d c
fold_formed m d key c limits true e = let z : ◌≡◌ {A = ℕ} 0 1 = cc in absurd (omega arith)
fold_formed m d key c limits false e = reply_formed m d (folded key) c limits (passed (reply m d (folded key)) c e)

-- The meaning of the layer over a reader of meaning m: it admits what m admits.
abbrev pub fold_meaning : Meaning → Meaning
fold_meaning m = record {
  admits = m.admits;
  gives = fold_gives m;
  formed = λ d key c limits _ e. fold_formed m d key c limits (nat_lt (unprintable_at key) (length key)) e;
}
