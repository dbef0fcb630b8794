-- What a reader means: the shapes it admits, and what it gives for each key.
use Rattle.std.specs.Prelude.{◌≡◌, ℕ, ◌^◌, ◌<◌, Bool, true, false, cond, ◌&&◌, List, length, Ok, Err, Result, nat_le, refl}
use Rattle.std.proofs.Common.{arith}
use Rattle.std.specs.Result.{result_map_both}
use Rattle.span.specs.Sets.{Within}
use Rattle.gf2.specs.Masks.{mask}
use Rattle.shapes.specs.Limits.{InLimits}
use Rattle.readers.specs.declared.clause.Clause.{Clause as CodeClause}
use Rattle.readers.specs.declared.reader.Reason.{Reason}
use Rattle.readers.specs.declared.reader.Reason.TheVariants.{NotRead, WrongLength, Unprintable}
use Rattle.shapes.specs.declared.fault.Refusal.{Refusal}
use Rattle.shapes.specs.declared.fault.Caller.{Caller}
use Rattle.shapes.specs.declared.fault.Fault.{Fault}
use Rattle.shapes.specs.declared.fault.Fault.TheVariants.{NotAdmitted, LongKey, TurnedDown}
use Rattle.shapes.specs.declared.shape.Dims.{Dims}

-- A block, a set of cells of that block as a mask, and a check.
pub record Clause : Type 0 where
  pub block : ℕ
  pub cells : ℕ
  pub check : ℕ

-- A clause of the shape: a block below b, cells below n, a check below 2 ^ s.
pub record Formed (d : Dims) (c : Clause) : Type 0 where
  pub block_below : c.block < d.b
  pub cells_within : Within d.n c.cells
  pub check_below : c.check < 2 ^ d.s

-- A reader's meaning. A clause that it gives at an admitted shape is one of that shape.
pub record Meaning : Type 0 where
  pub admits : Dims → Bool
  pub gives : Dims → List ℕ → Result Clause Refusal
  pub formed : (d : Dims) (key : List ℕ) (c : Clause) → InLimits d → admits d ≡ true → gives d key ≡ Ok c → Formed d c

-- The most bytes of a key.
abbrev pub most_key : ℕ
most_key = 64

-- A reason, a place and a depth.
abbrev pub refusal : ℕ → ℕ → ℕ → Refusal
refusal reason place depth = record { reason = reason; place = place; depth = depth }

-- The reasons of the library's own readers as numbers.
abbrev pub reason_number : Reason → ℕ
reason_number NotRead = 0
reason_number WrongLength = 1
reason_number Unprintable = 2

-- Whether a reader of this meaning looks at the key at all: it admits the shape, and the key is not too long.
abbrev pub readable : Meaning → Dims → List ℕ → Bool
readable m d key = m.admits d && nat_le (length key) most_key

-- What a reader of this meaning tells. A shape that it does not admit, and a longer key, give reason 0, place 0, depth 0.
abbrev pub reply : Meaning → Dims → List ℕ → Result Clause Refusal
reply m d key = cond (readable m d key) (m.gives d key) (Err (refusal 0 0 0))

told : (m : Meaning) (d : Dims) (key : List ℕ) (c : Clause) (a b : Bool) → cond (a && b) (m.gives d key) (Err (refusal 0 0 0)) ≡ Ok c
    → (a ≡ true) × (m.gives d key ≡ Ok c)
told m d key c true true e = (refl, e)
told m d key c true false e = let z : ◌≡◌ {A = ℕ} 0 1 = cc in absurd (omega arith)
told m d key c false b e = let z : ◌≡◌ {A = ℕ} 0 1 = cc in absurd (omega arith)

-- A clause that is told is one of the shape.
pub reply_formed : (m : Meaning) (d : Dims) (key : List ℕ) (c : Clause) → InLimits d → reply m d key ≡ Ok c → Formed d c
reply_formed m d key c limits e =
    let t = told m d key c (m.admits d) (nat_le (length key) most_key) e in
    m.formed d key c limits t.0 t.1

-- What a draft or a table is told of a key: the first of three faults, or the clause.
abbrev pub read_for : Meaning → Caller → Dims → List ℕ → Result Clause Fault
read_for m caller d key =
    cond (m.admits d)
    (cond (nat_le (length key) most_key) (result_map_both (λ c. c) TurnedDown (m.gives d key)) (Err (LongKey caller (length key))))
    (Err (NotAdmitted caller))

-- What the code's clause stands for.
abbrev pub clause_meant : CodeClause → Clause
clause_meant c = record { block = c.block; cells = mask c.cells; check = c.check }

-- The clause that a call answers, or its error.
abbrev pub clause_in : {E : Type 0} → Result CodeClause E → Result Clause E
clause_in = result_map_both clause_meant (λ e. e)
