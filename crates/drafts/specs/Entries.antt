-- The entry that a key makes with a notice number, and the checks before it.
use Rattle.std.specs.Prelude.{ℕ, ◌+◌, ◌*◌, ◌^◌, cond, List, Ok, Err, Result, nat_le, nat_lt}
use Rattle.span.specs.Blocks.{Placed}
use Rattle.readers.specs.Meaning.{Clause, Meaning, read_for}
use Rattle.shapes.specs.Results.{and_then}
use Rattle.shapes.specs.declared.fault.Caller.TheVariants.{Draft}
use Rattle.shapes.specs.declared.fault.Fault.{Fault}
use Rattle.shapes.specs.declared.fault.Fault.TheVariants.{FewRows, LargeNotice}
use Rattle.shapes.specs.declared.shape.Dims.{Dims}
use Rattle.table.specs.Sizes.{cell_count}

-- The bits of an answer: the check's, and below them the notice's.
abbrev pub answer_bits : Dims → ℕ
answer_bits d = d.s + d.r

-- The first check of every call on a draft: there is a row for each cell.
abbrev pub with_rows : Dims → ℕ → Result Dims Fault
with_rows d rows = cond (nat_le (cell_count d) rows) (Ok d) (Err (FewRows (cell_count d)))

-- The notice number, where it has at most r bits.
abbrev pub notice_in : Dims → ℕ → Result ℕ Fault
notice_in d notice = cond (nat_lt notice (2 ^ d.r)) (Ok notice) (Err (LargeNotice d.r))

-- A clause with a notice number: the block, and the cells with the answer.
abbrev pub entry_of : Dims → Clause → ℕ → Placed
entry_of d c notice = (c.block, (c.cells, c.check * 2 ^ d.r + notice))

-- The entry that entering a key with a notice makes in a draft of so many rows, or the fault of the first check that fails.
abbrev pub making : Meaning → Dims → ℕ → List ℕ → ℕ → Result Placed Fault
making m d rows key notice =
    and_then (with_rows d rows) (λ _. and_then (read_for m Draft d key) (λ c. and_then (notice_in d notice) (λ x. Ok (entry_of d c x))))
