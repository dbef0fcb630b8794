-- The table of what is held, and writing its image.
use Rattle.std.specs.Prelude.{◌≡◌, ℕ, cond, List, Ok, Err, Result, nat_le}
use Rattle.span.specs.Blocks.{Placed, IsTableIn}
use Rattle.shapes.specs.Results.{and_then}
use Rattle.shapes.specs.declared.fault.Fault.{Fault}
use Rattle.shapes.specs.declared.fault.Fault.TheVariants.{ShortBuffer}
use Rattle.shapes.specs.declared.shape.Dims.{Dims}
use Rattle.table.specs.Sizes.{image_length}
use Rattle.table.specs.Images.{Content}
use Rattle.table.specs.Laws.{Sound}
use Rattle.table.specs.Questions.{word_at}
use Rattle.drafts.specs.Entries.{with_rows}

-- What writing answers: the image's length, or the fault of the first check that fails.
abbrev pub writing : Dims → ℕ → ℕ → Result ℕ Fault
writing d rows room =
    and_then (with_rows d rows) (λ _. cond (nat_le (image_length d) room) (Ok (image_length d)) (Err (ShortBuffer (image_length d))))

-- t is the table of the entries H at this shape: its words satisfy them all, and are zero in every free cell.
pub record TableOf (d : Dims) (H : List Placed) (t : Content) : Type 0 where
  pub dims : t.dims ≡ d
  pub sound : Sound t
  pub filling : IsTableIn d.n H (word_at t)
