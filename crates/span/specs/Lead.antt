-- Which end of a set leads: the one place that says it.
use Rattle.std.specs.Prelude.{ℕ}
use Rattle.span.specs.Sets.{Lowest}

-- c is the lead cell of m: its lowest. It is shut, so that what is proved of it goes by its laws (proofs/Lead.antt).
unfoldable pub Lead : ℕ → ℕ → Type 0
Lead m c = Lowest m c
