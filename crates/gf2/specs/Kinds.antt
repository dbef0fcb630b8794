-- How the values of an answer kind are seen as words with slot sets.
use Rattle.std.specs.Prelude.{◌≡◌}
use Rattle.span.specs.Kinds.{Kind}
use Rattle.span.specs.Marked.{Full, fulls}

-- The view goes by what a value stands for, and keeps sums.
pub record Seen {K A : Type 0} (mean : K → A) (kind : Kind A) (view : K → Full) : Type 0 where
  pub through : A → Full
  pub of_mean : (x : K) → view x ≡ through (mean x)
  pub of_none : through kind.none ≡ fulls.none
  pub of_sum : (x y : A) → through (kind.sum x y) ≡ fulls.sum (through x) (through y)
