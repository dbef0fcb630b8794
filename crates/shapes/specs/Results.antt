-- One call after another.
use Rattle.std.specs.Prelude.{Ok, Err, Result}

-- What `f` answers to the value, or the error as it is: what `?` does.
abbrev pub and_then : {T U E : Type 0} → Result T E → (T → Result U E) → Result U E
and_then (Ok x) f = f x
and_then (Err e) f = Err e
