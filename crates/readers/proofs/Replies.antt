-- What a reader tells at a shape. A fact of the interface, for whoever adds a reader: what this crate's readers tell is proved without it.
use Rattle.std.proofs.Common.{◌≡◌, ℕ, ◌≤◌, true, List, length, Err}
use Rattle.std.proofs.lemmas.Bool.{and_from, cond-true, le-leb}
use Rattle.readers.specs.Meaning.{Meaning, most_key, refusal, readable, reply}
use Rattle.shapes.specs.declared.shape.Dims.{Dims}

-- at an admitted shape, with a key that is not too long, it is what the meaning gives
pub reply_given : (m : Meaning) (d : Dims) (key : List ℕ) → m.admits d ≡ true → length key ≤ most_key → reply m d key ≡ m.gives d key
reply_given m d key a l =
    cond-true (readable m d key) (m.gives d key) (Err (refusal 0 0 0)) (and_from _ _ a (le-leb (length key) most_key l))
