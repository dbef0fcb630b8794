-- What a table replies to a key.
use Rattle.std.specs.Prelude.{ℕ, ◌+◌, ◌*◌, ◌/◌, ◌%◌, ◌^◌, cond, List, length, Ok, Result, ◌==◌, slice_index}
use Rattle.span.specs.Fillings.{xor_over}
use Rattle.readers.specs.Meaning.{Meaning, Clause, read_for}
use Rattle.shapes.specs.Results.{and_then}
use Rattle.shapes.specs.declared.fault.Caller.TheVariants.{Table}
use Rattle.shapes.specs.declared.fault.Fault.{Fault}
use Rattle.table.specs.declared.reply.Reply.{Reply}
use Rattle.table.specs.declared.reply.Reply.TheVariants.{No, Maybe}
use Rattle.table.specs.Images.{Content, words_in, opening}

-- The XOR of the words in the cells of w bytes that are in the set.
abbrev pub xor_in : ℕ → List ℕ → ℕ → ℕ
xor_in w bs cells = xor_over (λ c. slice_index (words_in w bs) c) (length bs / w) cells

-- The word in cell c of block b.
abbrev pub word_at : Content → ℕ → ℕ → ℕ
word_at t b c = slice_index t.words (b * t.dims.n + c)

-- Where v is the XOR of the words in a key's cells: Maybe with the low r bits where the rest is the key's check, and otherwise No.
abbrev pub reply_of : ℕ → ℕ → ℕ → Reply
reply_of r check v = cond (v / 2 ^ r == check) (Maybe (v % 2 ^ r)) No

-- The reply to a clause.
abbrev pub reply_to : Content → Clause → Reply
reply_to t c = reply_of t.dims.r c.check (xor_over (word_at t c.block) t.dims.n c.cells)

-- The reply of a table to a key, through a reader of this meaning, or the fault of the first check that fails.
abbrev pub asking : Meaning → Content → List ℕ → Result Reply Fault
asking m t key = and_then (read_for m Table t.dims key) (λ c. Ok (reply_to t c))

-- The same of an image, which is opened first.
abbrev pub asking_image : Meaning → List ℕ → List ℕ → Result Reply Fault
asking_image m bs key = and_then (opening bs) (λ t. asking m t key)
