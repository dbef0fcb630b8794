-- The worked example: its cases, and what each says in the definitions that the calls' contracts use.
use Rattle.std.specs.Prelude.{◌≡◌, ℕ, Bool, true, false, List, [], ◌∷◌, ◌++◌, Ok, Err}
use Rattle.span.specs.Kinds.{Member}
use Rattle.span.specs.Slots.{ConflictSet}
use Rattle.shapes.specs.declared.shape.Dims.{Dims}
use Rattle.shapes.specs.declared.fault.Caller.TheVariants.{Draft}
use Rattle.shapes.specs.declared.fault.Fault.TheVariants.{Conflict}
use Rattle.readers.specs.Meaning.{Clause, read_for}
use Rattle.readers.specs.Split.{split_meaning}
use Rattle.table.specs.Sizes.{cell_count, image_length}
use Rattle.table.specs.Images.{Content, bytes_of, image}
use Rattle.table.specs.Questions.{asking}
use Rattle.table.specs.declared.reply.Reply.{Reply}
use Rattle.table.specs.declared.reply.Reply.TheVariants.{No, Maybe}
use Rattle.drafts.specs.Outcomes.{dependent}
use Rattle.drafts.specs.Writing.{TableOf}
use Rattle.runs.specs.Runs.{Deed, enters, asks, Setting, setting, Entering, entries, Held, Answers}
use Rattle.runs.specs.declared.works.Outcome.{Outcome}
use Rattle.runs.specs.declared.works.Outcome.TheVariants.{Entered, Bound}

-- ---- what a case says; all go through the split reader

-- A key of a shape, and the clause that it has.
pub record Reading : Type 0 where
  pub dims : Dims
  pub key : List ℕ
  pub clause : Clause

-- The key has that clause.
abbrev pub Reads : Reading → Type 0
Reads c = read_for split_meaning Draft c.dims c.key ≡ Ok c.clause

-- Every cell set is empty.
abbrev pub NoCells : Dims → Type 0
NoCells d = (key : List ℕ) (c : Clause) → read_for split_meaning Draft d key ≡ Ok c → c.cells ≡ 0

-- A new draft with a row for each cell, and a buffer as long as the image.
abbrev pub fresh : Dims → Setting
fresh d = setting split_meaning d (cell_count d) (image_length d)

-- The four words of a set of slots, all of them below 64.
abbrev pub slot_words : ℕ → List ℕ
slot_words set = set ∷ 0 ∷ 0 ∷ 0 ∷ []

-- A call on a draft and what it answers, all in block 0: a key entered with a notice takes a slot, or is dependent in the place of one;
-- it is in conflict with a set of slots; a cell is bound, or not.
pub data Call : Type 0 where
  takes : List ℕ → ℕ → ℕ → Call
  clashes : List ℕ → ℕ → ℕ → Call
  binds : ℕ → Bool → Call

-- What is done.
abbrev pub work : Call → Deed
work (takes key notice slot) = enters key notice
work (clashes key notice set) = enters key notice
work (binds c bound) = asks 0 c

-- What it answers.
abbrev pub outcome : Call → Outcome
outcome (takes key notice slot) = Entered (Ok (0, slot))
outcome (clashes key notice set) = Entered (Err (Conflict 0 (slot_words set)))
outcome (binds c bound) = Bound (Ok bound)

-- Works on a new draft, and one call more with what it answers in a full draft.
pub record Turn : Type 0 where
  pub dims : Dims
  pub before : List Deed
  pub call : Call

-- After the works something is held, and by it the call answers so.
abbrev pub Turns : Turn → Type 0
Turns c =
    (hs : List Entering) × Held (fresh c.dims) c.before hs
    × Answers ConflictSet (fresh c.dims) hs (work c.call) (outcome c.call)

-- Works on a new draft, the table of what is held then, and the image of that table.
pub record Written : Type 0 where
  pub works : List Deed
  pub table : Content
  pub bytes : List ℕ

-- After the works something is held; that is its table, and those are the bytes of the image.
abbrev pub Writes : Written → Type 0
Writes c =
    (hs : List Entering) × Held (fresh c.table.dims) c.works hs × TableOf c.table.dims (entries hs) c.table
    × (image c.table ≡ c.bytes)

-- A table, a key, and the reply.
pub record Question : Type 0 where
  pub table : Content
  pub key : List ℕ
  pub reply : Reply

-- The table replies so to the key.
abbrev pub Replies : Question → Type 0
Replies c = asking split_meaning c.table c.key ≡ Ok c.reply

-- ---- the cases

-- The published shape: four cells.
abbrev pub four : Dims
four = record { n = 4; k = 3; s = 3; r = 2; b = 1 }

-- A shape of one cell, which every key draws twice.
abbrev pub one : Dims
one = record { n = 1; k = 2; s = 1; r = 0; b = 1 }

-- A key of four bytes as one number.
abbrev pub key : ℕ → List ℕ
key x = bytes_of 4 x

-- To enter a key.
abbrev pub enter : ℕ → ℕ → Deed
enter x notice = enters (key x) notice

-- The three keys with their notices, in order.
abbrev pub three : List Deed
three = enter 0xb85c341a 0 ∷ enter 0x87024bb7 1 ∷ enter 0x3fa6d2df 2 ∷ []

-- The same, the other way round.
abbrev pub reversed : List Deed
reversed = enter 0x3fa6d2df 2 ∷ enter 0x87024bb7 1 ∷ enter 0xb85c341a 0 ∷ []

-- The three, and a fourth that takes the cell that was free.
abbrev pub fourth : List Deed
fourth = three ++ enter 0x11100000 1 ∷ []

-- A key that has these cells and this check in block 0.
abbrev pub read : Dims → ℕ → ℕ → ℕ → Reading
read d x cells check = record { dims = d; key = key x; clause = record { block = 0; cells = cells; check = check } }

-- Key, cell set and check; all are in block 0. The cell set 11 is of the cells 0, 1 and 3.
abbrev pub readings : List Reading
readings =
    read four 0xb85c341a 11 4
    ∷ read four 0x87024bb7 8 2
    ∷ read four 0x3fa6d2df 4 6
    ∷ read four 0x3f37a1a7 8 7
    ∷ read four 0x01200000 7 0
    ∷ read four 0x01210000 7 1
    ∷ read four 0x11100000 2 0
    ∷ read one 0x00000000 0 0
    ∷ read one 0x00100000 0 1
    ∷ []

-- After works on a draft of the published shape.
abbrev pub after : List Deed → Call → Turn
after before call = record { dims = four; before = before; call = call }

-- The calls: first the three as they come, then after all three, and then in the shape of one cell.
abbrev pub turns : List Turn
turns =
    after [] (takes (key 0xb85c341a) 0 0)
    ∷ after (enter 0xb85c341a 0 ∷ []) (takes (key 0x87024bb7) 1 1)
    ∷ after (enter 0xb85c341a 0 ∷ enter 0x87024bb7 1 ∷ []) (takes (key 0x3fa6d2df) 2 2)
    ∷ after three (binds 0 true)
    ∷ after three (binds 1 false)
    ∷ after three (binds 2 true)
    ∷ after three (binds 3 true)
    ∷ after three (takes (key 0x01200000) 3 dependent)
    ∷ after three (clashes (key 0x01200000) 0 7)
    ∷ after three (clashes (key 0x01210000) 0 7)
    ∷ after three (clashes (key 0x01210000) 1 7)
    ∷ after three (clashes (key 0x01210000) 2 7)
    ∷ after three (clashes (key 0x01210000) 3 7)
    ∷ after three (takes (key 0x87024bb7) 1 dependent)
    ∷ after three (clashes (key 0x87024bb7) 2 2)
    ∷ after three (takes (key 0x11100000) 1 3)
    ∷ record { dims = one; before = []; call = takes (key 0x00000000) 0 dependent }
    ∷ record { dims = one; before = []; call = clashes (key 0x00100000) 0 0 }
    ∷ []

-- The published table.
abbrev pub published : Content
published = record { dims = four; words = 25 ∷ 0 ∷ 26 ∷ 9 ∷ [] }

-- The table with the fourth.
abbrev pub larger : Content
larger = record { dims = four; words = 24 ∷ 1 ∷ 26 ∷ 9 ∷ [] }

-- Works, the table, and its image.
abbrev pub written : List Deed → Content → List ℕ → Written
written works table bytes = record { works = works; table = table; bytes = bytes }

-- The tables, with their images.
abbrev pub writings : List Written
writings =
    written three published (0x01 ∷ 0x03 ∷ 0x00 ∷ 0x04 ∷ 0x03 ∷ 0x02 ∷ 0x00 ∷ 0x01 ∷ 0x19 ∷ 0x00 ∷ 0x1A ∷ 0x09 ∷ [])
    ∷ written reversed published (0x01 ∷ 0x03 ∷ 0x00 ∷ 0x04 ∷ 0x03 ∷ 0x02 ∷ 0x00 ∷ 0x01 ∷ 0x19 ∷ 0x00 ∷ 0x1A ∷ 0x09 ∷ [])
    ∷ written fourth larger (0x01 ∷ 0x03 ∷ 0x00 ∷ 0x04 ∷ 0x03 ∷ 0x02 ∷ 0x00 ∷ 0x01 ∷ 0x18 ∷ 0x01 ∷ 0x1A ∷ 0x09 ∷ [])
    ∷ []

-- A key asked of the published table.
abbrev pub asked : ℕ → Reply → Question
asked x reply = record { table = published; key = key x; reply = reply }

-- The keys asked of the published table.
abbrev pub questions : List Question
questions =
    asked 0x3f37a1a7 No
    ∷ asked 0xb85c341a (Maybe 0)
    ∷ asked 0x87024bb7 (Maybe 1)
    ∷ asked 0x3fa6d2df (Maybe 2)
    ∷ asked 0x01200000 (Maybe 3)
    ∷ asked 0x01210000 No
    ∷ []

-- Each case holds.
abbrev pub PublishedWords : Type 0
PublishedWords =
    ((c : Reading) → Member c readings → Reads c)
    × ((c : Turn) → Member c turns → Turns c)
    × ((c : Written) → Member c writings → Writes c)
    × ((c : Question) → Member c questions → Replies c)
    × NoCells one
