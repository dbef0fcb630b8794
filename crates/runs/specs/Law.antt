-- The law over runs.
use Rattle.std.specs.Prelude.{◌≡◌, ℕ, ◌<◌, ◌≤◌, Bool, ◌↔◌, List, [], ◌∷◌, length, take, Ok, Result, slice_index_or}
use Rattle.span.specs.Kinds.{Member, SameEntries}
use Rattle.span.specs.Echelon.{Row}
use Rattle.span.specs.Held.{InSlots}
use Rattle.span.specs.Slots.{ConflictSet, Blame}
use Rattle.span.specs.Blocks.{of, BoundIn}
use Rattle.shapes.specs.declared.fault.Fault.{Fault}
use Rattle.table.specs.Sizes.{cell_count}
use Rattle.table.specs.Images.{Content, image, opening}
use Rattle.table.specs.Questions.{asking_image}
use Rattle.table.specs.declared.reply.Reply.TheVariants.{Maybe}
use Rattle.drafts.specs.Questions.{TellsBound, TellsCount}
use Rattle.drafts.specs.Writing.{writing, TableOf}
use Rattle.runs.specs.Runs.{Deed, enters, writes, asks, counts, Setting, Entering, entries, Held, Answers}
use Rattle.runs.specs.declared.works.Outcome.{Outcome}
use Rattle.runs.specs.declared.works.Outcome.TheVariants.{Wrote}

-- The key and the notice number of each entering among the works, refused ones too.
abbrev pub enterings : List Deed → List (List ℕ × ℕ)
enterings [] = []
enterings (enters key notice ∷ ds) = (key, notice) ∷ enterings ds
enterings (writes ∷ ds) = enterings ds
enterings (asks b c ∷ ds) = enterings ds
enterings (counts b ∷ ds) = enterings ds

-- What writing gives after the works: it answers r, and the buffer is then `buffer`.
-- Where it succeeds, its first bytes are the image of the table of what is held.
pub record Writes (S : Setting) (ds : List Deed) (r : Result ℕ Fault) (buffer : List ℕ) : Type 0 where
  pub answers : r ≡ writing S.dims S.rows S.room
  pub table : (hs : List Entering) → Held S ds hs → (len : ℕ) → r ≡ Ok len
      → (t : Content) × TableOf S.dims (entries hs) t × (take len buffer ≡ image t)

-- Another run of the same meaning and shape, with rows enough.
pub record Beside (S T : Setting) : Type 0 where
  pub meaning : T.meaning ≡ S.meaning
  pub dims : T.dims ≡ S.dims
  pub enough : cell_count S.dims ≤ S.rows
  pub enough' : cell_count T.dims ≤ T.rows

-- Two runs of the same enterings in whatever order, holding hs and gs: the same cells are bound, and questions about them are answered alike.
pub record Alike (S T : Setting) (hs gs : List Entering) : Type 0 where
  pub bound : (b c : ℕ) → BoundIn (entries hs) b c ↔ BoundIn (entries gs) b c
  pub cell : (b c : ℕ) (r q : Result Bool Fault) → TellsBound S.dims S.rows (entries hs) b c r → TellsBound T.dims T.rows (entries gs) b c q → r ≡ q
  pub count : (b : ℕ) (r q : Result ℕ Fault) → TellsCount S.dims S.rows (entries hs) b r → TellsCount T.dims T.rows (entries gs) b q → r ≡ q

-- A run of the works ds on a fresh draft, in which they answered os, and then a writing: it answered r, and the buffer is then `buffer`.
pub record Lawful (blame : Blame) (S : Setting) (ds : List Deed) (os : List Outcome) (r : Result ℕ Fault) (buffer : List ℕ)
    : Type 0 where
  -- What is held goes by the meaning, the shape, the number of rows and the list of works alone.
  pub held : (hs : List Entering) × Held S ds hs × ((gs : List Entering) → Held S ds gs → hs ≡ gs)
  -- Each work answers by what is held when its turn comes: an entering that passes the earlier checks is a conflict
  -- exactly when no filling satisfies what is held and its own entry, and otherwise it is taken.
  pub answered : (i : ℕ) → i < length ds → (hs : List Entering) → Held S (take i ds) hs → Answers blame S hs (slice_index_or ds i writes) (slice_index_or os i (Wrote (Ok 0)))
  -- At each place of the run a block has at most as many slots as cells, so that no slot is the number of a dependent entry,
  -- and one set of slots at most can be to blame for a conflict.
  pub few : (i : ℕ) (hs : List Entering) → Held S (take i ds) hs → (b : ℕ) (L : List (Row ℕ)) → InSlots (of b (entries hs)) L → length L ≤ S.dims.n
  pub slots : (i : ℕ) (hs : List Entering) → Held S (take i ds) hs → (b : ℕ) (L : List (Row ℕ)) → InSlots (of b (entries hs)) L
      → (e : Row ℕ) (t u : ℕ) → ConflictSet L e t → ConflictSet L e u → t ≡ u
  -- With rows and buffer enough the writing succeeds, and its bytes are the image of the table of what is held, which is one.
  pub written : Writes S ds r buffer
  pub one : (hs : List Entering) → Held S ds hs → (t u : Content) → TableOf S.dims (entries hs) t → TableOf S.dims (entries hs) u → t ≡ u
  -- That image opens as that table, and asked through the reader it answers every key held with its notice number.
  pub opens : (hs : List Entering) → Held S ds hs → (len : ℕ) → r ≡ Ok len
      → (t : Content) × TableOf S.dims (entries hs) t × (opening (take len buffer) ≡ Ok t)
  pub found : (hs : List Entering) → Held S ds hs → (len : ℕ) → r ≡ Ok len
      → (h : Entering) → Member h hs → asking_image S.meaning (take len buffer) h.key ≡ Ok (Maybe h.notice)
  -- Another run of the same enterings, in whatever order, binds the same cells and answers alike about them.
  pub alike : (T : Setting) → Beside S T → (es : List Deed) → SameEntries (enterings ds) (enterings es)
      → (hs gs : List Entering) → Held S ds hs → Held T es gs → Alike S T hs gs
  -- If both hold the same entries, their images are equal.
  pub equal : (T : Setting) → Beside S T → (es : List Deed) (hs gs : List Entering) → Held S ds hs → Held T es gs → SameEntries (entries hs) (entries gs)
      → (q : Result ℕ Fault) (buffer' : List ℕ) → Writes T es q buffer' → (len len' : ℕ) → r ≡ Ok len → q ≡ Ok len'
      → take len buffer ≡ take len' buffer'
