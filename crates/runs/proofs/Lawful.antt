-- The law over runs: its parts, and the law from them.
use Rattle.std.proofs.Common.{◌≡◌, ℕ, ◌+◌, ◌*◌, ◌/◌, ◌%◌, ◌^◌, ◌<◌, ◌≤◌, Bool, true, false, cond, ltb, ◌↔◌, List, [], length, get_or, take, Ok, Err, Result, sym, refl, ap, ◌∙◌, subst, arith}
use Rattle.std.proofs.Math.Path.{transport}
use Rattle.std.proofs.lemmas.Nat.{div-add-mod', mod_below}
use Rattle.std.proofs.lemmas.List.{ext_get_or, get_or-take}
use Rattle.std.proofs.lemmas.Bool.{eq-eqb, cond-true}
use Rattle.span.specs.Kinds.{Member, SameEntries}
use Rattle.span.specs.Echelon.{Row, State}
use Rattle.span.specs.Held.{InSlots, CountBound}
use Rattle.span.specs.Slots.{ConflictSet, Blame}
use Rattle.span.specs.Marked.{Full, lean_marks, StandsFor}
use Rattle.span.specs.Blocks.{Placed, of, SatisfiesIn, HeldIn, BoundIn}
use Rattle.span.proofs.Once.{in_slots_one}
use Rattle.span.proofs.Held.{held_members}
use Rattle.span.proofs.Satisfied.{held_is_answered}
use Rattle.span.proofs.Slots.{conflict_one}
use Rattle.span.proofs.Count.{count_le, count_bound_one, count_bound_same}
use Rattle.span.proofs.Runs.{Standing, held_standing}
use Rattle.span.proofs.Blocks.{held_of, fits_of, bound_in_any_order, table_in_same}
use Rattle.readers.specs.Meaning.{Meaning}
use Rattle.shapes.specs.Limits.{InLimits}
use Rattle.shapes.specs.Results.{and_then}
use Rattle.shapes.specs.declared.fault.Caller.TheVariants.{Table}
use Rattle.shapes.specs.declared.fault.Fault.{Fault}
use Rattle.shapes.specs.declared.fault.Fault.TheVariants.{NoBlock, NoCell}
use Rattle.shapes.specs.declared.shape.Dims.{Dims}
use Rattle.table.specs.Sizes.{cell_count}
use Rattle.table.specs.Images.{Content, image, opening}
use Rattle.table.specs.Questions.{word_at, reply_to, asking, asking_image}
use Rattle.table.specs.declared.reply.Reply.TheVariants.{Maybe}
use Rattle.table.proofs.Images.{opens_as_its_table}
use Rattle.drafts.specs.Entries.{answer_bits}
use Rattle.drafts.specs.Questions.{block_in, cell_in, Tells, SaysBound, TellsBound, TellsCount}
use Rattle.drafts.specs.Writing.{TableOf}
use Rattle.runs.specs.declared.works.Outcome.{Outcome}
use Rattle.runs.specs.declared.works.Outcome.TheVariants.{Wrote}
use Rattle.runs.specs.Runs.{Deed, writes, Setting, Entering, entries, passing, Held, Answers}
use Rattle.runs.specs.Law.{enterings, Writes, Beside, Alike, Lawful}
use Rattle.runs.proofs.Members.{same_refl, member_map}
use Rattle.runs.proofs.Passing.{Makes, makes, passes, passing_fits, same_rows, same_passing}
use Rattle.runs.proofs.Holding.{Can, held_unique, held_in}

-- ---- slots

-- the slots of a block have a state that stands for what it holds
slots_stand : (S : Setting) → InLimits S.dims → (ds : List Deed) (hs : List Entering) → Held S ds hs
    → (b : ℕ) (L : List (Row ℕ)) → InSlots (of b (entries hs)) L → (T : State Full) × StandsFor lean_marks S.dims.n (of b (entries hs)) L T
slots_stand S limits ds hs held b L slots =
    let w = answer_bits S.dims in
    let n = S.dims.n in
    let E = entries (passing S [] ds) in
    let r : Standing lean_marks w n (of b (entries hs)) =
    held_standing lean_marks w n (of b E) (of b (entries hs)) (fits_of w n E (passing_fits S limits ds) b) (held_of w n E (entries hs) (held_in S ds hs held) b) in
    subst (λ (M : List (Row ℕ)). (T : State Full) × StandsFor lean_marks n (of b (entries hs)) M T) (in_slots_one (of b (entries hs)) r.0 L r.1 slots) r.2

-- there are as many as rows, and no more rows than cells
pub slots_few : (S : Setting) → InLimits S.dims → (ds : List Deed) (hs : List Entering) → Held S ds hs → (b : ℕ) (L : List (Row ℕ)) → InSlots (of b (entries hs)) L
    → length L ≤ S.dims.n
slots_few S limits ds hs held b L slots =
    let r = slots_stand S limits ds hs held b L slots in
    omega (arith, r.1.3, count_le r.0 S.dims.n)

pub slots_to_blame : (S : Setting) → InLimits S.dims → (ds : List Deed) (hs : List Entering) → Held S ds hs → (b : ℕ) (L : List (Row ℕ)) → InSlots (of b (entries hs)) L
    → (e : Row ℕ) (t u : ℕ) → ConflictSet L e t → ConflictSet L e u → t ≡ u
slots_to_blame S limits ds hs held b L slots = conflict_one L (slots_stand S limits ds hs held b L slots).1.2

-- ---- the table

-- the word at i, by block and cell
word_at_lem : (d : Dims) (t : Content) → t.dims ≡ d → (i : ℕ) → word_at t (i / d.n) (i % d.n) ≡ get_or t.words i 0
word_at_lem d t e i =
    ap (λ (f : Dims). get_or t.words (i / d.n * f.n + i % d.n) 0) e ∙ ap (λ (j : ℕ). get_or t.words j 0) (div-add-mod' i d.n)

-- tables with the same words in each cell of each block are equal
same_content : (d : Dims) → InLimits d → (G H : List Placed) (t u : Content) → TableOf d G t → TableOf d H u
    → ((b c : ℕ) → c < d.n → word_at t b c ≡ word_at u b c) → t ≡ u
same_content d limits G H t u tab tab' same =
    let dims : t.dims ≡ u.dims = tab.dims ∙ sym tab'.dims in
    let words : t.words ≡ u.words =
    ext_get_or 0 t.words u.words (tab.sound.count ∙ (ap cell_count dims ∙ sym tab'.sound.count))
    (λ i h. sym (word_at_lem d t tab.dims i) ∙ (same (i / d.n) (i % d.n) (mod_below i d.n limits.n_low) ∙ word_at_lem d u tab'.dims i)) in
    λ i. record { dims = dims i; words = words i }

-- runs of one shape that hold the same entries have the same table
pub same_table : (S T : Setting) → InLimits S.dims → T.dims ≡ S.dims → (ds es : List Deed) (hs gs : List Entering) → Held S ds hs → Held T es gs
    → SameEntries (entries hs) (entries gs) → (t u : Content) → TableOf S.dims (entries hs) t → TableOf T.dims (entries gs) u → t ≡ u
same_table S T limits same_dims ds es hs gs held held' same t u tab tab' =
    let d = S.dims in
    let E = entries (passing S [] ds) in
    let F = entries (passing T [] es) in
    let other : HeldIn (answer_bits d) d.n F (entries gs) =
    subst (λ (f : Dims). HeldIn (answer_bits f) f.n F (entries gs)) same_dims (held_in T es gs held') in
    let tab'' : TableOf d (entries gs) u = subst (λ (f : Dims). TableOf f (entries gs) u) same_dims tab' in
    same_content d limits (entries hs) (entries gs) t u tab tab''
    (table_in_same (answer_bits d) d.n E F (entries hs) (entries gs) (passing_fits S limits ds) (held_in S ds hs held) other same
    (word_at t) (word_at u) tab.filling tab''.filling)

pub table_one : (S : Setting) → InLimits S.dims → (ds : List Deed) (hs : List Entering) → Held S ds hs
    → (t u : Content) → TableOf S.dims (entries hs) t → TableOf S.dims (entries hs) u → t ≡ u
table_one S limits ds hs held = same_table S S limits refl ds ds hs hs held held (same_refl (entries hs))

-- ---- what is written

-- the image that was written opens as the table of what is held
pub written_opens : (S : Setting) (ds : List Deed) (r : Result ℕ Fault) (buffer : List ℕ) → Writes S ds r buffer
    → (hs : List Entering) → Held S ds hs → (len : ℕ) → r ≡ Ok len
    → (t : Content) × TableOf S.dims (entries hs) t × (opening (take len buffer) ≡ Ok t)
written_opens S ds r buffer w hs held len e =
    let q = w.table hs held len e in
    (q.0, q.1, ap opening q.2 ∙ opens_as_its_table q.0 q.1.sound)

-- a table that satisfies the entry of a key answers the key with its notice number
table_answers : (m : Meaning) (t : Content) (key : List ℕ) (notice : ℕ) (x : Placed) → Makes m t.dims key notice x
    → SatisfiesIn t.dims.n (word_at t) x → asking m t key ≡ Ok (Maybe notice)
table_answers m t key notice x made sat =
    let c = made.clause in
    let d = t.dims in
    let own : SatisfiesIn d.n (word_at t) (c.block, (c.cells, c.check * 2 ^ d.r + notice)) = subst (SatisfiesIn d.n (word_at t)) (sym made.is) sat in
    let v = held_is_answered d.n d.r (word_at t c.block) c.cells c.check notice made.small own in
    ap (λ o. and_then o (λ k. Ok (reply_to t k))) (made.read Table)
    ∙ ap Ok (cond-true _ _ _ (eq-eqb _ c.check v.0) ∙ ap Maybe v.1)

-- what is held was made
held_makes : (S : Setting) (ds : List Deed) (hs : List Entering) → Held S ds hs → (h : Entering) → Member h hs
    → Makes S.meaning S.dims h.key h.notice h.entry
held_makes S ds hs held h m =
    makes S.meaning S.dims S.rows h.key h.notice h.entry
    ((passes S ds h).0 (held_members (Can S) (passing S [] ds) hs held h m)).0

-- asked through the reader, the image that was written answers every key held with its notice number
pub written_finds : (S : Setting) (ds : List Deed) (r : Result ℕ Fault) (buffer : List ℕ) → Writes S ds r buffer
    → (hs : List Entering) → Held S ds hs → (len : ℕ) → r ≡ Ok len
    → (h : Entering) → Member h hs → asking_image S.meaning (take len buffer) h.key ≡ Ok (Maybe h.notice)
written_finds S ds r buffer w hs held len e h m =
    let q = written_opens S ds r buffer w hs held len e in
    let t = q.0 in
    let dims : S.dims ≡ t.dims = sym q.1.dims in
    ap (λ o. and_then o (λ u. asking S.meaning u h.key)) q.2
    ∙ table_answers S.meaning t h.key h.notice h.entry
    (subst (λ (d : Dims). Makes S.meaning d h.key h.notice h.entry) dims (held_makes S ds hs held h m))
    (subst (λ (d : Dims). SatisfiesIn d.n (word_at t) h.entry) dims
    (q.1.filling.0 h.entry (member_map (λ (k : Entering). k.entry) hs h m)))

-- ---- runs beside each other

-- one answer where the checks are the same and at most one value has the property
tells_one : {X Y : Type 0} (o : Result X Fault) (P Q : Y → Type 0) → ((y z : Y) → P y → Q z → y ≡ z)
    → (r q : Result Y Fault) → Tells o P r → Tells o Q q → r ≡ q
tells_one (Ok x) P Q one r q (y, p, hy) (z, p', hz) = p ∙ (ap Ok (one y z hy hz) ∙ sym p')
tells_one (Err f) P Q one r q p p' = p ∙ sym p'

says_one : (G H : List Placed) (b c : ℕ) → BoundIn G b c ↔ BoundIn H b c → (y z : Bool) → SaysBound G b c y → SaysBound H b c z → y ≡ z
says_one G H b c same true true p q = refl
says_one G H b c same true false p q = sym (q.1 (same.0 (p.0 refl)))
says_one G H b c same false true p q = p.1 (same.1 (q.0 refl))
says_one G H b c same false false p q = refl

counts_one : (G H : List Placed) (b n : ℕ) → ((c : ℕ) → BoundIn G b c ↔ BoundIn H b c) → (y z : ℕ) → CountBound (of b G) n y → CountBound (of b H) n z → y ≡ z
counts_one G H b n same y z p q = count_bound_one (of b H) n y z (count_bound_same (of b G) (of b H) same n y p) q

module _ (S T : Setting) (beside : Beside S T) where
  -- the same block or the same fault
  same_block : (b : ℕ) → block_in T.dims T.rows b ≡ block_in S.dims S.rows b
  same_block b i = and_then (sym (same_rows S T beside) i) (λ _. cond (ltb b (beside.dims i).b) (Ok b) (Err NoBlock))

  same_cell : (b c : ℕ) → cell_in T.dims T.rows b c ≡ cell_in S.dims S.rows b c
  same_cell b c i = and_then (same_block b i) (λ _. cond (ltb c (beside.dims i).n) (Ok c) (Err NoCell))

  -- what one tells of entries, the other would
  tells_bound : (H : List Placed) (b c : ℕ) (q : Result Bool Fault) → TellsBound T.dims T.rows H b c q → TellsBound S.dims S.rows H b c q
  tells_bound H b c q = transport (λ i. Tells (same_cell b c i) (SaysBound H b c) q)

  tells_count : (H : List Placed) (b : ℕ) (q : Result ℕ Fault) → TellsCount T.dims T.rows H b q → TellsCount S.dims S.rows H b q
  tells_count H b q = transport (λ i. Tells (same_block b i) (CountBound (of b H) (beside.dims i).n) q)

  -- runs that bind the same cells answer alike about them
  same_answers : (hs gs : List Entering) → ((b c : ℕ) → BoundIn (entries hs) b c ↔ BoundIn (entries gs) b c) → Alike S T hs gs
  same_answers hs gs bound =
      let G = entries hs in
      let H = entries gs in
      record {
        bound = bound;
        cell = λ b c r q p p'. tells_one (cell_in S.dims S.rows b c) (SaysBound G b c) (SaysBound H b c) (says_one G H b c (bound b c)) r q p (tells_bound H b c q p');
        count = λ b r q p p'.
            tells_one (block_in S.dims S.rows b) (CountBound (of b G) S.dims.n) (CountBound (of b H) S.dims.n)
            (counts_one G H b S.dims.n (bound b)) r q p (tells_count H b q p');
      }

  -- another run of the same enterings, in whatever order, binds the same cells and answers alike about them
  pub runs_alike : InLimits S.dims → (ds es : List Deed) → SameEntries (enterings ds) (enterings es)
      → (hs gs : List Entering) → Held S ds hs → Held T es gs → Alike S T hs gs
  runs_alike limits ds es same hs gs held held' =
      let d = S.dims in
      let F = entries (passing T [] es) in
      same_answers hs gs
      (bound_in_any_order (answer_bits d) d.n (entries (passing S [] ds)) F (entries hs) (entries gs) (passing_fits S limits ds) (held_in S ds hs held)
      (subst (λ (f : Dims). HeldIn (answer_bits f) f.n F (entries gs)) beside.dims (held_in T es gs held'))
      (same_passing S T beside ds es same))

  -- runs that hold the same entries write equal images
  pub images_equal : InLimits S.dims → (ds es : List Deed) (hs gs : List Entering) → Held S ds hs → Held T es gs → SameEntries (entries hs) (entries gs)
      → (r q : Result ℕ Fault) (buffer buffer' : List ℕ) → Writes S ds r buffer → Writes T es q buffer'
      → (len len' : ℕ) → r ≡ Ok len → q ≡ Ok len' → take len buffer ≡ take len' buffer'
  images_equal limits ds es hs gs held held' same r q buffer buffer' w w' len len' e e' =
      let x = w.table hs held len e in
      let y = w'.table gs held' len' e' in
      x.2 ∙ (ap image (same_table S T limits beside.dims ds es hs gs held held' same x.0 y.0 x.1 y.1) ∙ sym y.2)

-- ---- the law

pub lawful : (blame : Blame) (S : Setting) → InLimits S.dims
    → (ds : List Deed) (os : List Outcome) (r : Result ℕ Fault) (buffer : List ℕ)
    → ((hs : List Entering) × Held S ds hs)
    → ((i : ℕ) → i < length ds → (hs : List Entering) → Held S (take i ds) hs → Answers blame S hs (get_or ds i writes) (get_or os i (Wrote (Ok 0))))
    → Writes S ds r buffer → Lawful blame S ds os r buffer
lawful blame S limits ds os r buffer (hs, held) answered written = record {
  held = (hs, held, λ gs held'. held_unique S ds hs gs held held');
  answered = answered;
  few = λ i. slots_few S limits (take i ds);
  slots = λ i. slots_to_blame S limits (take i ds);
  written = written;
  one = table_one S limits ds;
  opens = written_opens S ds r buffer written;
  found = written_finds S ds r buffer written;
  alike = λ T beside es same hs gs held held'. runs_alike S T beside limits ds es same hs gs held held';
  equal = λ T beside es hs gs held held' same q buffer' written' len len' e e'.
      images_equal S T beside limits ds es hs gs held held' same r q buffer buffer' written written' len len' e e';
}

-- outcomes past the works say nothing
pub lawful_first : (blame : Blame) (S : Setting) → InLimits S.dims
    → (ds : List Deed) (os : List Outcome) (n : ℕ) → length ds ≤ n → (r : Result ℕ Fault) (buffer : List ℕ)
    → Lawful blame S ds (take n os) r buffer → Lawful blame S ds os r buffer
lawful_first blame S limits ds os n all r buffer law =
    lawful blame S limits ds os r buffer (law.held.0, law.held.1)
    (λ i h hs held. subst (Answers blame S hs (get_or ds i writes)) (get_or-take n os i (Wrote (Ok 0)) (omega arith)) (law.answered i h hs held))
    law.written
