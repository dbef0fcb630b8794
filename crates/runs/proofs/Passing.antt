-- The enterings that pass the checks before the last, and the entries that they make.
use Rattle.std.proofs.Common.{◌≡◌, ℕ, ◌^◌, ◌<◌, ◌≤◌, ltb, leb, ◌⊎◌, ◌↔◌, List, [], ◌∷◌, ◌++◌, length, Ok, Err, Result, sym, refl, ap, ◌∙◌, subst, inl, inr, arith}
use Rattle.std.specs.Result.{result_map_both}
use Rattle.std.proofs.lemmas.Bool.{le-leb, ltb-true, cond-true}
use Rattle.span.specs.Kinds.{Member, SameEntries}
use Rattle.span.specs.Held.{Fits}
use Rattle.span.specs.Blocks.{Placed, FitsIn}
use Rattle.readers.specs.Meaning.{Meaning, Clause, Formed, most_key, read_for}
use Rattle.shapes.specs.Limits.{InLimits}
use Rattle.shapes.specs.Results.{and_then}
use Rattle.shapes.specs.declared.fault.Caller.{Caller}
use Rattle.shapes.specs.declared.fault.Caller.TheVariants.{Draft}
use Rattle.shapes.specs.declared.fault.Fault.{Fault}
use Rattle.shapes.specs.declared.fault.Fault.TheVariants.{LargeNotice, LongKey, NotAdmitted, TurnedDown}
use Rattle.shapes.specs.declared.fault.Refusal.{Refusal}
use Rattle.shapes.specs.declared.shape.Dims.{Dims}
use Rattle.table.specs.Sizes.{cell_count}
use Rattle.table.proofs.Images.{passed, after, same_ok}
use Rattle.drafts.specs.Entries.{answer_bits, with_rows, notice_in, entry_of, making}
use Rattle.drafts.proofs.Words.{answer_below}
use Rattle.runs.specs.Runs.{Deed, enters, writes, asks, counts, Setting, Entering, entries, entered_with, adds, passing}
use Rattle.runs.specs.Law.{enterings, Beside}
use Rattle.runs.proofs.Members.{member_map, map_member}

-- one work more
pub passing_more : (S : Setting) (E : List Entering) (ds : List Deed) (d : Deed) → passing S E (ds ++ (d ∷ [])) ≡ adds S d (passing S E ds)
passing_more S E [] d = refl
passing_more S E (x ∷ ds) d = passing_more S (adds S x E) ds d

-- ---- which enterings pass

-- its key and its notice number make its entry
abbrev pub Made : Setting → Entering → Type 0
Made S h = making S.meaning S.dims S.rows h.key h.notice ≡ Ok h.entry

-- what was entered
abbrev pub entered : Entering → List ℕ × ℕ
entered h = (h.key, h.notice)

-- an entering put before others is that one, or one of the others
put_before : (S : Setting) (key : List ℕ) (notice : ℕ) (E : List Entering) (h : Entering) (r : Result Placed Fault)
    → making S.meaning S.dims S.rows key notice ≡ r → Member h (entered_with key notice r E)
    → Member h E ⊎ (Made S h × (entered h ≡ (key, notice)))
put_before S key notice E h (Ok x) e (inl q) = inr (subst (Made S) (sym q) e, ap entered q)
put_before S key notice E h (Ok x) e (inr m) = inl m
put_before S key notice E h (Err f) e m = inl m

from_works : (S : Setting) (ds : List Deed) (E : List Entering) (h : Entering) → Member h (passing S E ds)
    → Member h E ⊎ (Made S h × Member (entered h) (enterings ds))
from_works S [] E h m = inl m
from_works S (enters key notice ∷ ds) E h m = go (from_works S ds (adds S (enters key notice) E) h m)
  where
    new : Member h E ⊎ (Made S h × (entered h ≡ (key, notice))) → Member h E ⊎ (Made S h × Member (entered h) ((key, notice) ∷ enterings ds))
    new (inl k) = inl k
    new (inr (made, q)) = inr (made, inl q)

    go : Member h (adds S (enters key notice) E) ⊎ (Made S h × Member (entered h) (enterings ds))
        → Member h E ⊎ (Made S h × Member (entered h) ((key, notice) ∷ enterings ds))
    go (inl k) = new (put_before S key notice E h (making S.meaning S.dims S.rows key notice) refl k)
    go (inr (made, k)) = inr (made, inr k)
from_works S (writes ∷ ds) E h m = from_works S ds E h m
from_works S (asks b c ∷ ds) E h m = from_works S ds E h m
from_works S (counts b ∷ ds) E h m = from_works S ds E h m

-- a work takes none away
adds_keeps : (S : Setting) (d : Deed) (E : List Entering) (h : Entering) → Member h E → Member h (adds S d E)
adds_keeps S (enters key notice) E h m = go (making S.meaning S.dims S.rows key notice)
  where
    go : (r : Result Placed Fault) → Member h (entered_with key notice r E)
    go (Ok x) = inr m
    go (Err f) = m
adds_keeps S writes E h m = m
adds_keeps S (asks b c) E h m = m
adds_keeps S (counts b) E h m = m

passing_keeps : (S : Setting) (ds : List Deed) (E : List Entering) (h : Entering) → Member h E → Member h (passing S E ds)
passing_keeps S [] E h m = m
passing_keeps S (d ∷ ds) E h m = passing_keeps S ds (adds S d E) h (adds_keeps S d E h m)

-- an entering that makes an entry is put before the others
made_added : (S : Setting) (E : List Entering) (h : Entering) → Made S h → Member h (adds S (enters h.key h.notice) E)
made_added S E h made = subst (λ (r : Result Placed Fault). Member h (entered_with h.key h.notice r E)) (sym made) (inl refl)

to_works : (S : Setting) (ds : List Deed) (E : List Entering) (h : Entering) → Made S h → Member (entered h) (enterings ds) → Member h (passing S E ds)
to_works S [] E h made m = absurd m
to_works S (enters key notice ∷ ds) E h made (inl q) =
    passing_keeps S ds (adds S (enters key notice) E) h
    (subst (λ (k : List ℕ × ℕ). Member h (adds S (enters k.0 k.1) E)) q (made_added S E h made))
to_works S (enters key notice ∷ ds) E h made (inr m) = to_works S ds (adds S (enters key notice) E) h made m
to_works S (writes ∷ ds) E h made m = to_works S ds E h made m
to_works S (asks b c ∷ ds) E h made m = to_works S ds E h made m
to_works S (counts b ∷ ds) E h made m = to_works S ds E h made m

-- the enterings that pass are those of the works whose key and notice number make an entry
pub passes : (S : Setting) (ds : List Deed) (h : Entering) → Member h (passing S [] ds) ↔ (Made S h × Member (entered h) (enterings ds))
passes S ds h = (λ m. go (from_works S ds [] h m), λ p. to_works S ds [] h p.0 p.1)
  where
    go : ⊥ ⊎ (Made S h × Member (entered h) (enterings ds)) → Made S h × Member (entered h) (enterings ds)
    go (inl z) = absurd z
    go (inr p) = p

-- ---- what an entry is made of

-- The clause of an entry that is made, which a table reads as a draft does.
pub record Makes (m : Meaning) (d : Dims) (key : List ℕ) (notice : ℕ) (x : Placed) : Type 0 where
  pub clause : Clause
  pub read : (caller : Caller) → read_for m caller d key ≡ Ok clause
  pub formed : InLimits d → Formed d clause
  pub small : notice < 2 ^ d.r
  pub is : entry_of d clause notice ≡ x

given : (r : Result Clause Refusal) (c : Clause) → result_map_both (λ c. c) TurnedDown r ≡ Ok c → r ≡ Ok c
given (Ok b) c e = ap Ok (same_ok b c e)
given (Err f) c e = let z : ◌≡◌ {A = ℕ} 0 1 = cc in absurd (omega arith)

-- what passing the checks says of each
pub makes : (m : Meaning) (d : Dims) (rows : ℕ) (key : List ℕ) (notice : ℕ) (x : Placed) → making m d rows key notice ≡ Ok x → Makes m d key notice x
makes m d rows key notice x e =
    let a = after (with_rows d rows) _ x e in
    let c = after (read_for m Draft d key) _ x a.2 in
    let y = after (notice_in d notice) _ x c.2 in
    let admitted = passed (m.admits d) _ (NotAdmitted Draft) c.0 c.1 in
    let short = passed (leb (length key) most_key) _ (LongKey Draft (length key)) c.0 admitted.1 in
    let gives : m.gives d key ≡ Ok c.0 = given (m.gives d key) c.0 short.1 in
    let few = passed (ltb notice (2 ^ d.r)) (Ok notice) (LargeNotice d.r) y.0 y.1 in
    record {
      clause = c.0;
      read = λ caller. cond-true _ _ _ admitted.0 ∙ (cond-true _ _ _ short.0 ∙ ap (result_map_both (λ c. c) TurnedDown) gives);
      formed = λ limits. m.formed d key c.0 limits admitted.0 gives;
      small = ltb-true notice (2 ^ d.r) few.0;
      is = ap (entry_of d c.0) (same_ok notice y.0 few.1) ∙ same_ok _ x y.2;
    }

-- the entry of a clause of the shape and of a notice number of r bits
entry_fits : (d : Dims) (c : Clause) (notice : ℕ) → Formed d c → notice < 2 ^ d.r
    → Fits (answer_bits d) d.n (entry_of d c notice).1 × ((entry_of d c notice).0 < d.b)
entry_fits d c notice formed small =
    ((formed.cells_within, answer_below d.s d.r c.check notice formed.check_below small), formed.block_below)

pub makes_fit : (m : Meaning) (d : Dims) (rows : ℕ) (key : List ℕ) (notice : ℕ) (x : Placed) → InLimits d → making m d rows key notice ≡ Ok x
    → Fits (answer_bits d) d.n x.1 × (x.0 < d.b)
makes_fit m d rows key notice x limits e =
    let made : Makes m d key notice x = makes m d rows key notice x e in
    subst (λ (y : Placed). Fits (answer_bits d) d.n y.1 × (y.0 < d.b)) made.is
    (entry_fits d made.clause notice (made.formed limits) made.small)

-- each entry that passes fits
pub passing_fits : (S : Setting) → InLimits S.dims → (ds : List Deed) → FitsIn (answer_bits S.dims) S.dims.n (entries (passing S [] ds))
passing_fits S limits ds x m =
    let h = map_member (λ (e : Entering). e.entry) (passing S [] ds) x m in
    let made : Made S h.0 = ((passes S ds h.0).0 h.1).0 in
    subst (λ (y : Placed). Fits (answer_bits S.dims) S.dims.n y.1) (sym h.2)
    (makes_fit S.meaning S.dims S.rows h.0.key h.0.notice h.0.entry limits made).0

-- ---- two runs beside each other

pub beside_sym : (S T : Setting) → Beside S T → Beside T S
beside_sym S T b = record { meaning = sym b.meaning; dims = sym b.dims; enough = b.enough'; enough' = b.enough }

with_enough : (d : Dims) (rows : ℕ) → cell_count d ≤ rows → with_rows d rows ≡ Ok d
with_enough d rows h = cond-true _ _ _ (le-leb (cell_count d) rows h)

-- the first check of every call passes in both
pub same_rows : (S T : Setting) → Beside S T → with_rows S.dims S.rows ≡ with_rows T.dims T.rows
same_rows S T b = with_enough S.dims S.rows b.enough ∙ (ap Ok (sym b.dims) ∙ sym (with_enough T.dims T.rows b.enough'))

-- so the same entry is made, or the same fault found
pub same_making : (S T : Setting) → Beside S T → (key : List ℕ) (notice : ℕ)
    → making S.meaning S.dims S.rows key notice ≡ making T.meaning T.dims T.rows key notice
same_making S T b key notice i =
    and_then (same_rows S T b i)
    (λ _. and_then (read_for (sym b.meaning i) Draft (sym b.dims i) key)
    (λ c. and_then (notice_in (sym b.dims i) notice) (λ x. Ok (entry_of (sym b.dims i) c x))))

entries_pass : (S T : Setting) → Beside S T → (ds es : List Deed) → SameEntries (enterings ds) (enterings es)
    → (x : Placed) → Member x (entries (passing S [] ds)) → Member x (entries (passing T [] es))
entries_pass S T b ds es same x m =
    let h = map_member (λ (e : Entering). e.entry) (passing S [] ds) x m in
    let p = (passes S ds h.0).0 h.1 in
    let made : Made T h.0 = sym (same_making S T b h.0.key h.0.notice) ∙ p.0 in
    subst (λ (y : Placed). Member y (entries (passing T [] es))) (sym h.2)
    (member_map (λ (e : Entering). e.entry) (passing T [] es) h.0 ((passes T es h.0).1 (made, (same (entered h.0)).0 p.1)))

-- the same enterings, in whatever order, make the same entries
pub same_passing : (S T : Setting) → Beside S T → (ds es : List Deed) → SameEntries (enterings ds) (enterings es)
    → SameEntries (entries (passing S [] ds)) (entries (passing T [] es))
same_passing S T b ds es same x =
    (entries_pass S T b ds es same x, entries_pass T S (beside_sym S T b) es ds (λ e. ((same e).1, (same e).0)) x)
