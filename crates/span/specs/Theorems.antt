-- The theorems: of sets and words, of rows, of one block of n cells, and then of all blocks. Each is the contract of one function.
use Rattle.std.specs.Prelude.{◌≡◌, true, false, ◌↔◌, List, [], ◌∷◌, length, ℕ, suc, ◌+◌, ◌*◌, ◌/◌, ◌%◌, ◌^◌, ◌<◌}
use Rattle.std.specs.Int.Bits.{bit_xor}
use Rattle.span.specs.Sets.{has, differs, Within}
use Rattle.span.specs.Lead.{Lead}
use Rattle.span.specs.Kinds.{Kind, numbers, Comb, SameEntries}
use Rattle.span.specs.Echelon.{Row, rows, State, Echelon, Reduces, Stands, Put, SameBelow}
use Rattle.span.specs.Fillings.{xor_over, Satisfies, SatisfiesAll, Below, Solvable, SatisfiesRows, ZeroInFree, substituted, SubstitutedFrom}
use Rattle.span.specs.Held.{cells_of, BoundBy, Fits, FitsAll, Held, Run, CountBound, IsTable}
use Rattle.span.specs.Slots.{chosen, Apart, ConflictSet}
use Rattle.span.specs.Marked.{Marks, full_marks, lean_marks, word_state, bare_row, StandsFor, Decided, NoSlots, Blames}
use Rattle.span.specs.Blocks.{Placed, of, HeldIn, SolvableIn, FitsIn, BoundIn, IsTableIn}

-- XOR of two sets holds what exactly one of them holds.
abbrev pub XorIsDifference : Type 0
XorIsDifference = (a b c : ℕ) → has (bit_xor a b) c ≡ differs (has a c) (has b c)

-- The XOR over a symmetric difference is the XOR of the two XORs.
abbrev pub XorOverIsLinear : Type 0
XorOverIsLinear = (f : ℕ → ℕ) (n a b : ℕ) → xor_over f n (bit_xor a b) ≡ bit_xor (xor_over f n a) (xor_over f n b)

-- A filling that satisfies an entry answers with the two numbers that its word was put together from.
abbrev pub HeldIsAnswered : Type 0
HeldIsAnswered =
    (n r : ℕ) (f : ℕ → ℕ) (m check notice : ℕ) → notice < 2 ^ r → Satisfies n f (m, check * 2 ^ r + notice)
    → (xor_over f n m / 2 ^ r ≡ check) × (xor_over f n m % 2 ^ r ≡ notice)

-- A filling that satisfies all entries satisfies each combination of them.
abbrev pub CombinationsFollow : Type 0
CombinationsFollow = (n : ℕ) (f : ℕ → ℕ) (H : List (Row ℕ)) → SatisfiesAll n f H → (v : Row ℕ) → Comb (rows numbers) H v → Satisfies n f v

-- For every answer kind, each row reduces, and to one row only.
abbrev pub ReductionIsOne : {A : Type 0} → Kind A → Type 0
ReductionIsOne {A} K =
    (n : ℕ) (S : State A) → Echelon n S
    → (v : Row A) → (w : Row A) × Reduces K n S v w × ((x : Row A) → Reduces K n S v x → w ≡ x)

-- For every answer kind, a reduced row put at its lead cell stands for the entries with the new one, and one that reduced to nothing does so as it is.
abbrev pub StepStands : {A : Type 0} → Kind A → Type 0
StepStands {A} K =
    (n : ℕ) (H : List (Row A)) (S : State A) → Stands K n H S
    → (e v : Row A) → Within n e.0 → Reduces K n S e v
    → ((p : ℕ) → Lead v.0 p → (T : State A) → Put S p v T → Stands K n (e ∷ H) T)
    × ((v ≡ (rows K).none) → Stands K n (e ∷ H) S)

-- For every answer kind, the bound cells of a state are exactly the cells that lead some combination of the entries' cell sets.
abbrev pub BoundIsBound : {A : Type 0} → Kind A → Type 0
BoundIsBound {A} K =
    (n : ℕ) (H : List (Row A)) (S : State A) → Stands K n H S
    → (c : ℕ) → ((c < n) × (S.bound c ≡ true)) ↔ BoundBy H c

-- An entry that reduces to no cells and a word other than zero is satisfied by no filling that satisfies the held entries.
abbrev pub ConflictIsConflict : Type 0
ConflictIsConflict =
    (n : ℕ) (H : List (Row ℕ)) (S : State ℕ) → Stands numbers n H S
    → (e v : Row ℕ) → Reduces numbers n S e v → v.0 ≡ 0 → ¬ (v.1 ≡ 0) → (f : ℕ → ℕ) → ¬ SatisfiesAll n f (e ∷ H)

-- A state has one filling that satisfies its rows and has zero in the free cells.
abbrev pub TableIsOne : Type 0
TableIsOne =
    (n : ℕ) (S : State ℕ) → Echelon n S
    → (f : ℕ → ℕ) × SatisfiesRows n S f × ZeroInFree n S f
    × ((g : ℕ → ℕ) → SatisfiesRows n S g → ZeroInFree n S g → (c : ℕ) → c < n → f c ≡ g c)

-- Substitution back: the word of one more cell, made from words above it, disturbs none of those.
abbrev pub SubstitutionGoesDown : Type 0
SubstitutionGoesDown =
    (n : ℕ) (S : State ℕ) → Echelon n S → (k : ℕ) → k < n
    → (f g : ℕ → ℕ) → SubstitutedFrom (suc k) n S f → g k ≡ substituted n S f k → ((c : ℕ) → c < n → ¬ (c ≡ k) → g c ≡ f c) → SubstitutedFrom k n S g

-- The filling in which every cell has the word that substitution gives it is the one that satisfies the rows and has zero in the free cells.
abbrev pub SubstitutionSolves : Type 0
SubstitutionSolves = (n : ℕ) (S : State ℕ) → Echelon n S → (f : ℕ → ℕ) → SubstitutedFrom 0 n S f ↔ (SatisfiesRows n S f × ZeroInFree n S f)

-- Where a state stands for the entries, a filling that satisfies its rows and has zero in the free cells is the table of the entries, and no other is.
abbrev pub RowsGiveTable : Type 0
RowsGiveTable =
    (n : ℕ) (H : List (Row ℕ)) (S : State ℕ) → Stands numbers n H S
    → (f : ℕ → ℕ) → (SatisfiesRows n S f × ZeroInFree n S f) ↔ IsTable n H f

-- Entries for which a state stands can be satisfied.
abbrev pub StandingIsSolvable : Type 0
StandingIsSolvable = (w n : ℕ) (H : List (Row ℕ)) (S : State ℕ) → Stands numbers n H S → FitsAll w n H → Solvable w n H

-- After every list of enterings there is one table, of words of w bits.
abbrev pub HeldHasTable : Type 0
HeldHasTable =
    (w n : ℕ) (E H : List (Row ℕ)) → FitsAll w n E → Held w n E H
    → (f : ℕ → ℕ) × Below w f × IsTable n H f × ((g : ℕ → ℕ) → IsTable n H g → (c : ℕ) → c < n → f c ≡ g c)

-- The bound cells go by what was entered, taken or not, in any order and however often.
abbrev pub BoundInAnyOrder : Type 0
BoundInAnyOrder =
    (w n : ℕ) (E F G H : List (Row ℕ)) → FitsAll w n E → Held w n E G → Held w n F H → SameEntries E F → (c : ℕ) → BoundBy G c ↔ BoundBy H c

-- Blocks that hold the same entries have the same table.
abbrev pub SameHeldSameTable : Type 0
SameHeldSameTable =
    (w n : ℕ) (E F G H : List (Row ℕ)) → FitsAll w n E → Held w n E G → Held w n F H → SameEntries G H
    → (f g : ℕ → ℕ) → IsTable n G f → IsTable n H g → (c : ℕ) → c < n → f c ≡ g c

-- Every list of enterings that fit is a run, and what is held and what stands in the slots goes by that list alone.
abbrev pub RunIsOne : Type 0
RunIsOne =
    (w n : ℕ) (E : List (Row ℕ)) → FitsAll w n E
    → (H : List (Row ℕ)) × (L : List (Row ℕ)) × Run w n E H L × ((H' L' : List (Row ℕ)) → Run w n E H' L' → (H ≡ H') × (L ≡ L'))

-- What a run holds is what is held after its enterings.
abbrev pub RunIsHeld : Type 0
RunIsHeld = (w n : ℕ) (E H L : List (Row ℕ)) → Run w n E H L → Held w n E H

-- For every kind with marks, a state with no bound cell stands for nothing held, whatever its rows hold.
abbrev pub OpenStands : {A : Type 0} {K : Kind A} → Marks K → Type 0
OpenStands {A} M = (n : ℕ) (S : State A) → ((c : ℕ) → c < n → S.bound c ≡ false) → StandsFor M n [] [] S

-- For every kind with marks, the reduction decides between slot, dependent and conflict.
abbrev pub Decides : {A : Type 0} {K : Kind A} → Marks K → Type 0
Decides {A} {K} M =
    (w n : ℕ) (H L : List (Row ℕ)) (S : State A) → FitsAll w n H → StandsFor M n H L S
    → (e : Row ℕ) → Fits w n e → (v : Row A) → Reduces K n S (bare_row M e) v → Decided M w n H L S e v

-- For every kind with marks, a state that stands for the held entries with slots has words that stand for the held entries.
abbrev pub WordsStand : {A : Type 0} {K : Kind A} → Marks K → Type 0
WordsStand {A} M = (n : ℕ) (H L : List (Row ℕ)) (S : State A) → StandsFor M n H L S → Stands numbers n H (word_state M S)

-- For every kind with marks, a state with the same bound cells and the same rows stands for the same.
abbrev pub SameRowsStand : {A : Type 0} {K : Kind A} → Marks K → Type 0
SameRowsStand {A} M = (n : ℕ) (H L : List (Row ℕ)) (S T : State A) → SameBelow n S T → StandsFor M n H L S → StandsFor M n H L T

-- For every kind with marks, a block has as many slots as bound cells.
abbrev pub SlotsCountBound : {A : Type 0} {K : Kind A} → Marks K → Type 0
SlotsCountBound {A} M = (n : ℕ) (H L : List (Row ℕ)) (S : State A) → StandsFor M n H L S → CountBound H n (length L)

-- For every kind with marks, each run has a state.
abbrev pub RunHasState : {A : Type 0} {K : Kind A} → Marks K → Type 0
RunHasState {A} M = (w n : ℕ) (E H L : List (Row ℕ)) → FitsAll w n E → Run w n E H L → (S : State A) × StandsFor M n H L S

-- Words with slot sets: the slots that a conflict shows are to blame. Words alone show none.
abbrev pub NamesSlots : Type 0
NamesSlots = Blames full_marks ConflictSet × Blames lean_marks NoSlots

-- An entry that cannot be taken has one set of slots to blame.
abbrev pub ConflictNamesSlots : Type 0
ConflictNamesSlots =
    (w n : ℕ) (E H L : List (Row ℕ)) → FitsAll w n E → Run w n E H L → (e : Row ℕ) → Fits w n e → ¬ Solvable w n (e ∷ H)
    → (t : ℕ) × ConflictSet L e t × ((u : ℕ) → ConflictSet L e u → t ≡ u)

-- The set of slots that sums to a combination is one: two sets of slots whose cell sets have the same sum are the same, and every combination of the held entries is such a sum.
abbrev pub SlotsAreOne : Type 0
SlotsAreOne =
    (L : List (Row ℕ)) → Apart (cells_of L)
    → ((t u : ℕ) → Within (length L) t → Within (length L) u → (chosen L t).0 ≡ (chosen L u).0 → t ≡ u)
    × ((v : Row ℕ) → Comb (rows numbers) L v → (t : ℕ) × Within (length L) t × (chosen L t ≡ v))

-- All entries can be satisfied at once when each block's can.
abbrev pub BlocksAreApart : Type 0
BlocksAreApart = (w n : ℕ) (H : List Placed) → SolvableIn w n H ↔ ((b : ℕ) → Solvable w n (of b H))

-- Whether an entry can be taken is decided by its own block.
abbrev pub OwnBlockDecides : Type 0
OwnBlockDecides =
    (w n : ℕ) (E H : List Placed) → HeldIn w n E H → (x : Placed) → SolvableIn w n (x ∷ H) ↔ Solvable w n (x.1 ∷ of x.0 H)

-- What is held goes by the list of enterings alone.
abbrev pub HeldIsOne : Type 0
HeldIsOne = (w n : ℕ) (E G H : List Placed) → HeldIn w n E G → HeldIn w n E H → G ≡ H

-- Each block holds what its own enterings make it hold.
abbrev pub BlockHoldsItsOwn : Type 0
BlockHoldsItsOwn = (w n : ℕ) (E H : List Placed) → HeldIn w n E H → (b : ℕ) → Held w n (of b E) (of b H)

-- Each block's own enterings are a run, with one list of slots.
abbrev pub BlocksHaveRuns : Type 0
BlocksHaveRuns =
    (w n : ℕ) (E H : List Placed) → FitsIn w n E → HeldIn w n E H
    → (b : ℕ) → (L : List (Row ℕ)) × Run w n (of b E) (of b H) L × ((M : List (Row ℕ)) → Run w n (of b E) (of b H) M → L ≡ M)

-- The same enterings in another order, and however often, bind the same cells of each block.
abbrev pub BlocksInAnyOrder : Type 0
BlocksInAnyOrder =
    (w n : ℕ) (E F G H : List Placed) → FitsIn w n E → HeldIn w n E G → HeldIn w n F H → SameEntries E F → (b c : ℕ) → BoundIn G b c ↔ BoundIn H b c

-- After every list of enterings there is one table of all blocks, of words of w bits.
abbrev pub BlocksHaveTable : Type 0
BlocksHaveTable =
    (w n : ℕ) (E H : List Placed) → FitsIn w n E → HeldIn w n E H
    → (g : ℕ → ℕ → ℕ) × ((b : ℕ) → Below w (g b)) × IsTableIn n H g × ((f : ℕ → ℕ → ℕ) → IsTableIn n H f → (b c : ℕ) → c < n → g b c ≡ f b c)

-- Where the same entries are held, all blocks have the same table.
abbrev pub BlocksSameTable : Type 0
BlocksSameTable =
    (w n : ℕ) (E F G H : List Placed) → FitsIn w n E → HeldIn w n E G → HeldIn w n F H → SameEntries G H
    → (f g : ℕ → ℕ → ℕ) → IsTableIn n G f → IsTableIn n H g → (b c : ℕ) → c < n → f b c ≡ g b c

-- Enterings that can all be satisfied at once are all held, in any order, and all orders give the same table.
abbrev pub AllHeldInAnyOrder : Type 0
AllHeldInAnyOrder =
    (w n : ℕ) (E F G H : List Placed) → FitsIn w n E → SolvableIn w n E → SameEntries E F → HeldIn w n E G → HeldIn w n F H
    → (G ≡ E) × (H ≡ F) × ((f g : ℕ → ℕ → ℕ) → IsTableIn n G f → IsTableIn n H g → (b c : ℕ) → c < n → f b c ≡ g b c)
