-- Answer kinds with a word and with marks of slots.
use Rattle.std.specs.Prelude.{◌≡◌, refl, List, [], ◌∷◌, length, ℕ, ◌^◌, ◌<◌}
use Rattle.std.specs.Int.Bits.{bit_xor}
use Rattle.span.specs.Lead.{Lead}
use Rattle.span.specs.Kinds.{Kind, numbers, both, SameSpan}
use Rattle.span.specs.Echelon.{Row, rows, State, rows_of, Reduces, Stands, Put}
use Rattle.span.specs.Fillings.{Solvable}
use Rattle.span.specs.Held.{cells_of, Binds}
use Rattle.span.specs.Slots.{Apart}

-- The word of an answer, the answer of a word, the mark of a slot, which has no word, and the set of slots that an answer shows.
pub record Marks {A : Type 0} (K : Kind A) : Type 0 where
  pub word : A → ℕ
  pub word_none : word K.none ≡ 0
  pub word_sum : (x y : A) → word (K.sum x y) ≡ bit_xor (word x) (word y)
  pub answer : ℕ → A
  pub word_answer : (x : ℕ) → word (answer x) ≡ x
  pub mark : ℕ → A
  pub word_mark : (j : ℕ) → word (mark j) ≡ 0
  pub slots : A → ℕ

-- A word with a slot set.
abbrev pub Full : Type 0
Full = ℕ × ℕ

-- Words and slot sets side by side.
abbrev pub fulls : Kind Full
fulls = both numbers numbers

-- Words with slot sets: the mark of a slot is the set of that slot.
abbrev pub full_marks : Marks fulls
full_marks = record {
  word = λ x. x.0;
  word_none = refl;
  word_sum = λ x y. refl;
  answer = λ x. (x, 0);
  word_answer = λ x. refl;
  mark = λ j. (0, 2 ^ j);
  word_mark = λ j. refl;
  slots = λ x. x.1;
}

-- Words alone, seen as words with slot sets that stay empty: no slot leaves a mark.
abbrev pub lean_marks : Marks fulls
lean_marks = record {
  word = λ x. x.0;
  word_none = refl;
  word_sum = λ x y. refl;
  answer = λ x. (x, 0);
  word_answer = λ x. refl;
  mark = λ j. (0, 0);
  word_mark = λ j. refl;
  slots = λ x. 0;
}

-- A row's cell set and word.
abbrev pub word_row : {A : Type 0} {K : Kind A} → Marks K → Row A → Row ℕ
word_row M x = (x.0, M.word x.1)

-- The words of a state's rows.
abbrev pub word_state : {A : Type 0} {K : Kind A} → Marks K → State A → State ℕ
word_state M S = record { bound = S.bound; row = λ c. word_row M (S.row c) }

-- An entry as a row, with no mark.
abbrev pub bare_row : {A : Type 0} {K : Kind A} → Marks K → Row ℕ → Row A
bare_row M e = (e.0, M.answer e.1)

-- An entry as a row, with its own slot marked.
abbrev pub slot_row : {A : Type 0} {K : Kind A} → Marks K → Row ℕ → ℕ → Row A
slot_row {A} {K} M e j = (e.0, K.sum (M.mark j) (M.answer e.1))

-- Each slot's entry, with its own slot marked.
abbrev pub slot_rows : {A : Type 0} {K : Kind A} → Marks K → List (Row ℕ) → List (Row A)
slot_rows M [] = []
slot_rows M (e ∷ L) = slot_row M e (length L) ∷ slot_rows M L

-- The state stands for the held entries H with the slots L: its rows have the combinations of the slots' entries, each with the marks of
-- the slots that it was made of; the held entries have those combinations too; no slot is spare; and there are as many slots as rows.
abbrev pub StandsFor : {A : Type 0} {K : Kind A} → Marks K → ℕ → List (Row ℕ) → List (Row ℕ) → State A → Type 0
StandsFor {A} {K} M n H L S = Stands K n (slot_rows M L) S × SameSpan (rows numbers) H L × Apart (cells_of L) × (length (rows_of S n) ≡ length L)

-- What the reduction v of the entry e decides, for the held entries H with the slots L.
pub record Decided {A : Type 0} {K : Kind A} (M : Marks K) (w n : ℕ) (H L : List (Row ℕ)) (S : State A) (e : Row ℕ) (v : Row A) : Type 0 where
  -- Cells are left: the entry is taken and makes a cell bound, and its row goes to the lead cell with the next slot marked.
  pub slot : (p : ℕ) → Lead v.0 p
      → Solvable w n (e ∷ H) × Binds H e × ((T : State A) → Put S p (v.0, K.sum (M.mark (length L)) v.1) T → StandsFor M n (e ∷ H) (e ∷ L) T)
  -- In that case there are fewer slots than cells, so that the next slot is one of n.
  pub room : (p : ℕ) → Lead v.0 p → length L < n
  -- Nothing is left: the entry is taken, and makes no cell bound.
  pub dependent : v.0 ≡ 0 → M.word v.1 ≡ 0 → Solvable w n (e ∷ H) × (¬ Binds H e) × StandsFor M n (e ∷ H) L S
  -- A word alone is left: no filling satisfies the entry with those held.
  pub conflict : v.0 ≡ 0 → ¬ (M.word v.1 ≡ 0) → ¬ Solvable w n (e ∷ H)

-- The slots that an answer shows are empty: nothing is said of a conflict.
abbrev pub NoSlots : List (Row ℕ) → Row ℕ → ℕ → Type 0
NoSlots L e t = t ≡ 0

-- What the slots say that a conflict shows: `blame` of the entries in the slots, the entry, and that set.
abbrev pub Blames : {A : Type 0} {K : Kind A} → Marks K → (List (Row ℕ) → Row ℕ → ℕ → Type 0) → Type 0
Blames {A} {K} M blame =
    (n : ℕ) (H L : List (Row ℕ)) (S : State A) → StandsFor M n H L S
    → (e : Row ℕ) (v : Row A) → Reduces K n S (bare_row M e) v → v.0 ≡ 0 → ¬ (M.word v.1 ≡ 0) → blame L e (M.slots v.1)
