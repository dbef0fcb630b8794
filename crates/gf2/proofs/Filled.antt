-- Words written from the last cell down.
use Rattle.std.proofs.Common.{◌≡◌, ℕ, suc, ◌+◌, ◌^◌, ◌<◌, ◌≤◌, Bool, true, false, List, length, get_or, set, bit_xor, sym, ap, ◌∙◌, ap₂, zero-le, arith, get_or-set_other, get_or-set_same}
use Rattle.std.proofs.Math.Decide.{ℕ_discrete as dec_eq}
use Rattle.span.specs.Sets.{has}
use Rattle.span.specs.Echelon.{Row, State, Echelon}
use Rattle.span.specs.Fillings.{pick, xor_over, SubstitutedFrom, substituted}
use Rattle.span.specs.Marked.{Full, fulls, Marks}
use Rattle.span.proofs.Substitute.{goes_down, solves}
use Rattle.span.proofs.Xors.{xor_over_empty, xor_over_more}
use Rattle.gf2.specs.Masks.{width, mask, toggled_in}
use Rattle.gf2.specs.Fills.{words_of, word_at, MadeOf, Substitution, Filling}
use Rattle.gf2.specs.Rows.{Own}
use Rattle.gf2.specs.declared.kinds.Word.{Word}
use Rattle.gf2.specs.declared.row.Row.{Row as Record}
use Rattle.gf2.specs.declared.row.Block.{Block}
use Rattle.gf2.specs.declared.sets.CellSet.{CellSet}
use Rattle.gf2.proofs.States.{own_row_at}
use Rattle.gf2.proofs.Values.{toggled_is}

-- from the cell k on the words are filled in: by substitution, in echelon form, and with zero in the free cells
pub record FilledFrom (k n : ℕ) (S : State ℕ) (words : List ℕ) : Type 0 where
  pub rows : Echelon n S → SubstitutedFrom k n S (word_at words)
  pub free : (c : ℕ) → k ≤ c → c < n → S.bound c ≡ false → word_at words c ≡ 0

-- one cell more
pub filled_more : (k n : ℕ) (S : State ℕ) (words : List ℕ) → FilledFrom (suc k) n S words → k < n → length words ≡ n
    → (a m y : ℕ) → ((f : ℕ → ℕ) → bit_xor a (xor_over f n m) ≡ substituted n S f k) → y ≡ xor_over (word_at words) (length words) m
    → FilledFrom k n S (set words k (bit_xor a y))
filled_more k n S words f kn len a m y made over = record {
  rows = λ ech. goes_down n S ech k kn (word_at words) (word_at (set words k (bit_xor a y))) (f.rows ech) (here ∙ is) (λ c cn ne. get_or-set_other words k c (bit_xor a y) 0 ne);
  free = λ c kc cn b. go c kc cn b (dec_eq c k);
}
  where
    is : bit_xor a y ≡ substituted n S (word_at words) k
    is = ap (bit_xor a) (over ∙ ap (λ (j : ℕ). xor_over (word_at words) j m) len) ∙ made (word_at words)

    here : word_at (set words k (bit_xor a y)) k ≡ bit_xor a y
    here = get_or-set_same words k (bit_xor a y) 0 (omega arith)

    go : (c : ℕ) → k ≤ c → c < n → S.bound c ≡ false → Dec (c ≡ k) → word_at (set words k (bit_xor a y)) c ≡ 0
    go c kc cn b (yes e) =
        ap (word_at (set words k (bit_xor a y))) e ∙ here ∙ is
        ∙ ap (λ (t : Bool). pick t (bit_xor (S.row k).1 (xor_over (word_at words) n (bit_xor (S.row k).0 (2 ^ k))))) (ap S.bound (sym e) ∙ b)
    go c kc cn b (no e) = get_or-set_other words k c (bit_xor a y) 0 e ∙ f.free c (omega arith) cn b

module _ {K : Type 0} (view : K → Full) (marks : Marks fulls) (records : List (Record K)) (block : Block) where
  abbrev S : State ℕ
  S = words_of view marks records block

  -- all cells
  pub filled_all : (words : List ℕ) → FilledFrom 0 block.n S words → Filling view marks records block words
  filled_all words f = record { rows = λ ech. ((solves block.n S ech (word_at words)).0 (f.rows ech)).0; free = λ c cn b. f.free c zero-le cn b }

  -- what a cell's row makes of it is what the block does
  pub made_in : (own : List (Record K)) → Own records block own → (c : ℕ) (x : Record K) → c < length own → x ≡ get_or own c x
      → (r : Record Word) → MadeOf view marks x block.bound c r → Substitution view marks records block c r
  made_in own o c x h is r made f =
      made f block.n
      ∙ ap (λ (v : Row Full). pick (has (mask block.bound) c) (bit_xor (marks.word v.1) (xor_over f block.n (bit_xor v.0 (2 ^ c)))))
      (sym (own_row_at view fulls records block own o c x h is))

module _ {K : Type 0} (view : K → Full) (marks : Marks fulls) (x : Record K) (bound : CellSet) (c : ℕ) where
  -- a bound cell takes what its row's word lacks over the row's other cells
  pub made_bound : true ≡ has (mask bound) c → c < width → (m a : ℕ) → m ≡ toggled_in width (mask x.cells) c → a ≡ marks.word (view x.answer)
      → (f : ℕ → ℕ) (n : ℕ) → bit_xor a (xor_over f n m) ≡ pick (has (mask bound) c) (bit_xor (marks.word (view x.answer)) (xor_over f n (bit_xor (mask x.cells) (2 ^ c))))
  made_bound b below m a toggled word f n =
      ap₂ (λ (y o : ℕ). bit_xor y (xor_over f n o)) word (toggled ∙ toggled_is (mask x.cells) c below)
      ∙ ap (λ (t : Bool). pick t (bit_xor (marks.word (view x.answer)) (xor_over f n (bit_xor (mask x.cells) (2 ^ c))))) b

  -- a free cell has zero
  pub made_free : false ≡ has (mask bound) c → (m : ℕ) → m ≡ 0
      → (f : ℕ → ℕ) (n : ℕ) → xor_over f n m ≡ pick (has (mask bound) c) (bit_xor (marks.word (view x.answer)) (xor_over f n (bit_xor (mask x.cells) (2 ^ c))))
  made_free b m none f n =
      ap (xor_over f n) none ∙ xor_over_empty f n
      ∙ ap (λ (t : Bool). pick t (bit_xor (marks.word (view x.answer)) (xor_over f n (bit_xor (mask x.cells) (2 ^ c))))) b

-- one word more of an XOR over a set
pub xor_more : (words : List ℕ) (m k total : ℕ) → total ≡ xor_over (word_at words) k m → (b : Bool) → b ≡ has m k
    → bit_xor total (pick b (word_at words k)) ≡ xor_over (word_at words) (k + 1) m
xor_more words m k total is b e =
    let next : k + 1 ≡ suc k = omega arith in
    ap₂ (λ (x : ℕ) (t : Bool). bit_xor x (pick t (word_at words k))) is e ∙ sym (xor_over_more (word_at words) k m)
    ∙ ap (λ (j : ℕ). xor_over (word_at words) j m) (sym next)
