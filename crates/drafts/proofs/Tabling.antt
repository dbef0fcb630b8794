-- The words of all blocks are the table of what the draft holds.
use Rattle.std.proofs.Common.{◌≡◌, ℕ, ◌+◌, ◌*◌, ◌/◌, ◌%◌, ◌^◌, ◌<◌, ◌≤◌, List, [], ◌++◌, length, get_or, drop, sym, refl, ap, ◌∙◌, subst, mul-le-mul_right, mod-lt, div-lt_iff_lt-mul, arith}
use Rattle.std.proofs.Math.Decide.{dec_le}
use borrow.Rule.Slice.PartMut.{put_mid}
use Rattle.std.proofs.lemmas.Nat.{div-add-mod'}
use Rattle.std.proofs.lemmas.List.{get_or-take, get_or-drop, get_or_past, take_at, drop_at, drop_all, append-nil}
use Rattle.span.specs.Echelon.{Row}
use Rattle.span.specs.Held.{IsTable}
use Rattle.span.specs.Marked.{Full, fulls, Marks, word_state}
use Rattle.span.specs.Blocks.{Placed, of}
use Rattle.span.proofs.Xors.{xor_over_same}
use Rattle.span.proofs.Blocks.{of_member, fits_of, table_of}
use Rattle.span.proofs.Marked.{words_stand}
use Rattle.span.proofs.Solve.{table_fits, table_is, table_only}
use Rattle.span.proofs.Theorems.{rows_give_table}
use Rattle.shapes.proofs.Limits.{shape_limits}
use Rattle.table.specs.Images.{Content, header}
use Rattle.table.specs.Questions.{word_at}
use Rattle.drafts.specs.Entries.{answer_bits}
use Rattle.drafts.specs.Standing.{dims_of, block_state, Stands}
use Rattle.drafts.specs.Writing.{TableOf}
use Rattle.drafts.specs.Written.{ImageOf}
use Rattle.drafts.specs.Steps.{WordsOf}
use Rattle.drafts.specs.declared.draft.Draft.{Draft}

-- fillings that agree below n are tables alike
same_table : (n : ℕ) (G : List (Row ℕ)) (f g : ℕ → ℕ) → ((c : ℕ) → c < n → f c ≡ g c) → IsTable n G f → IsTable n G g
same_table n G f g same t = (
  λ e m. sym (xor_over_same f g n e.0 same) ∙ t.0 e m,
  λ c h free. sym (same c h) ∙ t.1 c h free,
)

module _ {K : Type 0} (view : K → Full) (marks : Marks fulls) (d : Draft K) (cells : List ℕ) (words : WordsOf view marks d (dims_of d).b cells)
    (H : List Placed) (st : Stands view marks d H) where
  abbrev n : ℕ
  n = (dims_of d).n

  abbrev t : Content
  t = record { dims = dims_of d; words = words.words }

  -- the words of block b are the table of its entries
  own_table : (b : ℕ) → b < (dims_of d).b → IsTable n (of b H) (word_at t b)
  own_table b h =
      let B = st.blocks b h in
      let stands = words_stand marks n (of b H) B.in_slots (block_state view d b) B.stands in
      let fill = words.fill b h in
      same_table n (of b H) _ (word_at t b)
      (λ c hc. get_or-take n (drop (b * n) words.words) c 0 hc ∙ get_or-drop (b * n) words.words c 0)
      ((rows_give_table n (of b H) _ stands _).0 (fill.rows stands.0, fill.free))

  -- past the last block there is nothing
  past_table : (b : ℕ) → (dims_of d).b ≤ b → IsTable n (of b H) (word_at t b)
  past_table b past = (
    λ e m. let h = st.below (b, e) (of_member b H e m) in absurd (omega arith),
    λ c h free.
        let le : (dims_of d).b * n ≤ b * n = mul-le-mul_right n past in
        get_or_past words.words (b * n + c) 0 (omega (arith, words.count)),
  )

  all_tables : (b : ℕ) → IsTable n (of b H) (word_at t b)
  all_tables b = go (dec_le (dims_of d).b b)
    where
      go : Dec ((dims_of d).b ≤ b) → IsTable n (of b H) (word_at t b)
      go (yes past) = past_table b past
      go (no h) = own_table b (omega arith)

  -- a table's words have no more bits than an answer
  small : (b c : ℕ) → b < (dims_of d).b → c < n → word_at t b c < 2 ^ answer_bits (dims_of d)
  small b c h hc =
      let B = st.blocks b h in
      let stands = words_stand marks n (of b H) B.in_slots (block_state view d b) B.stands in
      let fits = fits_of (answer_bits (dims_of d)) n H st.fits b in
      let w = answer_bits (dims_of d) in
      let S = word_state marks (block_state view d b) in
      subst (λ v. v < 2 ^ w) (table_only w n (of b H) S stands _ (word_at t b) (table_is w n (of b H) S stands) (own_table b h) c hc) (table_fits w n (of b H) S stands fits c)

  small_at : (i : ℕ) → i < length words.words → get_or words.words i 0 < 2 ^ answer_bits (dims_of d)
  small_at i h =
      let low = (shape_limits d.shape).n_low in
      let at : i / n * n + i % n ≡ i = div-add-mod' i n in
      let under : i / n < (dims_of d).b = (div-lt_iff_lt-mul (omega (arith, low))).1 (omega (arith, words.count)) in
      subst (λ k. get_or words.words k 0 < 2 ^ answer_bits (dims_of d)) at (small (i / n) (i % n) under (mod-lt i low))

  pub table_of_draft : TableOf (dims_of d) H t
  table_of_draft = record {
    dims = refl;
    sound = record { limits = shape_limits d.shape; count = words.count; small = small_at };
    filling = (table_of n H (word_at t)).1 all_tables;
  }

-- bytes put behind a head, to the end
pub put_behind : (a k : ℕ) (head rest cells : List ℕ) → length head ≡ a → length rest ≡ k → put_mid a k (head ++ rest) cells ≡ head ++ cells
put_behind a k head rest cells is all =
    let end : drop k (drop a (head ++ rest)) ≡ [] = ap (drop k) (drop_at head rest a is) ∙ drop_all k rest (omega arith) in
    ap (λ l. l ++ (cells ++ drop k (drop a (head ++ rest)))) (take_at head rest a is) ∙ (ap (λ l. head ++ (cells ++ l)) end ∙ ap (λ l. head ++ l) (append-nil cells))

pub image_of : {K : Type 0} (view : K → Full) (marks : Marks fulls) (d : Draft K) (head cells : List ℕ) → head ≡ header (dims_of d)
    → WordsOf view marks d (dims_of d).b cells → ImageOf view marks d (head ++ cells)
image_of view marks d head cells is words H st =
    (record { dims = dims_of d; words = words.words }, table_of_draft view marks d cells words H st, ap (λ l. l ++ cells) is ∙ ap (λ l. header (dims_of d) ++ l) words.are)
