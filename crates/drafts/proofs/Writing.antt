-- The words of the blocks, one after another, as bytes; and the table that they make up.
use Rattle.std.proofs.Common.{◌≡◌, ℕ, ◌+◌, ◌-◌, ◌*◌, ◌<◌, ◌≤◌, List, ◌++◌, length, take, drop, sym, ap, ◌∙◌, subst, mul-le-mul_right, add-mul, one-mul, arith, length-append}
use Rattle.std.proofs.Math.Decide.{dec_le}
use borrow.Rule.Slice.PartMut.{put_mid}
use Rattle.std.specs.List.{flat_map}
use Rattle.std.proofs.lemmas.Grind.{flat_map-append}
use Rattle.std.proofs.lemmas.List.{take_all, drop_at, take-append-le, drop-append-le, length-drop}
use Rattle.std.proofs.lemmas.Slice.{take-put_mid}
use Rattle.span.specs.Marked.{Full, fulls, Marks}
use Rattle.gf2.specs.Fills.{Filling}
use Rattle.table.specs.Sizes.{width, cells_length}
use Rattle.table.specs.Images.{bytes_of}
use Rattle.table.proofs.Blocks.{block_end}
use Rattle.table.proofs.Bytes.{length_joined}
use Rattle.drafts.specs.Standing.{dims_of, records_of, block_at}
use Rattle.drafts.specs.Steps.{WordsOf, BlockWords}
use Rattle.drafts.specs.declared.draft.Draft.{Draft}

-- the end of a part is the start of the next
pub next_part : (b size : ℕ) → (b + 1) * size ≡ b * size + size
next_part b size = add-mul b 1 size ∙ ap (λ n. b * size + n) (one-mul size)

module _ {K : Type 0} (view : K → Full) (marks : Marks fulls) (d : Draft K) where
  abbrev n : ℕ
  n = (dims_of d).n

  abbrev w : ℕ
  w = width (dims_of d)

  -- one block more
  pub words_more : (size : ℕ) → size ≡ n * w → (b : ℕ) (cells part : List ℕ) → b * size ≤ length cells
      → WordsOf view marks d b (take (b * size) cells) → BlockWords view marks d b part
      → WordsOf view marks d (b + 1) (take ((b + 1) * size) (put_mid (b * size) ((b + 1) * size - b * size) cells part))
  words_more size is b cells part within before own =
      let full : length part ≡ size = ap length own.are ∙ length_joined w own.words ∙ (ap (λ k. k * w) own.count ∙ sym is) in
      let front = take-put_mid (b * size) ((b + 1) * size - b * size) cells part ((b + 1) * size) (next_part b size ∙ ap (λ k. b * size + k) (sym full)) within in
      record {
        words = before.words ++ own.words;
        count = length-append before.words own.words ∙ omega (arith, before.count, own.count, next_part b n);
        are = front ∙ (ap (λ l. l ++ part) before.are ∙ (ap (λ l. flat_map (bytes_of w) before.words ++ l) own.are ∙ sym (flat_map-append (bytes_of w) before.words own.words)));
        fill = λ c h. go c (dec_le b c) h;
      }
    where
      go : (c : ℕ) → Dec (b ≤ c) → c < b + 1 → Filling view marks (records_of d) (block_at d c) (take n (drop (c * n) (before.words ++ own.words)))
      go c (yes le) h =
          let same : c ≡ b = omega arith in
          let here : take n (drop (c * n) (before.words ++ own.words)) ≡ own.words =
          ap (λ k. take n (drop (k * n) (before.words ++ own.words))) same
          ∙ (ap (take n) (drop_at before.words own.words (b * n) before.count) ∙ take_all n own.words (omega (arith, own.count))) in
          subst (Filling view marks (records_of d) (block_at d c)) (sym here) (subst (λ k. Filling view marks (records_of d) (block_at d k) own.words) (sym same) own.fill)
      go c (no lt) h =
          let le : (c + 1) * n ≤ b * n = mul-le-mul_right n (omega arith) in
          let inside : c * n + n ≤ length before.words = omega (arith, before.count, next_part c n) in
          let here : take n (drop (c * n) (before.words ++ own.words)) ≡ take n (drop (c * n) before.words) =
          ap (take n) (drop-append-le (c * n) before.words own.words (omega arith))
          ∙ take-append-le n (drop (c * n) before.words) own.words (omega (arith, length-drop (c * n) before.words)) in
          subst (Filling view marks (records_of d) (block_at d c)) (sym here) (before.fill c (omega arith))

  -- the bytes of block b are within those of all blocks
  pub part_within : (size : ℕ) → size ≡ n * w → (b : ℕ) → b < (dims_of d).b → (len : ℕ) → len ≡ cells_length (dims_of d) → (b + 1) * size ≤ len
  part_within size is b h len all = subst (λ k. (b + 1) * k ≤ len) (sym is) (omega (arith, block_end w n b (dims_of d).b h, all))
