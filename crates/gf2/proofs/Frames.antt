-- Blocks side by side: what is written in one leaves the others as they were.
use Rattle.std.proofs.Common.{◌≡◌, ℕ, ◌+◌, ◌<◌, ◌≤◌, ◌⊎◌, List, map, length, get_or, set, refl, ap, ◌∙◌, inl, inr, arith, get_or-set_other}
use Rattle.std.proofs.Math.Decide.{dec_le}
use Rattle.std.proofs.lemmas.List.{map-set}
use Rattle.span.specs.Lead.{Lead}
use Rattle.span.specs.Kinds.{Kind}
use Rattle.span.specs.Echelon.{Row, rows, SameBelow}
use Rattle.span.proofs.Lead.{lead_below}
use Rattle.gf2.specs.Masks.{mask}
use Rattle.gf2.specs.Rows.{row_of, block_of, There}
use Rattle.gf2.specs.Theorems.{Disjoint, OthersStay}
use Rattle.gf2.specs.declared.row.Row.{Row as Record}
use Rattle.gf2.specs.declared.row.Block.{Block}

-- no place of one block is a place of another
places_apart : (a b : Block) (c d : ℕ) → Disjoint a b → c < a.n → d < b.n → ¬ (b.start + d ≡ a.start + c)
places_apart a b c d (inl h) ca db e = absurd (omega arith)
places_apart a b c d (inr h) ca db e = absurd (omega arith)

module _ {K A : Type 0} (mean : K → A) (kind : Kind A) (records : List (Record K)) (other : Block) where
  -- records that were not touched
  untouched : (records' : List (Record K)) → records' ≡ records → SameBelow other.n (block_of mean kind records other) (block_of mean kind records' other)
  untouched records' e d db = (refl, ap (λ (l : List (Record K)). get_or (map (row_of mean) l) (other.start + d) (rows kind).none) e)

  -- a record written elsewhere
  written_elsewhere : (records' : List (Record K)) (i : ℕ) (row : Record K) → records' ≡ set records i row → ((d : ℕ) → d < other.n → ¬ (other.start + d ≡ i))
      → SameBelow other.n (block_of mean kind records other) (block_of mean kind records' other)
  written_elsewhere records' i row e apart d db = (
    refl,
    ap (λ (l : List (Record K)). get_or (map (row_of mean) l) (other.start + d) (rows kind).none) e
        ∙ ap (λ (l : List (Row A)). get_or l (other.start + d) (rows kind).none) (map-set (row_of mean) records i row)
        ∙ get_or-set_other (map (row_of mean) records) i (other.start + d) (row_of mean row) (rows kind).none (apart d db),
  )

pub others_stay : {K A : Type 0} (mean : K → A) (kind : Kind A) → OthersStay mean kind
others_stay {K} {A} mean kind records block row records' bound' b other apart = go (dec_le (block.start + block.n) (length records))
  where
    Stays : Type 0
    Stays = SameBelow other.n (block_of mean kind records other) (block_of mean kind records' other)

    by : There records block → ((p : ℕ) × Lead (mask row.cells) p × (p < block.n)) ⊎ ((c : ℕ) → Lead (mask row.cells) c → block.n ≤ c) → Stays
    by there (inl (p, lead, h)) =
        written_elsewhere mean kind records other records' (block.start + p) row ((b.there there).written p lead h)
        (λ d db. places_apart block other p d apart h db)
    by there (inr none) = untouched mean kind records other records' ((b.there there).refused none).0

    go : Dec (block.start + block.n ≤ length records) → Stays
    go (yes there) = by there (lead_below (mask row.cells) block.n)
    go (no missing) = untouched mean kind records other records' (b.missing (omega arith)).0
