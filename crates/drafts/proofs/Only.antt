-- What a row put in one block leaves as it was.
use Rattle.std.proofs.Common.{◌≡◌, ℕ, ◌+◌, ◌*◌, ◌<◌, ◌≤◌, ◌⊎◌, List, length, take, drop, set, refl, ap, ◌∙◌, inl, inr, mul-le-mul_right, add-mul, one-mul, arith, length-set}
use Rattle.std.proofs.Math.Decide.{dec_le}
use Rattle.std.proofs.lemmas.List.{take-set-le, drop-set-lt}
use Rattle.span.specs.Lead.{Lead}
use Rattle.span.specs.Kinds.{Kind}
use Rattle.span.proofs.Lead.{lead_below}
use Rattle.gf2.specs.Masks.{mask}
use Rattle.gf2.specs.Rows.{There, BindingIn}
use Rattle.gf2.specs.Theorems.{Disjoint}
use Rattle.gf2.specs.declared.row.Row.{Row as Record}
use Rattle.gf2.specs.declared.row.Block.{Block}
use Rattle.drafts.specs.Standing.{dims_of, block_at}
use Rattle.drafts.specs.Entering.{OnlyBlock}
use Rattle.drafts.specs.declared.draft.Draft.{Draft}

pub only_same : {K : Type 0} (d : Draft K) (b : ℕ) → OnlyBlock d b d
only_same d b = record { shape = refl; rows = refl; before = refl; after = refl; notes = λ c ne. (refl, refl) }

-- two blocks have no place in common
pub blocks_disjoint : {K : Type 0} (d : Draft K) (b c : ℕ) → ¬ (b ≡ c) → Disjoint (block_at d b) (block_at d c)
blocks_disjoint d b c ne = go (dec_le b c)
  where
    n : ℕ
    n = (dims_of d).n

    go : Dec (b ≤ c) → Disjoint (block_at d b) (block_at d c)
    go (yes le) =
        let m : (b + 1) * n ≤ c * n = mul-le-mul_right n (omega (arith, ne)) in
        inl (omega (arith, add-mul b 1 n, one-mul n))
    go (no gt) =
        let m : (c + 1) * n ≤ b * n = mul-le-mul_right n (omega arith) in
        inr (omega (arith, add-mul c 1 n, one-mul n))

-- the records outside the block are the same
pub record SameOutside {K : Type 0} (start n : ℕ) (records records' : List (Record K)) : Type 0 where
  pub rows : length records' ≡ length records
  pub before : take start records' ≡ take start records
  pub after : drop (start + n) records' ≡ drop (start + n) records

pub same_outside : {K A : Type 0} (mean : K → A) (kind : Kind A) (records : List (Record K)) (block : Block) (row : Record K) (records' : List (Record K)) (bound' : ℕ)
    → BindingIn mean kind records block row records' bound' → SameOutside block.start block.n records records'
same_outside mean kind records block row records' bound' bind = go (dec_le (block.start + block.n) (length records))
  where
    kept : records' ≡ records → SameOutside block.start block.n records records'
    kept e = record { rows = ap length e; before = ap (take block.start) e; after = ap (drop (block.start + block.n)) e }

    wrote : (p : ℕ) → p < block.n → records' ≡ set records (block.start + p) row → SameOutside block.start block.n records records'
    wrote p h e = record {
      rows = ap length e ∙ length-set records (block.start + p) row;
      before = ap (take block.start) e ∙ take-set-le block.start records (block.start + p) row (omega arith);
      after = ap (drop (block.start + block.n)) e ∙ drop-set-lt (block.start + block.n) records (block.start + p) row (omega arith);
    }

    by : There records block → ((p : ℕ) × Lead (mask row.cells) p × (p < block.n)) ⊎ ((c : ℕ) → Lead (mask row.cells) c → block.n ≤ c)
        → SameOutside block.start block.n records records'
    by there (inl (p, lead, h)) = wrote p h ((bind.there there).written p lead h)
    by there (inr none) = kept ((bind.there there).refused none).0

    go : Dec (block.start + block.n ≤ length records) → SameOutside block.start block.n records records'
    go (yes there) = by there (lead_below (mask row.cells) block.n)
    go (no missing) = kept (bind.missing (omega arith)).0
