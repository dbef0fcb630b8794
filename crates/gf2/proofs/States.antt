-- The records of a block as a state: a reduction after the cells below k, and a record written.
use Rattle.std.proofs.Common.{◌≡◌, ℕ, suc, ◌+◌, ◌<◌, ◌≤◌, List, map, length, drop, length-take, length-drop, get_or-drop, get_or-take, get_or, set, sym, refl, ap, ◌∙◌, subst, true≢false, arith, get_or-set_other, get_or-set_same}
use Rattle.std.proofs.lemmas.List.{map-set, length-map, get_or-map}
use Rattle.span.specs.Sets.{has}
use Rattle.span.specs.Lead.{Lead}
use Rattle.span.specs.Kinds.{Kind}
use Rattle.span.specs.Echelon.{Row, rows, State, Echelon, Clear, Added, Put}
use Rattle.span.proofs.Bits.{has_zero}
use Rattle.span.proofs.Lead.{lead_has, lead_one}
use Rattle.span.proofs.Reduce.{added_none, added_row, clear_start, clear_skip, clear_add}
use Rattle.gf2.specs.Masks.{mask, FirstCommon, PutIn}
use Rattle.gf2.specs.Rows.{row_of, state_of, block_of, There, Own, Binding}
use Rattle.gf2.specs.declared.row.Row.{Row as Record}
use Rattle.gf2.specs.declared.row.Block.{Block}

module _ {K A : Type 0} (mean : K → A) (kind : Kind A) (records : List (Record K)) (block : Block) where
  abbrev S : State A
  S = block_of mean kind records block

  -- the row of a cell is that of its record
  pub row_at : There records block → (c : ℕ) (x : Record K) → c < block.n → x ≡ get_or records (block.start + c) x → (block_of mean kind records block).row c ≡ row_of mean x
  row_at there c x h e = get_or-map (row_of mean) records (block.start + c) x (rows kind).none (omega arith) ∙ ap (row_of mean) (sym e)

  -- there are as many own rows as cells
  pub count : (own : List (Record K)) → Own records block own → length own ≡ block.n
  count own o = ap length o.are ∙ omega (arith, o.there, length-take block.n (drop block.start records), length-drop block.start records)

  -- the row of a cell is its own row
  pub own_row_at : (own : List (Record K)) → Own records block own → (c : ℕ) (x : Record K) → c < length own → x ≡ get_or own c x → (block_of mean kind records block).row c ≡ row_of mean x
  own_row_at own o c x h e =
      let in_block : c < block.n = omega (arith, count own o) in
      row_at o.there c x in_block
      (e ∙ ap (λ (l : List (Record K)). get_or l c x) o.are ∙ get_or-take block.n (drop block.start records) c x in_block ∙ get_or-drop block.start records c x)

  -- r is q with bound rows added to it; in echelon form, it holds no bound cell below k
  pub record Upto (q r : Record K) (k : ℕ) : Type 0 where
    pub added : Added kind block.n S (row_of mean q) (row_of mean r)
    pub clear : Echelon block.n S → Clear k S (mask r.cells)

  -- before the first cell
  pub upto_start : (q : Record K) → Upto q q 0
  upto_start q = record { added = added_none kind block.n S (row_of mean q); clear = λ _. clear_start S (mask q.cells) }

  -- the row of the first bound cell from k on was added
  pub upto_add : (own : List (Record K)) → Own records block own → (w : ℕ) (q r : Record K) (k c : ℕ) → Upto q r k → FirstCommon w (mask r.cells) (mask block.bound) k c
      → c < length own → (x : Record K) → x ≡ get_or own c x → (s : Record K) → row_of mean s ≡ (rows kind).sum (row_of mean r) (row_of mean x) → Upto q s (c + 1)
  upto_add own o w q r k c u f h x is s sum = record {
    added =
        subst (Added kind block.n S (row_of mean q))
        (ap ((rows kind).sum (row_of mean r)) at ∙ sym sum)
        (added_row kind block.n S c in_block f.right (row_of mean q) (row_of mean r) u.added);
    clear = λ ech.
        let here : Clear c S (mask r.cells) = clear_skip S k c (mask r.cells) (u.clear ech) f.none_before in
        let lead : Lead (mask x.cells) c = subst (λ (v : Row A). Lead v.0 c) at (ech c in_block f.right).0 in
        let next : c + 1 ≡ suc c = omega arith in
        subst (λ (j : ℕ). Clear j S (mask s.cells)) (sym next)
        (subst (Clear (suc c) S) (sym (ap (λ (v : Row A). v.0) sum)) (clear_add S c (mask r.cells) (mask x.cells) here lead f.left));
  }
    where
      in_block : c < block.n
      in_block = omega (arith, count own o)

      at : (block_of mean kind records block).row c ≡ row_of mean x
      at = own_row_at own o c x h is

  -- a record written where its cell is put into the bound set is a row put there
  written_put : There records block → (c : ℕ) (row : Record K) (bound' : ℕ) → c < block.n → PutIn (mask block.bound) c bound'
      → Put S c (row_of mean row) (state_of mean kind (set records (block.start + c) row) block.start bound')
  written_put there c row bound' h p = (
    p.here,
    ap (λ (l : List (Row A)). get_or l i (rows kind).none) written
        ∙ get_or-set_same (map (row_of mean) records) i (row_of mean row) (rows kind).none (subst (λ (k : ℕ). i < k) (sym (length-map records (row_of mean))) (omega arith)),
    λ d ne. (
      p.elsewhere d ne,
      ap (λ (l : List (Row A)). get_or l (block.start + d) (rows kind).none) written
          ∙ get_or-set_other (map (row_of mean) records) i (block.start + d) (row_of mean row) (rows kind).none (λ e. ne (omega arith)),
    ),
  )
    where
      i : ℕ
      i = block.start + c

      written : map (row_of mean) (set records i row) ≡ set (map (row_of mean) records) i (row_of mean row)
      written = map-set (row_of mean) records i row

  -- a row bound at its lead cell
  pub bound_at : There records block → (c : ℕ) (row : Record K) (bound' : ℕ) → Lead (mask row.cells) c → c < block.n → PutIn (mask block.bound) c bound'
      → Binding mean kind records block row (set records (block.start + c) row) bound'
  bound_at there c row bound' lead h p = record {
    put = λ d l _. subst (λ (k : ℕ). Put S k (row_of mean row) (state_of mean kind (set records (block.start + c) row) block.start bound'))
        (lead_one (mask row.cells) c d lead l) (written_put there c row bound' h p);
    written = λ d l _. ap (λ (k : ℕ). set records (block.start + k) row) (lead_one (mask row.cells) c d lead l);
    refused = λ no. let l : block.n ≤ c = no c lead in absurd (omega arith);
  }

-- a row that has no lead cell in the block
pub not_bound : {K A : Type 0} (mean : K → A) (kind : Kind A) (records : List (Record K)) (block : Block) (row : Record K)
    → ((c : ℕ) → Lead (mask row.cells) c → block.n ≤ c) → Binding mean kind records block row records (mask block.bound)
not_bound mean kind records block row none = record {
  put = λ c l h. let p : block.n ≤ c = none c l in absurd (omega arith);
  written = λ c l h. let p : block.n ≤ c = none c l in absurd (omega arith);
  refused = λ _. (refl, refl);
}

-- the empty set has no lead cell
pub no_lead : (m c : ℕ) → m ≡ 0 → ¬ Lead m c
no_lead m c z l = true≢false (sym (lead_has m c l) ∙ ap (λ (x : ℕ). has x c) z ∙ has_zero c)
