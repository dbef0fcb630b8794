-- Laws of the lead cell: these alone look at which end of a set leads.
use Rattle.std.proofs.Common.{◌≡◌, ℕ, ◌<◌, ◌≤◌, true, false, ◌⊎◌, bit_xor, sym, ◌∙◌, inl, inr, true≢false, arith}
use Rattle.std.proofs.Math.Decide.{dec_lt}
use Rattle.span.specs.Sets.{has, Lowest, Within}
use Rattle.span.specs.Lead.{Lead}
use Rattle.span.proofs.Bits.{lowest_one, lowest_below, find_lowest, empty_or_lowest}

-- the lowest cell leads
pub lead_of_lowest : (m c : ℕ) → Lowest m c → Lead m c
unfolding Lead
lead_of_lowest m c l = l

-- the lead cell is in the set
pub lead_has : (m c : ℕ) → Lead m c → has m c ≡ true
unfolding Lead
lead_has m c l = l.0

-- a set has one lead cell
pub lead_one : (m c d : ℕ) → Lead m c → Lead m d → c ≡ d
unfolding Lead
lead_one m c d = lowest_one m c d

-- a set within n is empty or has a lead cell
pub empty_or_lead : (n m : ℕ) → Within n m → (m ≡ 0) ⊎ ((p : ℕ) × Lead m p)
unfolding Lead
empty_or_lead n m = empty_or_lowest n m

-- no cell comes before the lead cell
pub lead_first : (m c d : ℕ) → Lead m c → d < c → has m d ≡ false
unfolding Lead
lead_first m c d l = l.1 d

-- a set that p leads, added to another, leaves the cells before p as they are
pub lead_before : (a b p c : ℕ) → Lead a p → c < p → has (bit_xor a b) c ≡ has b c
unfolding Lead
lead_before a b p c l = lowest_below a b p c l

-- a lead cell that comes before p stays one where a set that p leads is taken away
pub lead_kept : (a b p c : ℕ) → Lead a p → c < p → Lead (bit_xor a b) c → Lead b c
unfolding Lead
lead_kept a b p c l h k =
    (sym (lowest_below a b p c l h) ∙ k.0, λ d g. sym (lowest_below a b p d l (omega arith)) ∙ k.1 d g)

-- the lead cell is below n, or no lead cell is
pub lead_below : (m n : ℕ) → ((p : ℕ) × Lead m p × (p < n)) ⊎ ((c : ℕ) → Lead m c → n ≤ c)
unfolding Lead
lead_below m n = go (find_lowest m n)
  where
    at_most : (c : ℕ) → Dec (c < n) → ¬ (c < n) → n ≤ c
    at_most c (yes h) no_lt = absurd (no_lt h)
    at_most c (no h) no_lt = omega arith

    by : (p : ℕ) → Lowest m p → Dec (p < n) → ((q : ℕ) × Lowest m q × (q < n)) ⊎ ((c : ℕ) → Lowest m c → n ≤ c)
    by p low (yes h) = inl (p, low, h)
    by p low (no h) = inr (λ c l. let e : p ≡ c = lowest_one m p c low l in omega arith)

    go : ((p : ℕ) × Lowest m p) ⊎ ((c : ℕ) → c < n → has m c ≡ false) → ((q : ℕ) × Lowest m q × (q < n)) ⊎ ((c : ℕ) → Lowest m c → n ≤ c)
    go (inl (p, low)) = by p low (dec_lt p n)
    go (inr none) = inr (λ c l. at_most c (dec_lt c n) (λ h. true≢false (sym l.0 ∙ none c h)))
