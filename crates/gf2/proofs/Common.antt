-- The first cell that is in both of two sets, word by word.
use Rattle.std.proofs.Common.{◌≡◌, ℕ, ◌+◌, ◌-◌, ◌*◌, ◌/◌, ◌%◌, ◌^◌, ◌<◌, ◌≤◌, Bool, true, false, ◌&&◌, List, length, get_or, bit_and, drop, zip, length-drop, zero-add, sym, refl, ap, ◌∙◌, subst, ap₂, inl, inr, true≢false, arith, Iter}
use Rattle.std.proofs.lemmas.Bool.{cases_lt, and_parts}
use Rattle.std.proofs.lemmas.Nat.{and_le_l, shr_le}
use Rattle.std.specs.Int.Count.{count_trailing_zeros}
use Rattle.std.proofs.lemmas.List.{get_or-drop, get_or_default}
use Rattle.std.proofs.lemmas.List.FromFn.{length-enumerate_from, get_or-enumerate_from}
use Rattle.std.proofs.iter.Yields.{fronts}
use Rattle.std.proofs.lemmas.Iterator.{YieldsList, zips, YieldsList-from_slice, YieldsList-from_zip}
use Rattle.std.proofs.lemmas.Iterator.Adapters.{YieldsList-from_skip}
use Rattle.std.proofs.lemmas.Iterator.Consumers.{YieldsList-from_enumerate}
use Rattle.std.specs.Iterator.Adapters.{enumerate_source, enumerate_count, enumerate_steps, skip_source, skip_count, skip_steps, zip_first, zip_second}
use Rattle.std.specs.Slice.Iter.{iter_rest}
use Rattle.std.specs.declared.iter.Enumerate.{Enumerate}
use Rattle.std.specs.declared.iter.Skip.{Skip}
use Rattle.std.specs.declared.iter.Zip.{Zip}
use Rattle.std.proofs.lemmas.Slice.Zip.{length-zip, get_or-zip}
use Rattle.std.specs.List.{enumerate_from}
use Rattle.span.specs.Sets.{has}
use Rattle.span.proofs.Bits.{has_and, has_past, has_shifted, has_zero}
use Rattle.gf2.specs.Masks.{Fit, value, NoCommon, FirstCommon}
use Rattle.gf2.proofs.Values.{small, has_words, past, trail}

-- of two truth values that are not both true, the first is false where the second is true
not_both : (p q : Bool) → (p && q) ≡ false → q ≡ true → p ≡ false
not_both true q e t = absurd (true≢false (sym t ∙ e))
not_both false q e t = refl

-- where one stretch after another has no common cell, neither has both
pub no_common_on : (a b i j k : ℕ) → NoCommon a b i j → NoCommon a b j k → NoCommon a b i k
no_common_on a b i j k front back c ic ck t = elim (cases_lt c j) [
  | inl h ↦ front c ic h t
  | inr h ↦ back c h ck t
]

-- from where on the word i is looked at, for the cells from c on
abbrev pub place : ℕ → ℕ → ℕ
place c i = 64 * i + (c - 64 * i)

module _ (ws vs : List ℕ) (fits : Fit ws) (fits' : Fit vs) (i s : ℕ) (low : s < 64) where
  -- the common bits of the word i, from its bit s on
  abbrev pub common : ℕ
  common = bit_and (get_or ws i 0) (get_or vs i 0) / 2 ^ s

  -- a place of that word, from there on
  common_has : (c : ℕ) → 64 * i + s ≤ c → c / 64 ≡ i → has common (c % 64 - s) ≡ (has (value ws) c && has (value vs) c)
  common_has c h q =
      let x : ℕ = get_or ws i 0 in
      let y : ℕ = get_or vs i 0 in
      let e : s + (c % 64 - s) ≡ c % 64 = omega arith in
      has_shifted (bit_and x y) s (c % 64 - s) ∙ ap (has (bit_and x y)) e ∙ has_and x y (c % 64)
      ∙ sym (ap₂ (λ (p r : Bool). p && r)
      (has_words ws (small ws fits) c ∙ ap (λ (k : ℕ). has (get_or ws k 0) (c % 64)) q)
      (has_words vs (small vs fits') c ∙ ap (λ (k : ℕ). has (get_or vs k 0) (c % 64)) q))

  -- no common bit, no common cell up to the next word
  pub none_here : common ≡ 0 → NoCommon (value ws) (value vs) (64 * i + s) (64 * (i + 1))
  none_here z c h l =
      let q : c / 64 ≡ i = omega arith in
      not_both (has (value ws) c) (has (value vs) c)
      (sym (common_has c h q) ∙ ap (λ (m : ℕ). has m (c % 64 - s)) z ∙ has_zero (c % 64 - s))

  common_small : common < 2 ^ 64
  common_small =
      let x : ℕ = get_or ws i 0 in
      let y : ℕ = get_or vs i 0 in
      omega (arith, shr_le (bit_and x y) s, and_le_l x y, fits i)

  -- the bits of a common word end with the word
  common_end : (t : ℕ) → has common t ≡ true → s + t < 64
  common_end t e = elim (cases_lt (s + t) 64) [
    | inl h ↦ h
    | inr h ↦
        let x : ℕ = get_or ws i 0 in
        let y : ℕ = get_or vs i 0 in
        let l : bit_and x y < 2 ^ 64 = omega (arith, and_le_l x y, fits i) in
        absurd (true≢false (sym e ∙ has_shifted (bit_and x y) s t ∙ has_past (bit_and x y) 64 (s + t) l h))
  ]

  -- the lowest common bit is the first common cell
  pub found : i < length ws → 0 < common → (c : ℕ) → c ≡ 64 * i + s + count_trailing_zeros 64 common → FirstCommon (64 * length ws) (value ws) (value vs) (64 * i + s) c
  found l pos c e =
      let tr = trail 64 common common_small pos in
      let t : ℕ = count_trailing_zeros 64 common in
      let end : s + t < 64 = common_end t tr.1.0 in
      let h : 64 * i + s ≤ c = omega arith in
      let q : c / 64 ≡ i = omega arith in
      let d : c % 64 - s ≡ t = omega arith in
      let both : (has (value ws) c && has (value vs) c) ≡ true = sym (common_has c h q) ∙ ap (has common) d ∙ tr.1.0 in
      record {
        below = omega arith;
        from_on = h;
        left = (and_parts (has (value ws) c) (has (value vs) c) both).0;
        right = (and_parts (has (value ws) c) (has (value vs) c) both).1;
        none_before = λ d from to.
            let q' : d / 64 ≡ i = omega arith in
            let lower : d % 64 - s < t = omega arith in
            not_both (has (value ws) d) (has (value vs) d) (sym (common_has d from q') ∙ tr.1.1 (d % 64 - s) lower);
      }

-- past the last word there is none
pub none_past : (ws vs : List ℕ) → Fit ws → (from : ℕ) → 64 * length ws ≤ from → (n : ℕ) → NoCommon (value ws) (value vs) from n
none_past ws vs fits from l n c h k t = sym (past ws c fits (omega arith))

-- the word pairs from the n-th on, each with its place
abbrev pub pairs_from : ℕ → List ℕ → List ℕ → List (ℕ × (ℕ × ℕ))
pairs_from n ws vs = drop n (enumerate_from 0 (zip ws vs))

pub length_pairs : (n : ℕ) (ws vs : List ℕ) → length vs ≡ length ws → length (pairs_from n ws vs) ≡ length ws - n
length_pairs n ws vs same = omega (arith, length-drop n (enumerate_from 0 (zip ws vs)), length-enumerate_from 0 (zip ws vs), length-zip ws vs)

-- they are what the loop goes over
pub pairs_yielded : {s : Skip (Enumerate (Zip (Iter ℕ) (Iter ℕ)))} (n : ℕ) (ws vs : List ℕ)
    → iter_rest (zip_first (enumerate_source (skip_source s))) ≡ ws → iter_rest (zip_second (enumerate_source (skip_source s))) ≡ vs
    → enumerate_count (skip_source s) ≡ 0 → skip_count s ≡ n
    → YieldsList {B = ℕ × (ℕ × ℕ)} (skip_steps (enumerate_steps (zips fronts fronts))) (λ p. (p.0, (p.1.0.now, p.1.1.now))) s (pairs_from n ws vs)
pairs_yielded n ws vs first second none count =
    YieldsList-from_skip n (YieldsList-from_enumerate (YieldsList-from_zip (YieldsList-from_slice ws first) (YieldsList-from_slice vs second)) none) count

-- the k-th of them
pair_is : (n : ℕ) (ws vs : List ℕ) (k : ℕ) (p : ℕ × (ℕ × ℕ)) → n + k < length ws → n + k < length vs
    → get_or (pairs_from n ws vs) k p ≡ (n + k, (get_or ws (n + k) 0, get_or vs (n + k) 0))
pair_is n ws vs k p long longer =
    get_or-drop n (enumerate_from 0 (zip ws vs)) k p
    ∙ get_or-enumerate_from 0 (zip ws vs) (n + k) p (omega (arith, length-zip ws vs))
    ∙ ap₂ (λ (j : ℕ) (q : ℕ × ℕ). (j, q)) (zero-add (n + k)) (get_or-zip ws vs (n + k) p.1 long longer)
    ∙ ap₂ (λ (w v : ℕ). (n + k, (w, v))) (get_or_default ws (n + k) p.1.0 0 long) (get_or_default vs (n + k) p.1.1 0 longer)

pub pair_at : (n : ℕ) (ws vs : List ℕ) → length vs ≡ length ws → (k : ℕ) (p : ℕ × (ℕ × ℕ)) → k < length (pairs_from n ws vs) → p ≡ get_or (pairs_from n ws vs) k p
    → (p.0 ≡ n + k) × (p.1.0 ≡ get_or ws p.0 0) × (p.1.1 ≡ get_or vs p.0 0)
pair_at n ws vs same k p h e =
    let long : n + k < length ws = omega (arith, length_pairs n ws vs same) in
    let longer : n + k < length vs = omega arith in
    go (e ∙ pair_is n ws vs k p long longer)
  where
    go : p ≡ (n + k, (get_or ws (n + k) 0, get_or vs (n + k) 0)) → (p.0 ≡ n + k) × (p.1.0 ≡ get_or ws p.0 0) × (p.1.1 ≡ get_or vs p.0 0)
    go all =
        let at : p.0 ≡ n + k = ap (λ (q : ℕ × (ℕ × ℕ)). q.0) all in (
          at,
          ap (λ (q : ℕ × (ℕ × ℕ)). q.1.0) all ∙ ap (λ (j : ℕ). get_or ws j 0) (sym at),
          ap (λ (q : ℕ × (ℕ × ℕ)). q.1.1) all ∙ ap (λ (j : ℕ). get_or vs j 0) (sym at),
        )

-- the first common cell from further on, where there is none before
found_from : (w a b i j c : ℕ) → i ≤ j → NoCommon a b i j → FirstCommon w a b j c → FirstCommon w a b i c
found_from w a b i j c h none f = record {
  below = f.below;
  from_on = omega (arith, f.from_on);
  left = f.left;
  right = f.right;
  none_before = no_common_on a b i j c none f.none_before;
}

-- what the k-th pair (w, v) tells, where none of those before it had a common cell
module _ (ws vs : List ℕ) (fits : Fit ws) (fits' : Fit vs) (same : length vs ≡ length ws) (c k i w v s : ℕ) (h : k < length (pairs_from (c / 64) ws vs))
    (at : (i, (w, v)) ≡ get_or (pairs_from (c / 64) ws vs) k (i, (w, v))) (from : s ≡ c - 64 * i)
    (none : NoCommon (value ws) (value vs) c (place c (c / 64 + k))) where
  pair : (i ≡ c / 64 + k) × (w ≡ get_or ws i 0) × (v ≡ get_or vs i 0)
  pair = pair_at (c / 64) ws vs same k (i, (w, v)) h at

  low : s < 64
  low = omega (arith, pair.0)

  bits : bit_and w v / 2 ^ s ≡ common ws vs fits fits' i s low
  bits = ap₂ (λ (x y : ℕ). bit_and x y / 2 ^ s) pair.1 pair.2

  none_so_far : NoCommon (value ws) (value vs) c (64 * i + s)
  none_so_far = let e : place c (c / 64 + k) ≡ 64 * i + s = omega (arith, pair.0) in subst (NoCommon (value ws) (value vs) c) e none

  -- where it has one, the first
  pub found_at : 0 < bit_and w v / 2 ^ s → FirstCommon (64 * length ws) (value ws) (value vs) c (64 * i + s + count_trailing_zeros 64 (bit_and w v / 2 ^ s))
  found_at pos =
      let inside : i < length ws = omega (arith, pair.0, length_pairs (c / 64) ws vs same) in
      let here : 0 < common ws vs fits fits' i s low = subst (λ (n : ℕ). 0 < n) bits pos in
      let e : 64 * i + s + count_trailing_zeros 64 (bit_and w v / 2 ^ s) ≡ 64 * i + s + count_trailing_zeros 64 (common ws vs fits fits' i s low) =
      ap (λ (n : ℕ). 64 * i + s + count_trailing_zeros 64 n) bits in
      found_from (64 * length ws) (value ws) (value vs) c (64 * i + s) _ (omega arith) none_so_far (found ws vs fits fits' i s low inside here _ e)

  -- where it has none, the next pair is to be looked at
  pub none_at : bit_and w v / 2 ^ s ≡ 0 → (n : ℕ) → n ≡ k + 1 → NoCommon (value ws) (value vs) c (place c (c / 64 + n))
  none_at z n next =
      let e : 64 * (i + 1) ≡ place c (c / 64 + n) = omega (arith, pair.0) in
      subst (NoCommon (value ws) (value vs) c) e
      (no_common_on (value ws) (value vs) c (64 * i + s) (64 * (i + 1)) none_so_far (none_here ws vs fits fits' i s low (sym bits ∙ z)))

-- after the last pair there is none
pub none_left : (ws vs : List ℕ) → Fit ws → length vs ≡ length ws → (c k : ℕ) → k ≡ length (pairs_from (c / 64) ws vs)
    → NoCommon (value ws) (value vs) c (place c (c / 64 + k)) → (n : ℕ) → NoCommon (value ws) (value vs) c n
none_left ws vs fits same c k all none n =
    no_common_on (value ws) (value vs) c (place c (c / 64 + k)) n none
    (none_past ws vs fits (place c (c / 64 + k)) (omega (arith, length_pairs (c / 64) ws vs same)) n)
