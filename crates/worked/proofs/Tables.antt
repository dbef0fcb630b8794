-- The test of a table and its image, and what it says.
use Rattle.std.proofs.Common.{◌≡◌, ℕ, ◌+◌, ◌*◌, ◌^◌, ◌<◌, ◌≤◌, Bool, true, false, ◌&&◌, ◌||◌, eqb, ltb, ◌⊎◌, List, [], ◌∷◌, length, get_or, Option, Some, None, refl, ap₂, inl, inr, mul-le-mul_right, arith}
use Rattle.std.proofs.Math.Decide.{dec_lt}
use Rattle.std.specs.Option.{is_none}
use Rattle.std.proofs.lemmas.List.{get_or_past}
use Rattle.std.proofs.lemmas.Bool.{false≢true, and_parts, or_cases, eqb-true, ltb-true}
use Rattle.span.specs.Blocks.{Placed, of, BoundIn}
use Rattle.shapes.specs.Limits.{outside}
use Rattle.shapes.proofs.Ranges.{limits_from_outside}
use Rattle.table.specs.Sizes.{cell_count}
use Rattle.table.specs.Images.{Content, image}
use Rattle.table.specs.Laws.{Sound}
use Rattle.table.specs.Questions.{word_at}
use Rattle.drafts.specs.Writing.{TableOf}
use Rattle.runs.specs.Runs.{entries}
use Rattle.worked.specs.Cases.{Written, Writes}
use Rattle.worked.proofs.Searches.{every, all_below, below}
use Rattle.worked.proofs.Holding.{binding, is_bound, fills, satisfies, filled, all_held}
use Rattle.worked.proofs.Turns.{entered}

-- two lists are one
abbrev alike : List ℕ → List ℕ → Bool
alike [] [] = true
alike [] (y ∷ ys) = false
alike (x ∷ xs) [] = false
alike (x ∷ xs) (y ∷ ys) = eqb x y && alike xs ys

is_alike : (xs ys : List ℕ) → alike xs ys ≡ true → xs ≡ ys
is_alike [] [] t = refl
is_alike [] (y ∷ ys) t = absurd (false≢true t)
is_alike (x ∷ xs) [] t = absurd (false≢true t)
is_alike (x ∷ xs) (y ∷ ys) t =
    let p = and_parts _ _ t in
    ap₂ (λ (z : ℕ) (zs : List ℕ). z ∷ zs) (eqb-true _ _ p.0) (is_alike xs ys p.1)

-- the numbers are within their limits, and there is a word of few bits for each cell
abbrev small : Content → ℕ → Bool
small t i = ltb (get_or t.words i 0) (2 ^ (t.dims.s + t.dims.r))

abbrev sound : Content → Bool
sound t = is_none (outside t.dims) && (eqb (length t.words) (cell_count t.dims) && all_below (length t.words) (small t))

-- nothing is found
nothing : {T : Type 0} (o : Option T) → is_none o ≡ true → o ≡ None
nothing None e = refl
nothing (Some x) e = absurd (false≢true e)

is_sound : (t : Content) → sound t ≡ true → Sound t
is_sound t s =
    let p = and_parts _ _ s in
    let q = and_parts _ _ p.1 in
    record {
      limits = limits_from_outside t.dims (nothing _ p.0);
      count = eqb-true _ _ q.0;
      small = λ i h. ltb-true _ _ (below (length t.words) (small t) q.1 i h);
    }

-- a cell is bound, or its word is 0
abbrev zero_free : Content → List Placed → ℕ → ℕ → Bool
zero_free t H b c = binding (of b H) c || eqb (word_at t b c) 0

abbrev zeros : Content → List Placed → Bool
zeros t H = all_below t.dims.b (λ b. all_below t.dims.n (zero_free t H b))

is_zero : (t : Content) (H : List Placed) → Sound t → zeros t H ≡ true → (b c : ℕ) → c < t.dims.n → ¬ BoundIn H b c → word_at t b c ≡ 0
is_zero t H s z b c l free = go (dec_lt b t.dims.b)
  where
    by : (binding (of b H) c ≡ true) ⊎ (eqb (word_at t b c) 0 ≡ true) → word_at t b c ≡ 0
    by (inl e) = absurd (free (is_bound (of b H) c e))
    by (inr e) = eqb-true _ _ e

    go : Dec (b < t.dims.b) → word_at t b c ≡ 0
    go (yes h) =
        by (or_cases _ _
        (below t.dims.n (zero_free t H b) (below t.dims.b (λ k. all_below t.dims.n (zero_free t H k)) z b h) c l))
    go (no h) =
        let past : t.dims.b * t.dims.n ≤ b * t.dims.n = mul-le-mul_right t.dims.n (omega arith) in
        get_or_past t.words (b * t.dims.n + c) 0 (omega (arith, s.count))

-- the table of what is held, and its image
abbrev tabled : Content → List Placed → Bool
tabled t H = sound t && (every (fills t.dims.n (word_at t)) H && zeros t H)

is_tabled : (t : Content) (H : List Placed) → tabled t H ≡ true → TableOf t.dims H t
is_tabled t H x =
    let p = and_parts _ _ x in
    let q = and_parts _ _ p.1 in
    let s = is_sound t p.0 in
    record { dims = refl; sound = s; filling = (satisfies t.dims.n (word_at t) H q.0, is_zero t H s q.1) }

abbrev pub writing : Written → Bool
writing c =
    filled c.table.dims (entries (entered c.table.dims c.works))
    && (tabled c.table (entries (entered c.table.dims c.works)) && alike (image c.table) c.bytes)

pub is_writing : (c : Written) → writing c ≡ true → Writes c
is_writing c t =
    let d = c.table.dims in
    let hs = entered d c.works in
    let p = and_parts _ _ t in
    let q = and_parts _ _ p.1 in
    (hs, all_held d hs p.0, is_tabled c.table (entries hs) q.0, is_alike (image c.table) c.bytes q.1)
