-- An image opens as the table that it is the image of, and as no other.
use Rattle.std.proofs.Common.{inl, ◌≡◌, ℕ, zero, suc, ◌+◌, ◌*◌, ◌/◌, ◌%◌, ◌^◌, ◌<◌, ◌≤◌, Bool, true, false, cond, ◌&&◌, eqb, ltb, leb, List, [], ◌∷◌, length, get_or, drop, Option, Some, None, Ok, Err, Result, sym, refl, ap, ◌∙◌, subst, pow-suc, arith}
use Rattle.std.proofs.Math.Nat.{pow-le-pow_right}
use Rattle.std.specs.List.{flat_map}
use Rattle.std.proofs.lemmas.Nat.{div-add-mod', div-mul-add, mod-mul-add, pow-add}
use Rattle.std.proofs.lemmas.List.{drop_more, get_or-drop}
use Rattle.std.proofs.lemmas.Bool.{leb-true, eqb-true, ltb-true, le-leb, eq-eqb, and_parts, and_from, cond-true}
use Rattle.shapes.specs.Limits.{InLimits, outside, unless, limited}
use Rattle.shapes.specs.declared.limit.Limit.{Limit}
use Rattle.shapes.specs.Results.{and_then}
use Rattle.shapes.specs.declared.fault.Fault.{Fault}
use Rattle.shapes.specs.declared.fault.Fault.TheVariants.{NoHeader, HeaderLimit, ImageLength, LargeCell}
use Rattle.shapes.specs.declared.shape.Dims.{Dims}
use Rattle.table.specs.Sizes.{width, cell_count, cells_length, header_length, image_length}
use Rattle.table.specs.Images.{Content, version, bytes_of, image, cut, content_of, headed, heading, sizing, below, first_large, fitting, opening}
use Rattle.table.specs.Laws.{Sound, Bytes, ImageOpensAsItsTable, OneImageForEachTable}
use Rattle.table.proofs.Walks.{length_cut, below_is}
use Rattle.table.proofs.Bytes.{length_joined, cut_joined, joined_cut}
use Rattle.shapes.proofs.Ranges.{limits_from_outside, outside_from_limits}
use Rattle.table.proofs.Openings.{fitting_is}

-- ---- words within their limit

first_below : (limit x : ℕ) (xs : List ℕ) (b : Bool) → ltb x limit ≡ b → cond b (suc (below limit xs)) zero ≡ suc (length xs)
    → (x < limit) × (below limit xs ≡ length xs)
first_below limit x xs true p e = (ltb-true x limit p, omega arith)
first_below limit x xs false p e = absurd (omega arith)

all_below_lem : (limit : ℕ) (xs : List ℕ) → below limit xs ≡ length xs → (i : ℕ) → i < length xs → get_or xs i 0 < limit
all_below_lem limit [] e i h = absurd (omega arith)
all_below_lem limit (x ∷ xs) e zero h = (first_below limit x xs (ltb x limit) refl e).0
all_below_lem limit (x ∷ xs) e (suc i) h = all_below_lem limit xs (first_below limit x xs (ltb x limit) refl e).1 i (omega arith)

-- a word of s + r bits fits the bytes of a cell
bytes_bits : (w : ℕ) → 256 ^ w ≡ 2 ^ (8 * w)
bytes_bits zero = refl
bytes_bits (suc w) =
    let more : 8 * suc w ≡ 8 * w + 8 = omega arith in
    pow-suc 256 w ∙ (ap (λ n. n * 256) (bytes_bits w) ∙ sym (ap (λ n. 2 ^ n) more ∙ pow-add 2 (8 * w) 8))

fits_cell : (d : Dims) (x : ℕ) → x < 2 ^ (d.s + d.r) → x < 256 ^ width d
fits_cell d x h =
    let room : d.s + d.r ≤ 8 * width d = omega arith in
    let le : 2 ^ (d.s + d.r) ≤ 2 ^ (8 * width d) = pow-le-pow_right (omega arith) room in
    omega (arith, bytes_bits (width d))

-- ---- an image that passes each check

heading_is : (bs : List ℕ) (d : Dims) → header_length ≤ length bs → get_or bs 0 0 ≡ version → headed bs ≡ d → heading bs ≡ Ok d
heading_is bs d long is same =
    cond-true _ _ _ (and_from _ _ (le-leb header_length (length bs) long) (eq-eqb (get_or bs 0 0) version is)) ∙ ap Ok same

sizing_is : (d : Dims) (cells : List ℕ) → InLimits d → length cells ≡ cells_length d → sizing d cells ≡ Ok d
sizing_is d cells limits long =
    let sized : Dims → Result Dims Fault = λ e. cond (eqb (length cells) (cells_length e)) (Ok e) (Err (ImageLength (image_length e))) in
    ap (λ o. and_then o sized) (ap (λ o. unless o HeaderLimit d) (outside_from_limits d limits))
    ∙ cond-true _ _ _ (eq-eqb (length cells) (cells_length d) long)

same_dims : (n n' k s r b b' : ℕ) → n ≡ n' → b ≡ b'
    → ◌≡◌ {A = Dims} (record { n = n; k = k; s = s; r = r; b = b }) (record { n = n'; k = k; s = s; r = r; b = b' })
same_dims n n' k s r b b' p q = cc

pub opens_as_its_table : ImageOpensAsItsTable
opens_as_its_table t sound =
    let d = t.dims in
    let bs = image t in
    let w = width d in
    let cells = flat_map (bytes_of w) t.words in
    let long : length cells ≡ cells_length d = length_joined w t.words ∙ ap (λ n. n * w) sound.count in
    let same : headed bs ≡ d = same_dims _ d.n d.k d.s d.r _ d.b (div-add-mod' d.n 256) (div-add-mod' d.b 256) in
    let words : cut w (cell_count d) cells ≡ t.words =
    ap (λ m. cut w m cells) (sym sound.count) ∙ cut_joined w t.words (λ i h. fits_cell d _ (sound.small i h)) in
    ap (λ o. and_then o (λ e. and_then (sizing e cells) (λ f. fitting (content_of f cells)))) (heading_is bs d (omega arith) refl same)
    ∙ (ap (λ o. and_then o (λ f. fitting (content_of f cells))) (sizing_is d cells sound.limits long)
    ∙ (ap (λ ws. fitting (record { dims = d; words = ws })) words
    ∙ fitting_is t (below_is _ t.words (length t.words) (omega arith) sound.small (inl refl))))

-- ---- what passing says of each check

pub passed : {X : Type 0} (b : Bool) (p : Result X Fault) (e : Fault) (x : X) → cond b p (Err e) ≡ Ok x → (b ≡ true) × (p ≡ Ok x)
passed true p e x h = (refl, h)
passed false p e x h = let z : ◌≡◌ {A = ℕ} 0 1 = cc in absurd (omega arith)

pub after : {X Y : Type 0} (o : Result X Fault) (f : X → Result Y Fault) (y : Y) → and_then o f ≡ Ok y → (x : X) × (o ≡ Ok x) × (f x ≡ Ok y)
after (Ok x) f y h = (x, refl, h)
after (Err e) f y h = let z : ◌≡◌ {A = ℕ} 0 1 = cc in absurd (omega arith)

pub same_ok : {X : Type 0} (x y : X) → ◌≡◌ {A = Result X Fault} (Ok x) (Ok y) → x ≡ y
same_ok x y h = cc

-- nothing is outside its limits
nothing : (found : Option Limit) (d e : Dims) → unless found HeaderLimit d ≡ Ok e → (found ≡ None) × (d ≡ e)
nothing None d e h = (refl, same_ok d e h)
nothing (Some x) d e h = let z : ◌≡◌ {A = ℕ} 0 1 = cc in absurd (omega arith)

sized_as : (d e : Dims) (cells : List ℕ) → sizing d cells ≡ Ok e → (d ≡ e) × InLimits d × (length cells ≡ cells_length d)
sized_as d e cells h =
    let q = after (limited HeaderLimit d) _ e h in
    let l = nothing (outside d) d q.0 q.1 in
    let same : d ≡ q.0 = l.1 in
    let z = passed (eqb (length cells) (cells_length q.0)) (Ok q.0) (ImageLength (image_length q.0)) e q.2 in (
      same ∙ same_ok q.0 e z.1,
      limits_from_outside d l.0,
      eqb-true (length cells) (cells_length q.0) z.0 ∙ ap cells_length (sym same),
    )

record Opened (bs : List ℕ) (t : Content) : Type 0 where
  long : header_length ≤ length bs
  first : get_or bs 0 0 ≡ version
  limits : InLimits (headed bs)
  size : length (drop header_length bs) ≡ cells_length (headed bs)
  words : first_large (content_of (headed bs) (drop header_length bs)) ≡ length (content_of (headed bs) (drop header_length bs)).words
  same : content_of (headed bs) (drop header_length bs) ≡ t

opened : (bs : List ℕ) (t : Content) → opening bs ≡ Ok t → Opened bs t
opened bs t h =
    let cells = drop header_length bs in
    let u = content_of (headed bs) cells in
    let a = after (heading bs) _ t h in
    let p = passed (leb header_length (length bs) && eqb (get_or bs 0 0) version) (Ok (headed bs)) NoHeader a.0 a.1 in
    let v = and_parts (leb header_length (length bs)) (eqb (get_or bs 0 0) version) p.0 in
    let q = after (sizing a.0 cells) _ t a.2 in
    let head : headed bs ≡ a.0 = same_ok (headed bs) a.0 p.1 in
    let s = sized_as (headed bs) q.0 cells (ap (λ d. sizing d cells) head ∙ q.1) in
    let f = passed (eqb (first_large u) (length u.words)) (Ok u) (LargeCell (first_large u)) t (ap (λ d. fitting (content_of d cells)) s.0 ∙ q.2) in
    record {
      long = leb-true header_length (length bs) v.0;
      first = eqb-true (get_or bs 0 0) version v.1;
      limits = s.1;
      size = s.2;
      words = eqb-true (first_large u) (length u.words) f.0;
      same = same_ok u t f.1;
    }

-- the first eight bytes, and the rest
front : (bs : List ℕ) → 8 ≤ length bs → bs ≡ get_or bs 0 0 ∷ get_or bs 1 0 ∷ get_or bs 2 0 ∷ get_or bs 3 0 ∷ get_or bs 4 0 ∷ get_or bs 5 0 ∷ get_or bs 6 0 ∷ get_or bs 7 0 ∷ drop 8 bs
front bs h =
    let b0 : drop 0 bs ≡ get_or bs 0 0 ∷ drop 1 bs = drop_more bs 0 0 (omega arith) in
    let b1 : drop 1 bs ≡ get_or bs 1 0 ∷ drop 2 bs = drop_more bs 1 0 (omega arith) in
    let b2 : drop 2 bs ≡ get_or bs 2 0 ∷ drop 3 bs = drop_more bs 2 0 (omega arith) in
    let b3 : drop 3 bs ≡ get_or bs 3 0 ∷ drop 4 bs = drop_more bs 3 0 (omega arith) in
    let b4 : drop 4 bs ≡ get_or bs 4 0 ∷ drop 5 bs = drop_more bs 4 0 (omega arith) in
    let b5 : drop 5 bs ≡ get_or bs 5 0 ∷ drop 6 bs = drop_more bs 5 0 (omega arith) in
    let b6 : drop 6 bs ≡ get_or bs 6 0 ∷ drop 7 bs = drop_more bs 6 0 (omega arith) in
    let b7 : drop 7 bs ≡ get_or bs 7 0 ∷ drop 8 bs = drop_more bs 7 0 (omega arith) in
    cc

-- bytes that open are the image of what they hold
rewritten : (bs : List ℕ) (t : Content) → Bytes bs → Opened bs t → bs ≡ image (content_of (headed bs) (drop header_length bs))
rewritten bs t bytes o =
    let d = headed bs in
    let all = front bs o.long in
    let n_high : (get_or bs 2 0 * 256 + get_or bs 3 0) / 256 ≡ get_or bs 2 0 = div-mul-add (get_or bs 2 0) 256 (get_or bs 3 0) (bytes 3) in
    let n_low : (get_or bs 2 0 * 256 + get_or bs 3 0) % 256 ≡ get_or bs 3 0 = mod-mul-add (get_or bs 2 0) 256 (get_or bs 3 0) (bytes 3) in
    let b_high : (get_or bs 6 0 * 256 + get_or bs 7 0) / 256 ≡ get_or bs 6 0 = div-mul-add (get_or bs 6 0) 256 (get_or bs 7 0) (bytes 7) in
    let b_low : (get_or bs 6 0 * 256 + get_or bs 7 0) % 256 ≡ get_or bs 7 0 = mod-mul-add (get_or bs 6 0) 256 (get_or bs 7 0) (bytes 7) in
    let first : get_or bs 0 0 ≡ 1 = o.first in
    let rest : flat_map (bytes_of (width d)) (cut (width d) (cell_count d) (drop 8 bs)) ≡ drop 8 bs =
    joined_cut (width d) (cell_count d) (drop 8 bs) o.size (λ i. subst (λ x. x < 256) (sym (get_or-drop 8 bs i 0)) (bytes (8 + i))) in
    cc

its_image : (bs : List ℕ) (t : Content) → Bytes bs → opening bs ≡ Ok t → Sound t × (bs ≡ image t)
its_image bs t bytes h =
    let o = opened bs t h in
    let d = headed bs in
    let u = content_of d (drop header_length bs) in
    subst (λ x. Sound x × (bs ≡ image x)) o.same (
      record {
        limits = o.limits;
        count = length_cut (width d) (cell_count d) (drop header_length bs);
        small = all_below_lem (2 ^ (d.s + d.r)) u.words o.words;
      },
      rewritten bs t bytes o,
    )

pub one_image_for_each : OneImageForEachTable
one_image_for_each = (its_image, λ bs cs t b c p q. (its_image bs t b p).1 ∙ sym (its_image cs t c q).1)
