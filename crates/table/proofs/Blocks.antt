-- The words in a part of the cells.
use Rattle.std.proofs.Common.{◌≡◌, ℕ, zero, suc, ◌+◌, ◌-◌, ◌*◌, ◌/◌, ◌<◌, ◌≤◌, List, length, get_or, take, drop, sym, ap, ◌∙◌, mul-le-mul_right, mul_assoc, suc-mul, add-mul, one-mul, zero-mul, mul-div_cancel, arith}
use Rattle.std.specs.Int.Digits.{number_from_digits}
use Rattle.std.proofs.lemmas.List.{take-take, drop-take, drop-drop, length-drop, length-take-le}
use Rattle.span.specs.Fillings.{xor_over}
use Rattle.span.proofs.Xors.{xor_over_same}
use Rattle.shapes.specs.declared.shape.Dims.{Dims}
use Rattle.table.specs.Sizes.{width, cells_length}
use Rattle.table.specs.Images.{cut, content_of}
use Rattle.table.specs.Questions.{xor_in, word_at}

-- the word of cell c stands in the w bytes from c * w on
abbrev pub word_of : ℕ → List ℕ → ℕ → ℕ
word_of w bs c = number_from_digits 256 (take w (drop (c * w) bs))

pub get_or_cut : (w m : ℕ) (bs : List ℕ) (c : ℕ) → c < m → get_or (cut w m bs) c 0 ≡ word_of w bs c
get_or_cut w zero bs c h = absurd (omega arith)
get_or_cut w (suc m) bs zero h = ap (λ j. number_from_digits 256 (take w (drop j bs))) (sym (zero-mul w))
get_or_cut w (suc m) bs (suc c) h =
    let size : w + c * w ≡ suc c * w = omega (arith, suc-mul c w) in
    get_or_cut w m (drop w bs) c (omega arith)
    ∙ ap (λ xs. number_from_digits 256 (take w xs)) (drop-drop (c * w) w bs ∙ ap (λ j. drop j bs) size)

-- n whole cells are n cells
pub whole : (w n : ℕ) (bs : List ℕ) → 1 ≤ w → length bs ≡ n * w → length bs / w ≡ n
whole w n bs pos e = ap (λ j. j / w) e ∙ mul-div_cancel n pos

-- cell c in the bytes of block b, of blocks of n cells, is cell b * n + c of all
word_in_block : (w n b blocks c : ℕ) (cells : List ℕ) → b < blocks → c < n
    → get_or (cut w n (take (n * w) (drop (b * (n * w)) cells))) c 0 ≡ get_or (cut w (blocks * n) cells) (b * n + c) 0
word_in_block w n b blocks c cells hb hc =
    let m = (n - suc c) * w in
    let all : n ≡ c + (1 + (n - suc c)) = omega arith in
    let parts : n * w ≡ c * w + (w + m) =
    ap (λ j. j * w) all ∙ omega (arith, add-mul c (1 + (n - suc c)) w, add-mul 1 (n - suc c) w, one-mul w) in
    let part = drop (b * (n * w)) cells in
    let le : w ≤ w + m = omega arith in
    let front : take w (drop (c * w) (take (n * w) part)) ≡ take w (drop (c * w) part) =
    ap (λ j. take w (drop (c * w) (take j part))) parts ∙ (ap (take w) (drop-take (c * w) (w + m) part) ∙ take-take w (w + m) (drop (c * w) part) le) in
    let start : b * (n * w) + c * w ≡ (b * n + c) * w = omega (arith, mul_assoc b n w, add-mul (b * n) c w) in
    let next : (b + 1) * n ≤ blocks * n = mul-le-mul_right n (omega arith) in
    let inside : b * n + c < blocks * n = omega (arith, add-mul b 1 n, one-mul n) in
    get_or_cut w n (take (n * w) part) c hc
    ∙ (ap (number_from_digits 256) (front ∙ ap (take w) (drop-drop (c * w) (b * (n * w)) cells ∙ ap (λ j. drop j cells) start))
    ∙ sym (get_or_cut w (blocks * n) cells (b * n + c) inside))

-- the bytes of block b are within the cells
pub block_end : (w n b blocks : ℕ) → b < blocks → (b + 1) * (n * w) ≤ blocks * n * w
block_end w n b blocks h =
    let le : (b + 1) * (n * w) ≤ blocks * (n * w) = mul-le-mul_right (n * w) (omega arith) in
    omega (arith, mul_assoc blocks n w)

-- the bytes of block b, of blocks of so many bytes
abbrev pub part : ℕ → ℕ → List ℕ → List ℕ
part size b cells = take ((b + 1) * size - b * size) (drop (b * size) cells)

-- the XOR over them is the XOR over the block's words
pub xor_part : (d : Dims) (b mask : ℕ) (cells : List ℕ) → 1 ≤ width d → b < d.b → length cells ≡ cells_length d
    → xor_in (width d) (part (d.n * width d) b cells) mask ≡ xor_over (word_at (content_of d cells) b) d.n mask
xor_part d b mask cells pos h long =
    let w = width d in
    let n = d.n in
    let size = n * w in
    let all = drop (b * size) cells in
    let one : (b + 1) * size - b * size ≡ size = omega (arith, add-mul b 1 size, one-mul size) in
    let room : size ≤ length all = omega (arith, length-drop (b * size) cells, block_end w n b d.b h, add-mul b 1 size, one-mul size) in
    let count : length (take size all) / w ≡ n = whole w n (take size all) pos (length-take-le size all room) in
    ap (λ j. xor_in w (take j all) mask) one
    ∙ (ap (λ j. xor_over (λ c. get_or (cut w j (take size all)) c 0) j mask) count
    ∙ xor_over_same _ _ n mask (λ c hc. word_in_block w n b d.b c cells h hc))
