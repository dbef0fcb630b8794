-- Words as bytes and back.
use Rattle.std.proofs.Common.{◌≡◌, ℕ, zero, suc, ◌+◌, ◌*◌, ◌/◌, ◌%◌, ◌^◌, ◌<◌, ◌≤◌, List, [], ◌∷◌, ◌++◌, length, get_or, take, drop, sym, refl, ap, ◌∙◌, subst, suc-mul, pow-suc, zero-mul, add-one, arith, length-append, bit_or, fold, mul_assoc, mul-le-mul_right, lit<}
use Rattle.std.specs.List.{flat_map}
use Rattle.std.specs.Int.Digits.{number_from_digits, number_from_digits_after}
use Rattle.std.proofs.lemmas.Grind.{or_after_shift}
use Rattle.std.proofs.Math.Nat.{one-le-pow, le-mul_of_pos_right, pow-le-pow_right}
use Rattle.std.proofs.lemmas.Nat.{div-add-mod', div-mul-add, mod-mul-add}
use Rattle.std.proofs.lemmas.Int.Digits.{number_push, number_more}
use Rattle.std.proofs.lemmas.List.{take_more, take-append-drop, length-drop, get_or-drop, nil_from_length}
use Rattle.table.specs.Images.{bytes_of, cut}
use Rattle.table.proofs.Walks.{cut_more}

pub length_bytes_of : (w x : ℕ) → length (bytes_of w x) ≡ w
length_bytes_of zero x = refl
length_bytes_of (suc w) x = omega (arith, length-append (bytes_of w (x / 256)) (x % 256 ∷ []), length_bytes_of w (x / 256))

-- a word that fits w bytes is the number that they write
pub number_bytes_of : (w x : ℕ) → x < 256 ^ w → number_from_digits 256 (bytes_of w x) ≡ x
number_bytes_of zero x h = omega arith
number_bytes_of (suc w) x h =
    let small : x / 256 < 256 ^ w = omega (arith, pow-suc 256 w) in
    number_push 256 (bytes_of w (x / 256)) (x % 256)
    ∙ (ap (λ n. n * 256 + x % 256) (number_bytes_of w (x / 256) small) ∙ div-add-mod' x 256)

-- and bytes are those of the number that they write
pub bytes_of_number : (w : ℕ) (ds : List ℕ) → w ≤ length ds → ((i : ℕ) → get_or ds i 0 < 256) → bytes_of w (number_from_digits 256 (take w ds)) ≡ take w ds
bytes_of_number zero ds h small = refl
bytes_of_number (suc w) ds h small =
    let d = get_or ds w 0 in
    let n = number_from_digits 256 (take w ds) in
    let lt : w < length ds = h in
    let value : number_from_digits 256 (take (suc w) ds) ≡ n * 256 + d = rw add-one at (number_more 256 ds w lt) in
    let front : take (suc w) ds ≡ take w ds ++ d ∷ [] = rw add-one at (take_more ds w 0 lt) in
    let high : (n * 256 + d) / 256 ≡ n = div-mul-add n 256 d (small w) in
    let low : (n * 256 + d) % 256 ≡ d = mod-mul-add n 256 d (small w) in
    let rest = bytes_of_number w ds (omega arith) small in
    cc

pub length_joined : (w : ℕ) (xs : List ℕ) → length (flat_map (bytes_of w) xs) ≡ length xs * w
length_joined w [] = sym (zero-mul w)
length_joined w (x ∷ xs) =
    omega (arith, length-append (bytes_of w x) (flat_map (bytes_of w) xs), length_bytes_of w x, length_joined w xs, suc-mul (length xs) w)

-- the cells of the bytes of words are those words
pub cut_joined : (w : ℕ) (xs : List ℕ) → ((i : ℕ) → i < length xs → get_or xs i 0 < 256 ^ w) → cut w (length xs) (flat_map (bytes_of w) xs) ≡ xs
cut_joined w [] small = refl
cut_joined w (x ∷ xs) small =
    let first : number_from_digits 256 (bytes_of w x) ≡ x = number_bytes_of w x (small 0 (omega arith)) in
    let rest : cut w (length xs) (flat_map (bytes_of w) xs) ≡ xs = cut_joined w xs (λ i h. small (suc i) (omega arith)) in
    cut_more w (length xs) (bytes_of w x) (flat_map (bytes_of w) xs) (length_bytes_of w x) ∙ cc

-- and the bytes of cells are the bytes that they were cut from
pub joined_cut : (w m : ℕ) (bs : List ℕ) → length bs ≡ m * w → ((i : ℕ) → get_or bs i 0 < 256) → flat_map (bytes_of w) (cut w m bs) ≡ bs
joined_cut w zero bs h small = sym (nil_from_length bs (h ∙ zero-mul w))
joined_cut w (suc m) bs h small =
    let long : length bs ≡ m * w + w = h ∙ suc-mul m w in
    let first : bytes_of w (number_from_digits 256 (take w bs)) ≡ take w bs = bytes_of_number w bs (omega arith) small in
    let rest : flat_map (bytes_of w) (cut w m (drop w bs)) ≡ drop w bs =
    joined_cut w m (drop w bs) (omega (arith, length-drop w bs)) (λ i. subst (λ n. n < 256) (sym (get_or-drop w bs i 0)) (small (w + i))) in
    let whole = take-append-drop w bs in
    cc

-- a byte more of a word that is read, the high byte first
abbrev pub with_byte : ℕ → ℕ → ℕ
with_byte v b = bit_or (v * 256 % 2 ^ 64) b

read_after : (n : ℕ) (ds : List ℕ) → ((i : ℕ) → get_or ds i 0 < 256) → (n + 1) * 256 ^ length ds ≤ 2 ^ 64 → fold with_byte n ds ≡ number_from_digits_after 256 n ds
read_after n [] small h = refl
read_after n (d ∷ ds) small h =
    let rest = 256 ^ length ds in
    let low : d < 256 = small 0 in
    let next : (n * 256 + d + 1) * rest ≤ (n + 1) * 256 * rest = mul-le-mul_right rest (omega arith) in
    let more : (n * 256 + d + 1) * rest ≤ 2 ^ 64 = omega (arith, next, mul_assoc (n + 1) 256 rest, ap (λ p. (n + 1) * p) (pow-suc 256 (length ds))) in
    let room : n * 256 < 2 ^ 64 = omega (arith, more, le-mul_of_pos_right (n * 256 + d + 1) (one-le-pow (length ds) 256 (lit< tt))) in
    ap (λ v. fold with_byte v ds) (or_after_shift n 256 (2 ^ 64) d refl low room) ∙ read_after (n * 256 + d) ds (λ i. small (suc i)) more

-- the bytes of a word, eight at most, are read as the number that they write
pub read_is : (ds : List ℕ) → ((i : ℕ) → get_or ds i 0 < 256) → length ds ≤ 8 → fold with_byte 0 ds ≡ number_from_digits 256 ds
read_is ds small h = read_after 0 ds small (omega (arith, pow-le-pow_right {n = 256} (omega arith) h))
