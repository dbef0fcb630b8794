-- One step of writing words as bytes.
use Rattle.std.proofs.Common.{◌≡◌, ℕ, zero, suc, ◌^◌, refl, ap₂, pow-suc, ◌+◌, ◌-◌, ◌*◌, ◌/◌, ◌%◌, ◌<◌, ◌≤◌, IsOk, Result, List, [], ◌∷◌, ◌++◌, length, get_or, take, drop, sym, ap, ◌∙◌, mul-le-mul_right, add-mul, one-mul, add-one-le, arith}
use Rattle.std.proofs.Math.Nat.{div-div-eq-div-mul}
use borrow.Rule.Slice.PartMut.{put_mid}
use Rattle.std.specs.List.{flat_map}
use Rattle.std.specs.Int.{w64, byte_at, bytes_high_first, to_be_bytes}
use Rattle.std.proofs.lemmas.List.{take_more, take_all, flat_map_more}
use Rattle.std.proofs.lemmas.Slice.{take-put_mid}
use Rattle.std.proofs.lemmas.Bool.{eq-eqb, cond-true}
use Rattle.table.specs.Images.{bytes_of, Stored}
use Rattle.table.specs.declared.store.WrongLength.{WrongLength}
use Rattle.table.proofs.Bytes.{length_bytes_of}

-- a number's lowest w + 1 bytes are those of its 256th part, and the lowest byte
bytes_high : (w x : ℕ) → bytes_high_first (suc w) x ≡ bytes_high_first w (x / 256) ++ x % 256 ∷ []
bytes_high zero x = refl
bytes_high (suc zero) x = refl
bytes_high (suc (suc w)) x =
    let top : byte_at (suc (suc w)) x ≡ byte_at (suc w) (x / 256) =
    ap (λ n. x / n % 256) (omega (arith, pow-suc 256 (suc w))) ∙ ap (λ n. n % 256) (sym (div-div-eq-div-mul x 256 (256 ^ suc w))) in
    ap₂ (λ b bs. b ∷ bs) top (bytes_high (suc w) x)

bytes_are : (w x : ℕ) → bytes_of w x ≡ bytes_high_first w x
bytes_are zero x = refl
bytes_are (suc w) x = ap (λ bs. bs ++ x % 256 ∷ []) (bytes_are w (x / 256)) ∙ sym (bytes_high w x)

-- the last w of more bytes are the lowest w
last_bytes : (k w x n : ℕ) → n ≡ k + w → drop k (bytes_high_first n x) ≡ bytes_high_first w x
last_bytes zero w x n e = ap (λ j. bytes_high_first j x) (omega arith)
last_bytes (suc k) w x zero e = absurd (omega arith)
last_bytes (suc k) w x (suc n) e = last_bytes k w x n (omega arith)

-- the last w bytes of a word of eight
pub low_bytes : (w x : ℕ) → w ≤ 8 → take (8 - (8 - w)) (drop (8 - w) (to_be_bytes w64 x)) ≡ bytes_of w x
low_bytes w x h =
    let low : drop (8 - w) (to_be_bytes w64 x) ≡ bytes_of w x = last_bytes (8 - w) w x 8 (omega arith) ∙ sym (bytes_are w x) in
    ap (take (8 - (8 - w))) low ∙ take_all (8 - (8 - w)) (bytes_of w x) (omega (arith, length_bytes_of w x))

-- a cell of w bytes ends where the next begins
cell_end : (w i : ℕ) → (i + 1) * w ≡ i * w + w
cell_end w i = add-mul i 1 w ∙ ap (λ n. i * w + n) (one-mul w)

-- word i of m has its cell within the bytes of all
pub cell_within : (w i m n : ℕ) → i < m → n ≡ m * w → (i + 1) * w ≤ n
cell_within w i m n h e = omega (arith, add-one-le h, mul-le-mul_right w h)

-- one word, whose cell is written over
pub word_more : (w i : ℕ) (cells cell words : List ℕ) → i < length words → (i + 1) * w ≤ length cells
    → cell ≡ bytes_of w (get_or words i 0)
    → take (i * w) cells ≡ flat_map (bytes_of w) (take i words)
    → take ((i + 1) * w) (put_mid (i * w) ((i + 1) * w - i * w) cells cell) ≡ flat_map (bytes_of w) (take (i + 1) words)
word_more w i cells cell words h within here before =
    let x = get_or words i 0 in
    let next = cell_end w i in
    let full : length cell ≡ w = ap length here ∙ length_bytes_of w x in
    let front = take-put_mid (i * w) ((i + 1) * w - i * w) cells cell ((i + 1) * w) (omega arith) (omega arith) in
    let more = flat_map_more (bytes_of w) [] (take i words) x in
    let taken = take_more words i 0 h in
    cc

-- bytes that have exactly their room are put
pub stored_ok : (bytes old : List ℕ) (r : Result (Unit {0}) WrongLength) (new : List ℕ) → Stored bytes old r new → length old ≡ length bytes → IsOk r
stored_ok bytes old r new s room = s.told ∙ eq-eqb (length old) (length bytes) room

pub stored_is : (bytes old : List ℕ) (r : Result (Unit {0}) WrongLength) (new : List ℕ) → Stored bytes old r new → length old ≡ length bytes → new ≡ bytes
stored_is bytes old r new s room = s.put ∙ cond-true _ _ _ (stored_ok bytes old r new s room)
