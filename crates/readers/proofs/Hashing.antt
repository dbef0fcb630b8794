-- The hash at a key without its last byte.
use Rattle.std.proofs.Common.{◌≡◌, ℕ, ◌+◌, ◌-◌, ◌<◌, List, [], ◌∷◌, ◌++◌, length, get_or, take, sym, refl, ap, ◌∙◌, arith}
use Rattle.std.proofs.lemmas.List.{take_more, take_all}
use Rattle.readers.specs.Stream.{fnv_step, fnv_from, FnvRule}

fnv_from_push : (h : ℕ) (xs : List ℕ) (b : ℕ) → fnv_from h (xs ++ b ∷ []) ≡ fnv_step (fnv_from h xs) b
fnv_from_push h [] b = refl
fnv_from_push h (x ∷ xs) b = fnv_from_push (fnv_step h x) xs b

pub fnv_rule : FnvRule
fnv_rule = (refl, fnv_from_push 14695981039346656037)

-- the hash of a longer key is one step on from that of the key without its last byte
pub fnv_from_last : (h : ℕ) (key : List ℕ) → 0 < length key → fnv_step (fnv_from h (take (length key - 1) key)) (get_or key (length key - 1) 0) ≡ fnv_from h key
fnv_from_last h key pos =
    let n = length key - 1 in
    let all : take (n + 1) key ≡ key = take_all (n + 1) key (omega arith) in
    sym (fnv_from_push h (take n key) (get_or key n 0)) ∙ ap (fnv_from h) (sym (take_more key n 0 (omega arith)) ∙ all)
