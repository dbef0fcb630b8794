-- The words that calls of a generator give, one after another.
use Rattle.std.proofs.Common.{◌≡◌, ℕ, zero, suc, ◌+◌, ◌<◌, ◌≤◌, List, get_or, sym, ap, ◌∙◌, inl, inr, add-one, arith}
use Rattle.std.proofs.lemmas.Bool.{cases_eq}
use Rattle.std.specs.Array.{IsFromFnResultFrom}
use Rattle.std.specs.Fn.{Called}
use denote.Param.Members.{Mut}
use Rattle.readers.specs.Stream.{advance, mix, state, word}

module _ {F : Type 0} (g : Mut F (ℕ × Unit {0}) ℕ) (now : F → ℕ)
    (step : (f : F) (i y : ℕ) (q : F) → Called g f (i, tt) y q → (now q ≡ advance (now f)) × (y ≡ mix (advance (now f))))
    (seed : ℕ) (ys : List ℕ)
  where
    pub words_from : (n i : ℕ) (f : F) → now f ≡ state seed i → IsFromFnResultFrom g f ys i n
        → (k : ℕ) → i ≤ k → k < i + n → get_or ys k 0 ≡ word seed k
    words_from zero i f is h k low high = absurd (omega arith)
    words_from (suc n) i f is (q, y, here, call, rest) k low high =
        let made = step f i y q call in
        elim (cases_eq k i) [
          | inl e ↦ ap (λ j. get_or ys j 0) e ∙ here.1 0 ∙ made.1 ∙ ap (λ s. mix (advance s)) is ∙ sym (ap (word seed) e)
          | inr ne ↦ words_from n (i + 1) q (made.0 ∙ ap advance is ∙ sym (ap (state seed) (add-one i))) rest k (omega arith) (omega arith)
        ]
