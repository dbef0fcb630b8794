-- Answer kinds, and the combinations of a list of entries.
use Rattle.std.specs.Prelude.{◌≡◌, ◌⊎◌, ◌↔◌, List, [], ◌∷◌, ℕ}
use Rattle.std.specs.Int.Bits.{bit_xor, xor_assoc, xor_zero_r, xor_self}
use Rattle.std.proofs.lemmas.Nat.{xor_comm}

-- A sum whose order and grouping do not matter, with a zero, where a value plus itself is zero.
pub record Kind (V : Type 0) : Type 0 where
  pub none : V
  pub sum : V → V → V
  pub assoc : (x y z : V) → sum (sum x y) z ≡ sum x (sum y z)
  pub comm : (x y : V) → sum x y ≡ sum y x
  pub plus_none : (x : V) → sum x none ≡ x
  pub plus_self : (x : V) → sum x x ≡ none

-- Words, cell sets and slot sets: numbers under XOR.
abbrev pub numbers : Kind ℕ
numbers = record { none = 0; sum = bit_xor; assoc = xor_assoc; comm = xor_comm; plus_none = xor_zero_r; plus_self = xor_self }

-- Two kinds side by side.
abbrev pub both : {A B : Type 0} → Kind A → Kind B → Kind (A × B)
both K L = record {
  none = (K.none, L.none);
  sum = λ x y. (K.sum x.0 y.0, L.sum x.1 y.1);
  assoc = λ x y z i. (K.assoc x.0 y.0 z.0 i, L.assoc x.1 y.1 z.1 i);
  comm = λ x y i. (K.comm x.0 y.0 i, L.comm x.1 y.1 i);
  plus_none = λ x i. (K.plus_none x.0 i, L.plus_none x.1 i);
  plus_self = λ x i. (K.plus_self x.0 i, L.plus_self x.1 i);
}

-- v is the sum of some of the entries of a list: of none; or the first is left out, or it is taken and the rest makes up for it.
abbrev pub Comb : {V : Type 0} → Kind V → List V → V → Type 0
Comb K [] v = v ≡ K.none
Comb K (e ∷ H) v = Comb K H v ⊎ Comb K H (K.sum e v)

-- Two lists have the same combinations.
abbrev pub SameSpan : {V : Type 0} → Kind V → List V → List V → Type 0
SameSpan {V} K G H = (v : V) → Comb K G v ↔ Comb K H v

-- v stands in the list.
abbrev pub Member : {V : Type 0} → V → List V → Type 0
Member v [] = ⊥
Member v (e ∷ H) = (v ≡ e) ⊎ Member v H

-- Each entry of one list is in the other, in any order and however often.
abbrev pub SameEntries : {V : Type 0} → List V → List V → Type 0
SameEntries {V} G H = (e : V) → Member e G ↔ Member e H
