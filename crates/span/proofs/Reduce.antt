-- Reduction: upward through the cells, adding the row of each bound cell that the set still holds.
use Rattle.std.proofs.Common.{◌≡◌, ℕ, zero, suc, ◌<◌, ◌≤◌, Bool, true, false, bit_xor, sym, refl, ap, ◌∙◌, subst, ap₂, true≢false, le_refl, not-suc-le-zero, arith}
use Rattle.std.proofs.Math.Decide.{ℕ_discrete as dec_eq, dec_lt}
use Rattle.std.proofs.lemmas.Nat.{xor_comm}
use Rattle.span.specs.Sets.{has, differs}
use Rattle.span.specs.Lead.{Lead}
use Rattle.span.specs.Kinds.{Kind, Comb}
use Rattle.span.specs.Echelon.{Row, rows, State, rows_of, Echelon, Clear, Added, Reduces}
use Rattle.span.proofs.Bits.{has_xor, has_xor_clear}
use Rattle.span.proofs.Lead.{lead_has, lead_before}
use Rattle.span.proofs.Comb.{cancel_common, same_of_none, comb_none, comb_sum, comb_member}
use Rattle.span.proofs.Echelon.{row_member, clear_none}

module _ {A : Type 0} (K : Kind A) (n : ℕ) (S : State A) where
  -- nothing was added
  pub added_none : (v : Row A) → Added K n S v v
  added_none v = subst (Comb (rows K) (rows_of S n)) (sym ((rows K).plus_self v)) (comb_none (rows K) (rows_of S n))

  -- one bound row more was added
  pub added_row : (k : ℕ) → k < n → S.bound k ≡ true → (v w : Row A) → Added K n S v w → Added K n S v ((rows K).sum w (S.row k))
  added_row k kn b v w p =
      subst (Comb (rows K) (rows_of S n)) ((rows K).assoc v w (S.row k))
      (comb_sum (rows K) (rows_of S n) ((rows K).sum v w) (S.row k) p (comb_member (rows K) (rows_of S n) (S.row k) (row_member S n k kn b)))

module _ {A : Type 0} (S : State A) where
  -- before the first cell
  pub clear_start : (m : ℕ) → Clear 0 S m
  clear_start m c h b = absurd (not-suc-le-zero h)

  -- cells that are not both bound and in the set are passed over
  pub clear_skip : (j k m : ℕ) → Clear j S m → ((c : ℕ) → j ≤ c → c < k → S.bound c ≡ true → has m c ≡ false) → Clear k S m
  clear_skip j k m clear none c h b = go (dec_lt c j)
    where
      go : Dec (c < j) → has m c ≡ false
      go (yes p) = clear c p b
      go (no p) = none c (omega arith) h b

  -- the row that a bound cell of the set leads, added, takes it out and brings none before it
  pub clear_add : (k m r : ℕ) → Clear k S m → Lead r k → has m k ≡ true → Clear (suc k) S (bit_xor m r)
  clear_add k m r clear lead e c h b = ap (λ (x : ℕ). has x c) (xor_comm m r) ∙ go (dec_eq c k)
    where
      go : Dec (c ≡ k) → has (bit_xor r m) c ≡ false
      go (yes q) = ap (has (bit_xor r m)) q ∙ has_xor_clear r m k (lead_has r k lead) e
      go (no q) = lead_before r m k c lead (omega arith) ∙ clear c (omega arith) b

module _ {A : Type 0} (K : Kind A) (n : ℕ) (S : State A) where
  -- the reduction after k cells
  abbrev pub ReducesTo : ℕ → Row A → Row A → Type 0
  ReducesTo k v w = Added K n S v w × Clear k S w.0

  -- one cell
  reduce_turn : Echelon n S → (k : ℕ) → k < n → (v w : Row A) → ReducesTo k v w → (x : Row A) × ReducesTo (suc k) v x
  reduce_turn ech k kn v w (p, clear) = go (S.bound k) refl (has w.0 k) refl
    where
      pass : (S.bound k ≡ true → has w.0 k ≡ false) → Clear (suc k) S w.0
      pass none = clear_skip S k (suc k) w.0 clear (λ c l h b.
          let e : c ≡ k = omega arith in
          ap (has w.0) e ∙ none (ap S.bound (sym e) ∙ b))

      go : (b : Bool) → S.bound k ≡ b → (h : Bool) → has w.0 k ≡ h → (x : Row A) × ReducesTo (suc k) v x
      go false b h e = (w, (p, pass (λ t. absurd (true≢false (sym t ∙ b)))))
      go true b false e = (w, (p, pass (λ t. e)))
      go true b true e = ((rows K).sum w (S.row k), (added_row K n S k kn b v w p, clear_add S k w.0 (S.row k).0 clear (ech k kn b).0 e))

  -- the first k cells
  reduce_cells : Echelon n S → (k : ℕ) → k ≤ n → (v : Row A) → (w : Row A) × ReducesTo k v w
  reduce_cells ech zero h v = (v, (added_none K n S v, clear_start S v.0))
  reduce_cells ech (suc k) h v =
      let r : (w : Row A) × ReducesTo k v w = reduce_cells ech k (omega arith) v in
      reduce_turn ech k h v r.0 r.1

  -- every row reduces
  pub reduces : Echelon n S → (v : Row A) → (w : Row A) × Reduces K n S v w
  reduces ech v = reduce_cells ech n (le_refl n) v

  -- to one row only
  pub reduces_one : Echelon n S → (v w x : Row A) → Reduces K n S v w → Reduces K n S v x → w ≡ x
  reduces_one ech v w x (p, cw) (q, cx) =
      same_of_none (rows K) w x
      (clear_none K S n ech ((rows K).sum w x)
      (subst (Comb (rows K) (rows_of S n)) (cancel_common (rows K) v w x) (comb_sum (rows K) (rows_of S n) ((rows K).sum v w) ((rows K).sum v x) p q))
      (λ c h b. has_xor w.0 x.0 c ∙ ap₂ differs (cw c h b) (cx c h b)))
