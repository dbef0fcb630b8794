-- One entry more: the state after it stands for the entries with it.
use Rattle.std.proofs.Common.{◌≡◌, ℕ, ◌<◌, true, List, ◌∷◌, bit_xor, sym, ap, ◌∙◌, subst, ap₂, inl, inr, true≢false, arith}
use Rattle.std.proofs.Math.Decide.{ℕ_discrete as dec_eq, dec_lt}
use Rattle.span.specs.Sets.{has, differs, Within}
use Rattle.span.specs.Lead.{Lead}
use Rattle.span.specs.Kinds.{Kind, Comb, SameSpan, Member}
use Rattle.span.specs.Echelon.{Row, rows, State, rows_of, Echelon, Clear, Reduces, Stands, Put}
use Rattle.span.proofs.Bits.{has_xor, has_zero}
use Rattle.span.proofs.Lead.{lead_has}
use Rattle.span.proofs.Comb.{cancel, comb_sum, comb_member, comb_ind, comb_trans}
use Rattle.span.proofs.Echelon.{RowOf, row_member, member_row}

-- no cell at or past n, in either of two sets, nor in their symmetric difference
pub within_xor : (n a b : ℕ) → Within n a → Within n b → Within n (bit_xor a b)
within_xor n a b ha hb c h = has_xor a b c ∙ ap₂ differs (ha c h) (hb c h)

-- a cell that a set within n holds is below n
pub within_lt : (n m c : ℕ) → Within n m → has m c ≡ true → c < n
within_lt n m c h t = go (dec_lt c n)
  where
    go : Dec (c < n) → c < n
    go (yes p) = p
    go (no p) = absurd (true≢false (sym t ∙ h c (omega arith)))

module _ {A : Type 0} (K : Kind A) (n : ℕ) where
  -- a combination of rows within n is within n
  pub comb_within : (G : List (Row A)) → ((e : Row A) → Member e G → Within n e.0) → (v : Row A) → Comb (rows K) G v → Within n v.0
  comb_within G = comb_ind (rows K) (λ v. Within n v.0) (λ c h. has_zero c) (λ u v. within_xor n u.0 v.0) G

  -- so is each combination of a state's rows
  pub rows_within : (S : State A) → Echelon n S → (v : Row A) → Comb (rows K) (rows_of S n) v → Within n v.0
  rows_within S ech = comb_within (rows_of S n) (λ e m. go e (member_row S n e m))
    where
      go : (e : Row A) → RowOf S n e → Within n e.0
      go e (c, h, b, q) = subst (λ (r : Row A). Within n r.0) (sym q) (ech c h b).1

  -- what a row within n reduces to is within n
  pub reduced_within : (S : State A) → Echelon n S → (e v : Row A) → Within n e.0 → Reduces K n S e v → Within n v.0
  reduced_within S ech e v he r =
      subst (λ (x : Row A). Within n x.0) (cancel (rows K) e v)
      (within_xor n e.0 (bit_xor e.0 v.0) he (rows_within S ech ((rows K).sum e v) r.0))

  module _ (S T : State A) (p : ℕ) (v : Row A) (lead : Lead v.0 p) (pn : p < n) (clear : Clear n S v.0) (into : Put S p v T) where
    -- the cell was free
    was_free : (c : ℕ) → c < n → S.bound c ≡ true → ¬ (c ≡ p)
    was_free c h b e = true≢false (sym (lead_has v.0 p lead) ∙ sym (ap (has v.0) e) ∙ clear c h b)

    -- each bound row of S is one of T
    kept : (c : ℕ) → c < n → S.bound c ≡ true → Comb (rows K) (rows_of T n) (S.row c)
    kept c h b =
        let same : (T.bound c ≡ S.bound c) × (T.row c ≡ S.row c) = into.2 c (was_free c h b) in
        subst (Comb (rows K) (rows_of T n)) same.1 (comb_member (rows K) (rows_of T n) (T.row c) (row_member T n c h (same.0 ∙ b)))

    -- so each combination of rows of S is one of T
    kept_comb : (x : Row A) → Comb (rows K) (rows_of S n) x → Comb (rows K) (rows_of T n) x
    kept_comb = comb_trans (rows K) (rows_of S n) (rows_of T n) (λ e m. go e (member_row S n e m))
      where
        go : (e : Row A) → RowOf S n e → Comb (rows K) (rows_of T n) e
        go e (c, h, b, q) = subst (Comb (rows K) (rows_of T n)) (sym q) (kept c h b)

    -- the new row is one of T
    new_comb : Comb (rows K) (rows_of T n) v
    new_comb = subst (Comb (rows K) (rows_of T n)) into.1 (comb_member (rows K) (rows_of T n) (T.row p) (row_member T n p pn into.0))

    -- the new state is in echelon form
    put_echelon : Echelon n S → Within n v.0 → Echelon n T
    put_echelon ech within c h b = go (dec_eq c p)
      where
        go : Dec (c ≡ p) → Lead (T.row c).0 c × Within n (T.row c).0
        go (yes e) =
            let same : T.row c ≡ v = ap T.row e ∙ into.1 in
            subst (λ (r : Row A). Lead r.0 c × Within n r.0) (sym same) (subst (Lead v.0) (sym e) lead, within)
        go (no e) =
            let same : (T.bound c ≡ S.bound c) × (T.row c ≡ S.row c) = into.2 c e in
            subst (λ (r : Row A). Lead r.0 c × Within n r.0) (sym same.1) (ech c h (sym same.0 ∙ b))

    -- the rows of T come from those of S and the new one
    from_old : (H : List (Row A)) (e : Row A) → SameSpan (rows K) H (rows_of S n) → Comb (rows K) (rows_of S n) ((rows K).sum e v)
        → (r : Row A) → RowOf T n r → Comb (rows K) (e ∷ H) r
    from_old H e span made r (c, h, b, q) = subst (Comb (rows K) (e ∷ H)) (sym q) (go (dec_eq c p))
      where
        go : Dec (c ≡ p) → Comb (rows K) (e ∷ H) (T.row c)
        go (yes i) = subst (Comb (rows K) (e ∷ H)) (sym (ap T.row i ∙ into.1)) (inr ((span ((rows K).sum e v)).1 made))
        go (no i) =
            let same : (T.bound c ≡ S.bound c) × (T.row c ≡ S.row c) = into.2 c i in
            subst (Comb (rows K) (e ∷ H)) (sym same.1)
            (inl ((span (S.row c)).1 (comb_member (rows K) (rows_of S n) (S.row c) (row_member S n c h (sym same.0 ∙ b)))))

    -- the entries come from the rows of T
    from_new : (H : List (Row A)) (e : Row A) → SameSpan (rows K) H (rows_of S n) → Comb (rows K) (rows_of S n) ((rows K).sum e v)
        → (x : Row A) → Member x (e ∷ H) → Comb (rows K) (rows_of T n) x
    from_new H e span made x (inl q) =
        subst (Comb (rows K) (rows_of T n))
        (ap ((rows K).sum v) ((rows K).comm e v) ∙ cancel (rows K) v e ∙ sym q)
        (comb_sum (rows K) (rows_of T n) v ((rows K).sum e v) new_comb (kept_comb ((rows K).sum e v) made))
    from_new H e span made x (inr m) = kept_comb x ((span x).0 (comb_member (rows K) H x m))

    -- an entry that reduces to a row that p leads makes p bound, with that row
    pub step_bind : (H : List (Row A)) (e : Row A) → Stands K n H S → Within n e.0 → Reduces K n S e v → Stands K n (e ∷ H) T
    step_bind H e (ech, span) he r = (
      put_echelon ech (reduced_within S ech e v he r),
      λ x. (
        comb_trans (rows K) (e ∷ H) (rows_of T n) (from_new H e span r.0) x,
        comb_trans (rows K) (rows_of T n) (e ∷ H) (λ y m. from_old H e span r.0 y (member_row T n y m)) x,
      ),
    )

  -- an entry that reduces to nothing is a combination of the rows
  pub none_comb : (S : State A) (e : Row A) → Reduces K n S e (rows K).none → Comb (rows K) (rows_of S n) e
  none_comb S e r = subst (Comb (rows K) (rows_of S n)) ((rows K).plus_none e) r.0

  -- it changes nothing
  pub step_dependent : (S : State A) (H : List (Row A)) (e : Row A) → Stands K n H S → Reduces K n S e (rows K).none → Stands K n (e ∷ H) S
  step_dependent S H e (ech, span) r =
      (ech, λ x. (comb_trans (rows K) (e ∷ H) (rows_of S n) members x, λ q. inl ((span x).1 q)))
    where
      members : (y : Row A) → Member y (e ∷ H) → Comb (rows K) (rows_of S n) y
      members y (inl q) = subst (Comb (rows K) (rows_of S n)) (sym q) (none_comb S e r)
      members y (inr m) = (span y).0 (comb_member (rows K) H y m)
