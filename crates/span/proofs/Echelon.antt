-- The rows of a state as a list, and the lead cell of a combination of rows.
use Rattle.std.proofs.Common.{◌≡◌, ℕ, zero, suc, ◌<◌, Bool, true, false, ◌⊎◌, sym, refl, ap, ◌∙◌, subst, inl, inr, true≢false, not-suc-le-zero, arith}
use Rattle.std.proofs.Math.Decide.{ℕ_discrete as dec_eq}
use Rattle.span.specs.Lead.{Lead}
use Rattle.span.specs.Kinds.{Kind, Comb, Member}
use Rattle.span.specs.Echelon.{Row, rows, State, put, rows_of, Echelon, Clear}
use Rattle.span.proofs.Lead.{lead_has, lead_kept}
use Rattle.span.proofs.Comb.{same_of_none}

-- a bound cell's row is in the list
pub row_member : {A : Type 0} (S : State A) (n c : ℕ) → c < n → S.bound c ≡ true → Member (S.row c) (rows_of S n)
row_member S zero c h b = absurd (not-suc-le-zero h)
row_member S (suc k) c h b = go (S.bound k) refl (dec_eq c k) (λ l. row_member S k c l b)
  where
    go : (t : Bool) → S.bound k ≡ t → Dec (c ≡ k) → (c < k → Member (S.row c) (rows_of S k)) → Member (S.row c) (put t (S.row k) (rows_of S k))
    go true e (yes p) r = inl (ap S.row p)
    go true e (no p) r = inr (r (omega arith))
    go false e (yes p) r = absurd (true≢false (sym b ∙ ap S.bound p ∙ e))
    go false e (no p) r = r (omega arith)

-- the row of some bound cell below n
abbrev pub RowOf : {A : Type 0} → State A → ℕ → Row A → Type 0
RowOf S n v = (c : ℕ) × (c < n) × (S.bound c ≡ true) × (v ≡ S.row c)

-- one cell more
row_of_more : {A : Type 0} (S : State A) (k : ℕ) (v : Row A) → RowOf S k v → RowOf S (suc k) v
row_of_more S k v (c, h, b, e) = (c, omega arith, b, e)

-- each member of the list is a bound cell's row
pub member_row : {A : Type 0} (S : State A) (n : ℕ) (v : Row A) → Member v (rows_of S n) → RowOf S n v
member_row S zero v m = elim m [ ]
member_row S (suc k) v m = go (S.bound k) refl m (λ q. row_of_more S k v (member_row S k v q))
  where
    go : (t : Bool) → S.bound k ≡ t → Member v (put t (S.row k) (rows_of S k)) → (Member v (rows_of S k) → RowOf S (suc k) v) → RowOf S (suc k) v
    go true e (inl p) r = (k, omega arith, e, p)
    go true e (inr q) r = r q
    go false e q r = r q

module _ {A : Type 0} (K : Kind A) (S : State A) where
  -- the lead cell of the row is a bound cell below k
  abbrev pub LeadBound : ℕ → Row A → Type 0
  LeadBound k v = (p : ℕ) × (p < k) × (S.bound p ≡ true) × Lead v.0 p

  lead_more : (k : ℕ) (v : Row A) → (v ≡ (rows K).none) ⊎ LeadBound k v → (v ≡ (rows K).none) ⊎ LeadBound (suc k) v
  lead_more k v (inl e) = inl e
  lead_more k v (inr (p, h, b, l)) = inr (p, omega arith, b, l)

  -- where adding the row of cell k leaves nothing, it was that row; where it leaves a lead cell below k, that one led before
  lead_added : (k : ℕ) (v : Row A) → S.bound k ≡ true → Lead (S.row k).0 k
      → ((rows K).sum (S.row k) v ≡ (rows K).none) ⊎ LeadBound k ((rows K).sum (S.row k) v) → (v ≡ (rows K).none) ⊎ LeadBound (suc k) v
  lead_added k v b l (inl e) =
      inr (k, omega arith, b, subst (λ (r : Row A). Lead r.0 k) (same_of_none (rows K) (S.row k) v e) l)
  lead_added k v b l (inr (p, h, q, m)) = inr (p, omega arith, q, lead_kept (S.row k).0 v.0 k p l h m)

  -- a combination of the rows is zero, or a bound cell leads it
  pub rows_lead : (k : ℕ) → ((c : ℕ) → c < k → S.bound c ≡ true → Lead (S.row c).0 c)
      → (v : Row A) → Comb (rows K) (rows_of S k) v → (v ≡ (rows K).none) ⊎ LeadBound k v
  rows_lead zero low v p = inl p
  rows_lead (suc k) low v p = go (S.bound k) refl p (rows_lead k (λ c h. low c (omega arith)))
    where
      go : (t : Bool) → S.bound k ≡ t → Comb (rows K) (put t (S.row k) (rows_of S k)) v
          → ((w : Row A) → Comb (rows K) (rows_of S k) w → (w ≡ (rows K).none) ⊎ LeadBound k w) → (v ≡ (rows K).none) ⊎ LeadBound (suc k) v
      go true e (inl q) r = lead_more k v (r v q)
      go true e (inr q) r = lead_added k v e (low k (omega arith) e) (r ((rows K).sum (S.row k) v) q)
      go false e q r = lead_more k v (r v q)

  -- a combination of the rows that holds no bound cell is zero
  pub clear_none : (n : ℕ) → Echelon n S → (v : Row A) → Comb (rows K) (rows_of S n) v → Clear n S v.0 → v ≡ (rows K).none
  clear_none n ech v p clear = go (rows_lead n (λ c h b. (ech c h b).0) v p)
    where
      go : (v ≡ (rows K).none) ⊎ LeadBound n v → v ≡ (rows K).none
      go (inl e) = e
      go (inr (c, h, b, l)) = absurd (true≢false (sym (lead_has v.0 c l) ∙ clear c h b))
