-- The table of a state: the one filling that satisfies all rows and has zero in the free cells, made by substitution from the last cell down.
use Rattle.std.proofs.Common.{◌≡◌, ℕ, zero, suc, ◌^◌, ◌<◌, ◌≤◌, Bool, true, false, cond, eqb, bit_xor, sym, refl, ap, ◌∙◌, zero-le, le_refl, arith, pow_pos, eq-eqb, ne_eqb}
use Rattle.std.proofs.Math.Decide.{ℕ_discrete as dec_eq}
use Rattle.std.proofs.lemmas.Nat.{xor_lt}
use Rattle.span.specs.Echelon.{State, Echelon}
use Rattle.span.specs.Fillings.{pick, xor_over, Below, ZeroInFree, SatisfiesRows, substituted, SubstitutedFrom}
use Rattle.span.proofs.Xors.{xor_over_lt}
use Rattle.span.proofs.Substitute.{substituted_same, goes_down, solves}

-- the filling with the word x in the cell k
abbrev pub written : (ℕ → ℕ) → ℕ → ℕ → ℕ → ℕ
written f k x c = cond (eqb c k) x (f c)

written_at : (f : ℕ → ℕ) (k x : ℕ) → written f k x k ≡ x
written_at f k x = ap (λ (b : Bool). cond b x (f k)) (eq-eqb k k refl)

written_other : (f : ℕ → ℕ) (k x c : ℕ) → ¬ (c ≡ k) → written f k x c ≡ f c
written_other f k x c ne = ap (λ (b : Bool). cond b x (f c)) (ne_eqb c k ne)

module _ (n : ℕ) (S : State ℕ) where
  -- the cells below k, the last first
  abbrev pub fill : ℕ → (ℕ → ℕ) → ℕ → ℕ
  fill zero f = f
  fill (suc k) f = fill k (written f k (substituted n S f k))

  -- the table
  pub table : ℕ → ℕ
  table = fill n (λ c. 0)

  fill_from : Echelon n S → (k : ℕ) → k ≤ n → (f : ℕ → ℕ) → SubstitutedFrom k n S f → SubstitutedFrom 0 n S (fill k f)
  fill_from ech zero h f s = s
  fill_from ech (suc k) h f s =
      let x : ℕ = substituted n S f k in
      fill_from ech k (omega arith) (written f k x) (goes_down n S ech k h f (written f k x) s (written_at f k x) (λ c cn ne. written_other f k x c ne))

  table_solves : Echelon n S → SatisfiesRows n S table × ZeroInFree n S table
  unfolding table
  table_solves ech = (solves n S ech table).0 (fill_from ech n (le_refl n) (λ c. 0) (λ c nc cn. absurd (omega arith)))

  -- the table satisfies each row
  pub table_rows : Echelon n S → SatisfiesRows n S table
  table_rows ech = (table_solves ech).0

  -- the table has zero in the free cells
  pub table_free : Echelon n S → ZeroInFree n S table
  table_free ech = (table_solves ech).1

  -- two fillings that substitution gives agree from the cell k on
  agree : Echelon n S → (f g : ℕ → ℕ) → SubstitutedFrom 0 n S f → SubstitutedFrom 0 n S g
      → (k : ℕ) → ((c : ℕ) → k ≤ c → c < n → f c ≡ g c) → (c : ℕ) → c < n → f c ≡ g c
  agree ech f g sf sg zero above = λ c cn. above c zero-le cn
  agree ech f g sf sg (suc k) above = agree ech f g sf sg k (λ c kc cn. go c kc cn (dec_eq c k))
    where
      go : (c : ℕ) → k ≤ c → c < n → Dec (c ≡ k) → f c ≡ g c
      go c kc cn (yes e) = sf c zero-le cn ∙ substituted_same n S ech f g c cn (λ d cd dn. above d (omega arith) dn) ∙ sym (sg c zero-le cn)
      go c kc cn (no e) = above c (omega arith) cn

  -- at most one filling satisfies the rows and has zero in the free cells
  pub table_one : Echelon n S → (f g : ℕ → ℕ) → SatisfiesRows n S f → SatisfiesRows n S g → ZeroInFree n S f → ZeroInFree n S g
      → (c : ℕ) → c < n → f c ≡ g c
  table_one ech f g hf hg zf zg = agree ech f g ((solves n S ech f).1 (hf, zf)) ((solves n S ech g).1 (hg, zg)) n (λ c nc cn. absurd (omega arith))

  -- words of w bits in the rows give words of w bits
  fill_below : (w : ℕ) → ((c : ℕ) → c < n → S.bound c ≡ true → (S.row c).1 < 2 ^ w) → (k : ℕ) → k ≤ n → (f : ℕ → ℕ) → Below w f → Below w (fill k f)
  fill_below w hw zero kn f h = h
  fill_below w hw (suc k) kn f h = fill_below w hw k (omega arith) (written f k (substituted n S f k)) (λ c. at c (eqb c k))
    where
      word : (b : Bool) → S.bound k ≡ b → pick b (bit_xor (S.row k).1 (xor_over f n (bit_xor (S.row k).0 (2 ^ k)))) < 2 ^ w
      word true b = xor_lt w (S.row k).1 (xor_over f n (bit_xor (S.row k).0 (2 ^ k))) (hw k kn b) (xor_over_lt w f n (bit_xor (S.row k).0 (2 ^ k)) h)
      word false b = pow_pos w

      at : (c : ℕ) (b : Bool) → cond b (substituted n S f k) (f c) < 2 ^ w
      at c true = word (S.bound k) refl
      at c false = h c

  -- the table's words have as many bits as the rows' answers
  pub table_below : (w : ℕ) → ((c : ℕ) → c < n → S.bound c ≡ true → (S.row c).1 < 2 ^ w) → Below w table
  unfolding table
  table_below w hw = fill_below w hw n (le_refl n) (λ c. 0) (λ c. pow_pos w)
