-- Two states with the same bound cells and rows below n stand for the same.
use Rattle.std.proofs.Common.{◌≡◌, ℕ, zero, suc, List, length, sym, refl, ap, ◌∙◌, subst, arith}
use Rattle.span.specs.Sets.{Within}
use Rattle.span.specs.Lead.{Lead}
use Rattle.span.specs.Kinds.{Kind, SameSpan}
use Rattle.span.specs.Echelon.{Row, rows, State, put, rows_of, Stands, SameBelow}
use Rattle.span.specs.Marked.{Marks}
use Rattle.span.specs.Theorems.{SameRowsStand}

rows_same : {A : Type 0} (S T : State A) (n : ℕ) → SameBelow n S T → rows_of S n ≡ rows_of T n
rows_same S T zero same = refl
rows_same S T (suc k) same =
    let here : (T.bound k ≡ S.bound k) × (T.row k ≡ S.row k) = same k (omega arith) in
    let rest : rows_of S k ≡ rows_of T k = rows_same S T k (λ c l. same c (omega arith)) in
    λ i. put (sym here.0 i) (sym here.1 i) (rest i)

stands_same : {A : Type 0} (K : Kind A) (n : ℕ) (H : List (Row A)) (S T : State A) → SameBelow n S T → Stands K n H S → Stands K n H T
stands_same {A} K n H S T same (ech, span) = (
  λ c h b.
      let here : (T.bound c ≡ S.bound c) × (T.row c ≡ S.row c) = same c h in
      subst (λ (v : Row A). Lead v.0 c × Within n v.0) (sym here.1) (ech c h (sym here.0 ∙ b)),
  subst (SameSpan (rows K) H) (rows_same S T n same) span,
)

pub same_rows_stand : {A : Type 0} {K : Kind A} (M : Marks K) → SameRowsStand M
same_rows_stand {A} {K} M n H L S T same (stands, span, apart, count) =
    (stands_same K n _ S T same stands, span, apart, ap length (sym (rows_same S T n same)) ∙ count)
