-- The members of a set, number by number.
use Rattle.std.proofs.Common.{◌≡◌, ℕ, ◌+◌, Bool, true, false, cond, [], ◌∷◌, ◌++◌, ap, ◌∙◌, append-nil, add-one}
use Rattle.span.specs.Sets.{has}
use Rattle.report.specs.Texts.{members}

-- what the next number adds to the members
next : (m n : ℕ) (b : Bool) → has m n ≡ b → members m (n + 1) ≡ members m n ++ cond b (n ∷ []) []
unfolding members
next m n b e = rw add-one (ap (λ (t : Bool). members m n ++ cond t (n ∷ []) []) e)

pub member_more : (m n : ℕ) → has m n ≡ true → members m (n + 1) ≡ members m n ++ n ∷ []
member_more m n h = next m n true h

pub member_same : (m n : ℕ) → has m n ≡ false → members m (n + 1) ≡ members m n
member_same m n h = next m n false h ∙ append-nil (members m n)
