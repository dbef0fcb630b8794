use Rattle.std.proofs.Common.{◌≡◌, ℕ, List, take, ap, ◌∙◌, arith, rules}
use Rattle.std.proofs.lemmas.Fn.{fold_over, fronts, slice_gives}
use Rattle.std.proofs.lemmas.Nat.{mod_below}
use Rattle.gf2.specs.Masks.{mask}
use Rattle.gf2.specs.declared.sets.CellSet.{CellSet}
use Rattle.readers.proofs.Drawing.{drawn_by, drawn_push, drawn_by_take}
use Rattle.shapes.proofs.Limits.{shape_limits}
use Rattle.readers.proofs.draws.drawn.Goals as goal

pub returns : goal.returns
returns c =
    let d = c.args.shape.now.dims in
    let words = c.args.words.now in
    let limits = shape_limits c.args.shape.now in
    let so_far : List ℕ → CellSet → Type 0 = λ ys cells. mask cells ≡ drawn_by d.n ys in
    let all : so_far c.iter.result.rest.now c.fold.result =
    fold_over fronts (λ y. y.now) _ so_far _
    (λ ys a x b f' h k. (drawn_push d.n ys x.now (mask a) (mask b) (omega (arith, mod_below x.now d.n limits.n_low, limits.n_high)) h (search rules), search rules))
    c.iter.result c.iter.result.rest.now _ _ (slice_gives c.iter.result) (search rules) c.fold.ensures.ran in
    let front : c.iter.result.rest.now ≡ take d.k words = search rules in
    all ∙ ap (drawn_by d.n) front ∙ drawn_by_take d.n d.k words (omega (arith, limits.k_high))
