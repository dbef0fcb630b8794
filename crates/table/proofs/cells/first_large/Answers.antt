use Rattle.std.proofs.Common.{◌≡◌, ◌+◌, ◌*◌, ◌^◌, ◌<◌, ◌≤◌, take, drop, length, subst, arith, rules}
use Rattle.std.proofs.lemmas.Bool.Decides.{nat_tests}
use Rattle.std.proofs.lemmas.Nat.{le-div}
use Rattle.std.specs.Int.Digits.{number_from_digits}
use Rattle.table.specs.Sizes.{width}
use Rattle.table.proofs.Walks.{found_first, match_map, met, some_and}
use Rattle.table.proofs.cells.first_large.Goals as goal

pub returns : goal.returns
returns c =
    let d = c.args.shape.now.dims in
    let w = width d in
    let cells = c.args.cells.now in
    let limit = 2 ^ (d.s + d.r) in
    let run = c.position.ensures.runs.0 in
    let chunks = c.chunks_exact.ensures.runs run run.seen (search rules) in
    found_first (2 ^ (d.s + d.r)) (width d) c.args.cells.now c.position.result
    (match_map c.position.result c.position.ensures.runs.2
    (λ all k h. met (run.at k) (some_and (run.at k) _ _ (run.reads k c.args.cells (search rules)) (all.1 (search rules) k)) (chunks.2 k)
    (λ x called chunk.
    let is : x.now ≡ take w (drop (k * w) cells) = search rules in
    let small : number_from_digits 256 x.now < limit = search (rules, nat_tests) in
    subst (λ ds. number_from_digits 256 ds < limit) is small))
    (λ i first.
    let hit = first.1 (search rules) in
    let within : (i + 1) * w ≤ length cells = search rules in (
      omega (arith, le-div (i + 1) (length cells) w (omega arith) within),
      met (run.at i) hit.0 (chunks.2 i)
          (λ x called chunk.
          let is : x.now ≡ take w (drop (i * w) cells) = search rules in
          let large : limit ≤ number_from_digits 256 x.now = search (rules, nat_tests) in
          subst (λ ds. limit ≤ number_from_digits 256 ds) is large),
      λ k h. met (run.at k) (hit.1 k h) (chunks.2 k)
          (λ x called chunk.
          let is : x.now ≡ take w (drop (k * w) cells) = search rules in
          let small : number_from_digits 256 x.now < limit = search (rules, nat_tests) in
          subst (λ ds. number_from_digits 256 ds < limit) is small),
    )))
