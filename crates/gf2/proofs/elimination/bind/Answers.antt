use Rattle.std.proofs.Common.{ℕ, ◌≤◌, sym, subst, refl, arith, rules}
use Rattle.span.proofs.Lead.{lead_has, lead_one}
use Rattle.gf2.specs.Masks.{mask}
use Rattle.gf2.specs.Rows.{There}
use Rattle.gf2.proofs.States.{bound_at, not_bound, no_lead}
use Rattle.gf2.proofs.Values.{inside}
use Rattle.gf2.proofs.elimination.bind.Goals as goal
use Rattle.gf2.proofs.elimination.bind.Goals.{in_default-via-in-Some+else-cell-block, in_default-via-in_default}

pub with-requires : goal.with-requires
with-requires g c =
    inside c.args.row.cells.words c.in-Some.cell (search rules) (search rules)
    (sym (lead_has (mask c.args.row.cells) c.in-Some.cell c.in-Some.ensures))

pub returns-in-Some : goal.returns-in-Some
returns-in-Some g c =
    let there : There c.args.records.now c.args.block = search rules in
    record {
      there = λ _. bound_at g.K.Answer.mean g.K.Answer.kind c.args.records.now c.args.block there c.in-Some.cell c.args.row (mask c.with.result)
          c.in-Some.ensures c.if-cell-block.true c.with.ensures;
      missing = λ m. absurd (omega arith);
    }

pub returns-in_default : goal.returns-in_default
returns-in_default g c =
    let none = not_bound g.K.Answer.mean g.K.Answer.kind c.args.records.now c.args.block c.args.row in
    elim c.in_default.branch [
      | in_default-via-in-Some+else-cell-block w ↦ record {
        there = λ _. none (λ d l. subst (λ (k : ℕ). c.args.block.n ≤ k) (lead_one (mask c.args.row.cells) w.in-Some.cell d w.in-Some.ensures l) w.if-cell-block.false);
        missing = λ _. (refl, refl);
      }
      | in_default-via-in_default w ↦ record {
        there = λ _. none (λ d l. absurd (no_lead (mask c.args.row.cells) d w.in_default.ensures l));
        missing = λ _. (refl, refl);
      }
    ]
