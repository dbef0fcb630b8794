use Rattle.std.proofs.Common.{sym, arith}
use Rattle.std.proofs.lemmas.List.{length-map, get_or-map}
use Rattle.runs.specs.Runs.{deed, writes}
use Rattle.runs.proofs.Listed.{listed_none, listed_more, listed_done}
use Rattle.runs.proofs.apart.in_turn.Goals as goal

pub loop-i-init : goal.loop-i-init
loop-i-init g c = listed_none _ _ _ _ _ _ _ _

pub loop-i-preserved : goal.loop-i-preserved
loop-i-preserved g c =
    listed_more _ _ _ _ _ _ _ _ _ _ _ _ c.loop-i.auto.buffer c.loop-i.invariant _ (omega (arith, length-map c.args.works.now deed)) (omega (arith, c.requires))
    (sym (get_or-map deed c.args.works.now c.loop-i.i _ writes c.loop-i-test.true)) _ _ _ c.perform.ensures

pub returns : goal.returns
returns g c =
    listed_done _ _ _ _ _ _ _ _ _ _ _ _ c.loop-i.auto.buffer c.loop-i.invariant (omega (arith, length-map c.args.works.now deed)) _ _ c.write.ensures
