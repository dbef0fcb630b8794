use Rattle.std.proofs.Common.{◌≡◌, ◌*◌, ◌/◌, length, arith, rules}
use Rattle.std.proofs.lemmas.Iterator.Consumers.{YieldsList-turn, YieldsList-end}
use Rattle.std.proofs.lemmas.List.{length_push}
use Rattle.gf2.specs.Masks.{Fit, width}
use Rattle.gf2.proofs.Common.{pairs_yielded, found_at, none_at, none_left}
use Rattle.gf2.proofs.sets.first_common.Goals as goal

pub returns-then-common-ne0 : goal.returns-then-common-ne0
returns-then-common-ne0 c =
    let ws = c.args.words.now in
    let vs = c.args.others.now in
    let fit : Fit ws = search rules in
    let fits : Fit vs = search rules in
    let same : length vs ≡ length ws = omega arith in
    let wide : 64 * length ws ≡ width = omega arith in
    let turn = YieldsList-turn (pairs_yielded (c.args.c / 64) ws vs (cc) (cc) (cc) cc) c.loop-i.yielded c.loop-i.i-iterator c.loop-i.yielded_by _ c.next.new.self
    (c.in-Some.i, (c.in-Some.word, c.in-Some.other)) c.in-Some.is c.next.ensures.steps in
    rw wide at (found_at ws vs fit fits same c.args.c (length c.loop-i.yielded) c.in-Some.i c.in-Some.word.now c.in-Some.other.now c.saturating_sub-from.result
    turn.0 turn.1 c.saturating_sub-from.ensures c.loop-i.invariant.none (omega arith))

pub loop-i-preserved : goal.loop-i-preserved
loop-i-preserved c =
    let ws = c.args.words.now in
    let vs = c.args.others.now in
    let fit : Fit ws = search rules in
    let fits : Fit vs = search rules in
    let same : length vs ≡ length ws = omega arith in
    let turn = YieldsList-turn (pairs_yielded (c.args.c / 64) ws vs (cc) (cc) (cc) cc) c.loop-i.yielded c.loop-i.i-iterator c.loop-i.yielded_by _ c.next.new.self
    (c.in-Some.i, (c.in-Some.word, c.in-Some.other)) c.in-Some.is c.next.ensures.steps in
    record {
      can = search rules;
      finite = search rules;
      none = none_at ws vs fit fits same c.args.c (length c.loop-i.yielded) c.in-Some.i c.in-Some.word.now c.in-Some.other.now c.saturating_sub-from.result
          turn.0 turn.1 c.saturating_sub-from.ensures c.loop-i.invariant.none (omega arith) _ (length_push c.loop-i.yielded (c.in-Some.i, (c.in-Some.word, c.in-Some.other)));
    }

pub returns : goal.returns
returns c =
    let ws = c.args.words.now in
    let vs = c.args.others.now in
    let fit : Fit ws = search rules in
    let same : length vs ≡ length ws = omega arith in
    let done = YieldsList-end (pairs_yielded (c.args.c / 64) ws vs (cc) (cc) (cc) cc) c.loop-i.yielded c.loop-i.i-iterator c.loop-i.yielded_by _ c.next.new.self c.in-None.is c.next.ensures.steps in
    none_left ws vs fit same c.args.c (length c.loop-i.yielded) done.1 c.loop-i.invariant.none
