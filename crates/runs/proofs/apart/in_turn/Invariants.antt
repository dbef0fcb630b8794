use Rattle.std.proofs.Common.{map}
use Rattle.runs.specs.Runs.{deed}
use Rattle.runs.proofs.Listed.{Listed}
use Rattle.runs.proofs.apart.in_turn.Given as goal

-- the works before this one are done
abbrev pub invariant-loop-i : goal.invariant-loop-i
invariant-loop-i g l =
    Listed g.K.Marked.view g.K.Marked.marks g.K.Marked.blame (g.R.Reader.meaning l.reader)
    l.initial.draft l.draft (map deed l.works) l.initial.outcomes l.outcomes l.i l.initial.buffer l.buffer
