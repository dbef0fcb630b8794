use Rattle.runs.proofs.Noted.{Noted}
use Rattle.runs.proofs.steps.in_turn.Given as goal

-- the steps before this one are done
abbrev pub invariant-loop-step : goal.invariant-loop-step
invariant-loop-step g l =
    Noted g.K.Marked.view g.K.Marked.marks g.K.Marked.blame (g.R.Reader.meaning l.reader)
    l.initial.draft l.draft l.initial.steps l.steps l.step-index l.initial.buffer l.buffer
