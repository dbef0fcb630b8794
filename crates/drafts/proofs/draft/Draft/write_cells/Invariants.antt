use Rattle.std.proofs.Common.{◌*◌, take}
use Rattle.drafts.specs.Steps.{WordsOf}
use Rattle.drafts.proofs.draft.Draft.write_cells.Given as goal

-- the blocks before this one are written
abbrev pub invariant-loop-b : goal.invariant-loop-b
invariant-loop-b g l = WordsOf g.K.Marked.view g.K.Marked.marks l.self l.b (take (l.b * l.size) l.cells)
