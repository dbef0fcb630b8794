use Rattle.gf2.specs.Fills.{words_of}
use Rattle.gf2.proofs.Filled.{FilledFrom}
use Rattle.gf2.proofs.elimination.fill.Given as goal

abbrev pub invariant-loop-cell : goal.invariant-loop-cell
invariant-loop-cell g l = FilledFrom l.cell l.block.n (words_of g.K.Marked.view g.K.Marked.marks l.fn.records l.block) l.words
