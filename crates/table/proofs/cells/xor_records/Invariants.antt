use Rattle.std.specs.Iterator.Adapters.{enumerate_source, enumerate_count}
use Rattle.std.specs.Slice.Iter.{chunks_exact_rest, chunks_exact_size}
use Rattle.gf2.specs.Masks.{mask}
use Rattle.table.proofs.Walks.{Passed}
use Rattle.table.proofs.cells.xor_records.Given as goal

abbrev pub invariant-loop-c : goal.invariant-loop-c
invariant-loop-c l =
    (goal.iterator-loop-c).can_next l.c-iterator × (goal.iterator-loop-c).is_finite l.c-iterator
    × Passed l.width l.block (mask l.cells) (enumerate_count l.c-iterator) (chunks_exact_size (enumerate_source l.c-iterator))
    (chunks_exact_rest (enumerate_source l.c-iterator)) l.v
