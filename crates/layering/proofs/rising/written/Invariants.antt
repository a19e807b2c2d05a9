-- `layering::rising::written` meets its contract. The loop's invariant: the first `k` layers stand in the output. Assumes nothing.
use Rattle.layering.specs.Laws.Writing.{Copied}
use Rattle.layering.proofs.rising.written.Given as goal

abbrev pub invariant-loop-k : goal.invariant-loop-k
invariant-loop-k l = Copied l.layers l.initial.out l.out l.k
