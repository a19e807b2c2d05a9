-- `layering::rising::asked` meets its contract. The loop's invariant: `most` is what the literals below `i` ask. Assumes nothing.
use Rattle.layering.specs.Laws.Asks.{Asking}
use Rattle.layering.proofs.rising.asked.Given as goal

abbrev pub invariant-loop-i : goal.invariant-loop-i
invariant-loop-i l = Asking l.program.file.now l.layers l.program.facts l.at l.most l.i
