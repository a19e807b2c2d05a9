-- `layering::rising::settle` meets its contract. The loop's invariant: the layers are those after as many passes as the counter says, each
-- of which has changed one. Assumes nothing.
use Rattle.layering.specs.Laws.Settling.{Settling}
use Rattle.layering.proofs.rising.settle.Given as goal

abbrev pub invariant-loop : goal.invariant-loop
invariant-loop l = Settling l.program.file.now l.layers l.counter
