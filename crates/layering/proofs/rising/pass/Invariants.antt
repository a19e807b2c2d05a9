-- `layering::rising::pass` meets its contract. The loop's invariant: the rules below the counter had their turns, and the next one starts
-- at `at`. Assumes nothing.
use Rattle.layering.specs.Laws.Turns.{Turned}
use Rattle.layering.proofs.rising.pass.Given as goal

abbrev pub invariant-loop : goal.invariant-loop
invariant-loop l = Turned l.program.file.now l.initial.layers l.layers l.changed l.at l.counter
