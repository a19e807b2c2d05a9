-- `as_loaded` meets its contract: the words and places of the facts below i are as loaded.
use Rattle.fitting.specs.Laws.FitCode.{LoadedTo}
use Rattle.fitting.proofs.as_loaded.Given as goal

abbrev pub invariant-loop-i : goal.invariant-loop-i
invariant-loop-i l = LoadedTo l.nodes l.places l.i
