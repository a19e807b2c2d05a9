-- `search::Search::lowest` meets its contract. The loop's invariant: no atom passed is on a chain (Laws/Closed). The loop does not run to
-- its
-- end, for some atom is on one. Assumes nothing.
use Rattle.chains.specs.Laws.Closed.{Seeking}
use Rattle.chains.proofs.search.Search.lowest.Given as goal

abbrev pub invariant-loop-x : goal.invariant-loop-x
invariant-loop-x l = Seeking l.program.file.now l.x
