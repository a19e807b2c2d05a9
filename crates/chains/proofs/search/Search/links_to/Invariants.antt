-- `Search::links_to` meets its contract. The loop's invariant: the rules past entry i are counted (Laws/Way); the measure is the
-- entry's number, which falls. Assumes nothing.
use Rattle.chains.specs.Laws.Way.{Counting}
use Rattle.chains.proofs.search.Search.links_to.Given as goal

abbrev pub invariant-loop-i : goal.invariant-loop-i
invariant-loop-i l = Counting l.self.from l.k l.n l.i

abbrev pub decreases-loop-i : goal.decreases-loop-i
decreases-loop-i l = l.i
