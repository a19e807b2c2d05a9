-- `search::Search::search` meets its contract. The loop's invariant: the entries passed have had their turn (Laws/Queue); the measure is
-- the
-- room that is left in the tables. Assumes nothing.
use Prim.Native.Nat.{◌-◌}
use Rattle.chains.specs.Laws.Queue.{Queued}
use Rattle.chains.proofs.search.Search.search.Given as goal

abbrev pub invariant-loop-k : goal.invariant-loop-k
invariant-loop-k l = Queued l.program.file.now l.x l.self l.k

abbrev pub decreases-loop-k : goal.decreases-loop-k
decreases-loop-k l = 1024 - l.k
