-- `Search::write` meets its contract. The loop's invariant: the rules past entry i are written (Laws/Write). Assumes nothing.
use Rattle.chains.specs.Laws.Write.{Writing}
use Rattle.chains.proofs.search.Search.write.Given as goal

abbrev pub invariant-loop-at : goal.invariant-loop-at
invariant-loop-at l = Writing l.self.from l.self.by l.initial.out l.k l.n l.out l.i l.at
