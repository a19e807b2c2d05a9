-- `search::Search::visit` meets its contract. The loop's invariant: the literals passed have led to their places (Laws/Visit). Assumes
-- nothing.
use Rattle.chains.specs.Laws.Visit.{Visiting}
use Rattle.chains.proofs.search.Search.visit.Given as goal

abbrev pub invariant-loop-i : goal.invariant-loop-i
invariant-loop-i l = Visiting l.program.file.now l.x l.rule l.k l.initial.self l.self l.i
