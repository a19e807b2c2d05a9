-- `search::Search::expand` meets its contract. The loop's invariant: the atom's rules before `rule` have led to their places, and it is the
-- next of them (Laws/Visit); the measure is the number of rules left. Assumes nothing.
use Prim.Native.Nat.{◌-◌}
use Rattle.chains.specs.Laws.Visit.{Expanding}
use Rattle.chains.proofs.search.Search.expand.Given as goal

abbrev pub invariant-loop-rule : goal.invariant-loop-rule
invariant-loop-rule l = Expanding l.program.file.now l.x l.k l.initial.self l.self l.rule

abbrev pub decreases-loop-rule : goal.decreases-loop-rule
decreases-loop-rule l = l.program.rules - l.rule
