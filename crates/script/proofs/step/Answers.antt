-- `script::step` meets its contract: each operation by its law (Laws/Step).
use Rattle.script.specs.Laws.Step.{fact-step, both-step, not-step}
use Rattle.script.proofs.step.Goals as goal

pub returns-in-Fact : goal.returns-in-Fact
returns-in-Fact c =
    fact-step c.requires c.in-Fact.is c.make.ensures.lent c.make.result (rw c.from.ensures at c.make.ensures.built)

pub returns-in-Both : goal.returns-in-Both
returns-in-Both c =
    both-step c.requires c.in-Both.is c.combine.ensures.lent c.combine.ensures.image c.combine.result
    (rw (c.from-in-Both.ensures, c.from-in-Both-2.ensures) at c.combine.ensures.built)

pub returns-in-Not : goal.returns-in-Not
returns-in-Not c =
    not-step c.requires c.in-Not.is c.negate.ensures.lent c.negate.ensures.memo c.negate.result
    (rw c.from-in-Not.ensures at c.negate.ensures.built)
