-- `format::contents::offsets` meets its contract: the three offsets are the table's and inside, or not.
use Rattle.std.proofs.Common.{rules, arith, ltb-false}
use Rattle.format.specs.Refusals.{offset_tests}
use Rattle.format.specs.Laws.First.{none, pass, alike-fails}
use Rattle.format.specs.Laws.Compared.{alike, at_most, equal}
use Rattle.format.proofs.contents.offsets.Goals as goal

pub returns-then-first-ne28 : goal.returns-then-first-ne28
unfolding offset_tests
returns-then-first-ne28 c = alike-fails _ (search rules) (λ clear. omega (arith, equal, ltb-false))

pub returns : goal.returns
unfolding offset_tests
returns c =
    pass (alike (omega arith)) (pass (alike (omega arith)) (pass (alike (omega arith)) (pass (at_most (omega arith)) none)))
