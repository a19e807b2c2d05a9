-- `format::contents::contents` meets its contract: the five numbers are right, or one of them is not.
use Rattle.std.proofs.Common.{rules, arith}
use Rattle.format.specs.Refusals.{contents_tests}
use Rattle.format.specs.Laws.First.{none, pass, alike-fails}
use Rattle.format.specs.Laws.Compared.{alike, equal}
use Rattle.format.proofs.contents.contents.Goals as goal

pub returns-then-layout-ne1 : goal.returns-then-layout-ne1
unfolding contents_tests
returns-then-layout-ne1 c = alike-fails _ (search rules) (λ clear. omega (arith, equal))

pub returns : goal.returns
unfolding contents_tests
returns c =
    pass (alike (omega arith)) (pass (alike (omega arith)) (pass (alike (omega arith)) (pass (alike (omega arith))
    (pass (alike (omega arith)) none))))
