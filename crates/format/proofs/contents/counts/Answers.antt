-- `format::contents::counts` meets its contract: the three counts are in their bounds, or one of them is not.
use Rattle.std.proofs.Common.{rules, arith, ltb-false}
use Rattle.format.specs.Refusals.{counts_tests}
use Rattle.format.specs.Laws.First.{none, pass, alike-fails}
use Rattle.format.specs.Laws.Compared.{at_most}
use Rattle.format.proofs.contents.counts.Goals as goal

pub returns-then-program-gt32 : goal.returns-then-program-gt32
unfolding counts_tests
returns-then-program-gt32 c = alike-fails _ (search rules) (λ clear. omega (arith, ltb-false))

pub returns : goal.returns
unfolding counts_tests
returns c = pass (at_most (omega arith)) (pass (at_most (omega arith)) (pass (at_most (omega arith)) none))
