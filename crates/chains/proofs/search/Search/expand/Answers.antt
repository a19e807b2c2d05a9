-- `search::Search::expand` meets its contract. Assumes nothing.
use native.Mathlib.Omega.{arith}
use Rattle.chains.specs.Laws.Visit.{
  expand-entry,
  expand-atom,
  expand-start,
  expand-short,
  expand-asked,
  expand-later,
  expand-next,
  expand-end,
}
use Rattle.chains.proofs.search.Search.expand.Goals as goal

pub offset_bounds-self-k : goal.offset_bounds-self-k
offset_bounds-self-k c = omega (arith, expand-entry c.requires)

pub bounds-self-k : goal.bounds-self-k
bounds-self-k c = expand-entry c.requires

pub first_of-rule-requires : goal.first_of-rule-requires
first_of-rule-requires c = expand-atom c.requires c.args.program.counted.facts_are c.from.ensures

pub loop-rule-init : goal.loop-rule-init
loop-rule-init c =
    expand-start c.requires c.args.program.counted.facts_are c.from.ensures c.first_of-rule.ensures

pub start-requires : goal.start-requires
start-requires c = expand-short c.requires c.loop-rule.invariant c.args.program.counted.rules_are c.loop-rule-test.true

pub visit-requires : goal.visit-requires
visit-requires c =
    expand-asked c.requires c.loop-rule.invariant c.args.program.counted.rules_are c.loop-rule-test.true c.start.ensures

pub after-rule-requires : goal.after-rule-requires
after-rule-requires c = expand-short c.requires c.loop-rule.invariant c.args.program.counted.rules_are c.loop-rule-test.true

pub loop-rule-smaller : goal.loop-rule-smaller
loop-rule-smaller c =
    let more = c.loop-rule-test.true in
    omega (arith, expand-later c.requires c.loop-rule.invariant c.args.program.counted.rules_are more c.after-rule.ensures)

pub loop-rule-preserved : goal.loop-rule-preserved
loop-rule-preserved c =
    expand-next c.requires c.loop-rule.invariant c.args.program.counted.rules_are c.loop-rule-test.true
    c.after-rule.ensures c.visit.ensures

pub returns : goal.returns
returns c =
    expand-end c.requires c.loop-rule.invariant c.args.program.counted.rules_are c.loop-rule-test.false
