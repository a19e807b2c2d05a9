-- `search::Search::lowest` meets its contract. Assumes nothing.
use Prim.Native.Nat.{◌+◌, ◌<◌}
use native.Mathlib.Omega.{arith}
use Rattle.format.specs.File.{F, D}
use Rattle.chains.specs.Laws.Closed.{lowest_start, lowest-ends, lowest-asked, lowest-found, lowest-next}
use Rattle.chains.proofs.search.Search.lowest.Goals as goal
use Rattle.chains.proofs.search.Search.lowest.Goals.{In-loop-x}

-- the atom is one of the program's
high : (c : In-loop-x) → c.loop-x.x < F c.args.program.file.now + D c.args.program.file.now
high c = let n = c.args.program.counted in omega (arith, n.facts_are, n.derived_are)

pub loop-x-init : goal.loop-x-init
loop-x-init c = rw c.args.program.counted.facts_are (lowest_start c.requires)

pub search-requires : goal.search-requires
search-requires c = lowest-asked c.requires c.loop-x.invariant (high (goal.at.search-requires c).In-loop-x)

pub returns-then-self-x-gt0 : goal.returns-then-self-x-gt0
returns-then-self-x-gt0 c =
    lowest-found c.requires c.loop-x.invariant (high (goal.at.returns-then-self-x-gt0 c).In-loop-x) c.args.program.counted.facts_are
    c.search.ensures c.if-self-x-gt0.true

pub loop-x-preserved : goal.loop-x-preserved
loop-x-preserved c =
    lowest-next c.requires c.loop-x.invariant (high (goal.at.loop-x-preserved c).In-loop-x) c.args.program.counted.facts_are
    c.search.ensures c.if-self-x-gt0.false

pub unreachable-requires : goal.unreachable-requires
unreachable-requires c =
    let n = c.args.program.counted in
    lowest-ends c.requires c.loop-x.invariant (omega (arith, n.facts_are, n.derived_are))
