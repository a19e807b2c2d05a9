-- `search::Search::search` meets its contract. Assumes nothing.
use Prim.Native.Nat.{◌<◌}
use native.Mathlib.Omega.{arith}
use Rattle.chains.specs.Searching.{Room}
use Rattle.chains.specs.Laws.Queue.{search-start, search-few, search-asked, search-next, search-end}
use Rattle.chains.proofs.search.Search.search.Goals as goal
use Rattle.chains.proofs.search.Search.search.Goals.{In-loop-k}

-- every entry has room
below : (c : In-loop-k) → c.loop-k.k < 1024
below c = omega (arith, search-few c.requires c.loop-k.invariant)

pub loop-k-init : goal.loop-k-init
loop-k-init c =
    let n = c.args.program.counted in
    let room : Room c.args.self.now = record {
      queue_long = omega arith;
      from_long = omega arith;
      by_long = omega arith;
      entry_long =
          omega arith;
    } in
    search-start c.requires n.facts_are n.derived_are room (c.fill.ensures.after (λ _ e. e))

pub expand-requires : goal.expand-requires
expand-requires c = search-asked c.requires c.loop-k.invariant c.loop-k-test.true

pub loop-k-smaller : goal.loop-k-smaller
loop-k-smaller c = omega (arith, below (goal.at.loop-k-smaller c).In-loop-k)

pub overflow_add-k : goal.overflow_add-k
overflow_add-k c = omega (arith, below (goal.at.overflow_add-k c).In-loop-k)

pub loop-k-preserved : goal.loop-k-preserved
loop-k-preserved c = search-next c.requires c.loop-k.invariant c.loop-k-test.true c.expand.ensures

pub returns : goal.returns
returns c = search-end c.requires c.loop-k.invariant c.loop-k-test.false
