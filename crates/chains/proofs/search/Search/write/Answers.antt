-- `Search::write` meets its contract. Assumes nothing.
use Prim.Native.Nat.{◌+◌, ◌-◌, ◌*◌, ◌≤◌, ◌<◌}
use lib.ListN.{length}
use native.Mathlib.Omega.{arith}
use Rattle.chains.specs.Laws.Write.{write-few, write-start, write-room, write-next, write-last, write-end}
use Rattle.chains.proofs.search.Search.write.Goals as goal
use Rattle.chains.proofs.search.Search.write.Goals.{In-loop-at}

-- the entry is below the tables' end,
below : (c : In-loop-at) → c.loop-at.i < 1024
below c = omega (arith, c.requires.falls.few, c.loop-at.invariant.within)

-- and its rule has room
inside : (c : In-loop-at) → 2 + 2 * (c.loop-at.at - 1) + 2 ≤ length c.loop-at.out
inside c = write-room c.requires c.links_to-n.ensures c.loop-at.invariant c.loop-at-test.true

pub links_to-n-requires : goal.links_to-n-requires
links_to-n-requires c = c.requires.falls

pub loop-at-init : goal.loop-at-init
loop-at-init c = write-start c.requires c.links_to-n.ensures

pub put_u16-requires : goal.put_u16-requires
put_u16-requires c = inside (goal.at.put_u16-requires c).In-loop-at

pub loop-at-preserved : goal.loop-at-preserved
loop-at-preserved c =
    rw c.from-i.ensures
    (write-next c.requires c.links_to-n.ensures c.loop-at.invariant c.loop-at-test.true c.put_u16.auto.out c.put_u16.ensures)

pub put_u16-requires-2 : goal.put_u16-requires-2
put_u16-requires-2 c = write-last c.requires c.links_to-n.ensures c.loop-at.invariant

pub returns : goal.returns
returns c = write-end c.requires c.links_to-n.ensures c.loop-at.invariant c.loop-at-test.false c.put_u16-2.ensures

pub overflow_mul-at : goal.overflow_mul-at
overflow_mul-at c = omega (arith, inside (goal.at.overflow_mul-at c).In-loop-at)

pub overflow_add-at : goal.overflow_add-at
overflow_add-at c = omega (arith, inside (goal.at.overflow_add-at c).In-loop-at)

pub offset_bounds-self-i : goal.offset_bounds-self-i
offset_bounds-self-i c = omega (arith, below (goal.at.offset_bounds-self-i c).In-loop-at)

pub bounds-self-i : goal.bounds-self-i
bounds-self-i c = below (goal.at.bounds-self-i c).In-loop-at

pub offset_bounds-self-i-in-loop-at : goal.offset_bounds-self-i-in-loop-at
offset_bounds-self-i-in-loop-at c = omega (arith, below (goal.at.offset_bounds-self-i-in-loop-at c).In-loop-at)

pub bounds-self-i-in-loop-at : goal.bounds-self-i-in-loop-at
bounds-self-i-in-loop-at c = below (goal.at.bounds-self-i-in-loop-at c).In-loop-at

pub overflow_cast-n : goal.overflow_cast-n
overflow_cast-n c = omega (arith, write-few c.requires c.links_to-n.ensures)
