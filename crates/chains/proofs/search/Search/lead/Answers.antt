-- `search::Search::lead` meets its contract: the literal's atom is below the first, or its place is known, or it is put behind those known,
-- for which there is room (Laws/Lead). Assumes nothing.
use Prim.Native.Nat.{◌+◌, ◌*◌, ◌-◌, ◌/◌, ◌<◌}
use native.Mathlib.Omega.{arith}
use Rattle.chains.specs.Laws.Lead.{lead-entry, lead_low, place-low, lead-known, lead-asked, lead-new}
use Rattle.chains.proofs.search.Search.lead.Goals as goal
use Rattle.chains.proofs.search.Search.lead.Goals.{After-flag}

-- the literal leads to the place of a derived atom
below : (c : After-flag) → 2 * (c.args.lit / 2 - c.args.program.facts) + c.flag.result < 1024
below c =
    omega (
      arith,
      c.requires.going.formed.derived,
      place-low c.requires c.args.program.counted.facts_are c.from.ensures c.flag.ensures c.if-lit-x.false,
    )

pub returns-then-lit-x : goal.returns-then-lit-x
returns-then-lit-x c = lead_low c.requires c.if-lit-x.true

pub offset_bounds-self-k : goal.offset_bounds-self-k
offset_bounds-self-k c = omega (arith, lead-entry c.requires)

pub bounds-self-k : goal.bounds-self-k
bounds-self-k c = lead-entry c.requires

pub offset_bounds-self-place : goal.offset_bounds-self-place
offset_bounds-self-place c = omega (arith, below (goal.at.offset_bounds-self-place c).After-flag)

pub bounds-self-place : goal.bounds-self-place
bounds-self-place c = below (goal.at.bounds-self-place c).After-flag

pub returns-then-self-place-gt0 : goal.returns-then-self-place-gt0
returns-then-self-place-gt0 c =
    let facts = c.args.program.counted.facts_are in
    lead-known c.requires facts c.from.ensures c.flag.ensures c.if-lit-x.false c.if-self-place-gt0.true

pub add-requires : goal.add-requires
add-requires c =
    let facts = c.args.program.counted.facts_are in
    lead-asked c.requires facts c.from.ensures c.flag.ensures c.if-lit-x.false c.if-self-place-gt0.false

pub returns : goal.returns
returns c =
    let facts = c.args.program.counted.facts_are in
    rw c.add.ensures (lead-new c.requires facts c.from.ensures c.flag.ensures c.if-lit-x.false c.if-self-place-gt0.false)
