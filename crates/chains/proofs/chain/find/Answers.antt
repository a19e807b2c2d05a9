-- `chain::find` meets its contract: the rules are indexed, the lowest atom on a chain is searched for, and the way back from where it was
-- reached again is written (Laws/Found). Assumes nothing.
use native.Mathlib.Omega.{arith}
use Rattle.chains.specs.Laws.Found.{lowest-asked, rules-asked, chain-few, chain-done}
use Rattle.chains.proofs.chain.find.Goals as goal

pub lowest-atom-requires : goal.lowest-atom-requires
lowest-atom-requires c = lowest-asked c.requires c.of-rules.ensures

pub write-count-requires : goal.write-count-requires
write-count-requires c =
    rw c.from-last.ensures (rules-asked c.requires c.args.program.counted.facts_are c.lowest-atom.ensures)

pub returns : goal.returns
returns c =
    let n = c.args.program.counted in
    chain-done c.requires n.facts_are c.lowest-atom.ensures (rw c.from-last.ensures at c.write-count.ensures)

pub overflow_cast-result-2 : goal.overflow_cast-result-2
overflow_cast-result-2 c =
    let n = c.args.program.counted in
    omega (arith, chain-few c.requires n.facts_are c.lowest-atom.ensures (rw c.from-last.ensures at c.write-count.ensures))
