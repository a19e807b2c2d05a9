-- `runs::run_all` ends: each job leaves less of the input.
use lib.ListN.{length}
use Rattle.runs.proofs.run_all.Given as goal

abbrev pub decreases-loop-rest : goal.decreases-loop-rest
decreases-loop-rest l = length l.rest
