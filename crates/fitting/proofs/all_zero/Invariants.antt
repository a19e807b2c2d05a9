-- `all_zero` meets its contract: whether all that were looked at are 0.
use Rattle.std.specs.Prelude.{◌≡◌, eqb, take}
use Rattle.std.specs.List.{list_all}
use Rattle.fitting.proofs.all_zero.Given as goal

abbrev pub invariant-loop-word : goal.invariant-loop-word
invariant-loop-word l = l.zero ≡ list_all (eqb 0) (take l.word-index l.words)
