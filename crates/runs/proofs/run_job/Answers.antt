-- `runs::run_job` meets its contract: an accepted file has passed its check, and there are at most 4,096 words. Assumes nothing.
use mathlib.Core.Path.{refl, sym, ◌∙◌}
use Prim.Native.Nat.{ℕ, ◌≤◌}
use native.Mathlib.Omega.{arith}
use lib.ListN.{length, take, replicate, length-replicate}
use lib.Seq.{length-take-le}
use Rattle.format.specs.Laws.Accepted.{passed}
use Rattle.runs.proofs.run_job.Goals as goal

part : (n : ℕ) → n ≤ 4096 → length {A = ℕ} (take n (replicate 4096 4294967295)) ≤ 4096
part n h = omega (arith, length-take-le {A = ℕ} n (replicate 4096 4294967295) (omega (arith, length-replicate {A = ℕ} 4096 4294967295)))

pub run_in-requires : goal.run_in-requires
run_in-requires c = record {
  passed = passed _ (sym c.check.ensures ∙ c.in-Ok.is);
  room = part c.min.result (omega (arith, c.min.ensures));
  long = refl;
}
