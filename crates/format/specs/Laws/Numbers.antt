-- The numbers of the file's refusals.
use Rattle.std.specs.Prelude.{◌≤◌, ◌<◌}
use Rattle.std.proofs.Common.{arith}
use Rattle.format.specs.Refusals.{number}
use Rattle.format.specs.declared.Refusal.{Refusal}
use Rattle.format.specs.declared.Refusal.TheVariants.{
  Length,
  Contents,
  Counts,
  Offset,
  Weightless,
  Total,
  Layerless,
  Broken,
  LongBody,
  Unknown,
  Layers,
}

-- the check's refusals are 1 to 11
pub number-range : (w : Refusal) → (0 < number w) × (number w ≤ 11)
number-range Length = omega arith
number-range Contents = omega arith
number-range Counts = omega arith
number-range Offset = omega arith
number-range (Weightless i) = omega arith
number-range Total = omega arith
number-range (Layerless a) = omega arith
number-range (Broken j) = omega arith
number-range (LongBody j) = omega arith
number-range (Unknown j) = omega arith
number-range (Layers j) = omega arith
