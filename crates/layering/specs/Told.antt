-- What the call answers, and what the output then holds (document 02, L4): refusal, detail and the bytes written, for any file and output.
use Rattle.std.specs.Prelude.{◌≡◌, true, false, List, ◌++◌, ℕ, ◌+◌, ◌*◌, ◌≤◌, ◌<◌, length, drop, Result, Ok, Err, ⊤}
use Rattle.meaning.specs.Lists.{upto}
use Rattle.format.specs.File.{F, D, decode}
use Rattle.format.specs.Refusals.{verdict_by, passes, number, detail}
use Rattle.format.specs.declared.Refusal.{Refusal}
use Rattle.chains.specs.Layering.{Smallest}
use Rattle.chains.specs.Written.{ChainDone}
use Rattle.layering.specs.declared.Unlayered.{Unlayered}
use Rattle.layering.specs.declared.Unlayered.TheVariants.{High, Chain}
use Rattle.layering.specs.declared.Untold.{Untold}
use Rattle.layering.specs.declared.Untold.TheVariants as untold

-- "Layers go to the output as D bytes." "Bytes beyond are kept."
pub record LayersDone (s out out₁ : List ℕ) : Type 0 where
  pub layer : ℕ → ℕ
  pub smallest : Smallest (decode s) layer
  pub low : (a : ℕ) → F s ≤ a → a < F s + D s → layer a ≤ 255
  pub bytes : out₁ ≡ upto (D s) (λ i. layer (F s + i)) ++ drop (D s) out

-- "a layer over 255 where a layers body is to be written, detail the lowest such atom"; nothing is written
pub record HighDone (s out out₁ : List ℕ) (a : ℕ) : Type 0 where
  pub layer : ℕ → ℕ
  pub smallest : Smallest (decode s) layer
  pub from : F s ≤ a
  pub below : a < F s + D s
  pub high : 255 < layer a
  pub others : (b : ℕ) → F s ≤ b → b < a → layer b ≤ 255
  pub kept : out₁ ≡ out

-- what the output then holds, by what was found
abbrev pub Done : List ℕ → List ℕ → List ℕ → Result ⊤ Unlayered → Type 0
Done s out out₁ (Ok _) = LayersDone s out out₁
Done s out out₁ (Err (High a)) = HighDone s out out₁ a
Done s out out₁ (Err (Chain l)) = ChainDone s out out₁ l.atom l.count

-- ---- in numbers

-- a refusal with its detail, or 0, and how many bytes were written
pub record Told : Type 0 where
  pub refusal : ℕ
  pub detail : ℕ
  pub length : ℕ

-- what each refusal is told as
abbrev pub told_as : Untold → Told
-- "21 first, if the output is under 2,048 bytes"
told_as untold.Short = record { refusal = 21; detail = 0; length = 0 }
-- "loading's refusals through the leftover test, 11 left out"
told_as (untold.Refused w) = record { refusal = number w; detail = detail w; length = 0 }
-- "37, a layer over 255 where a layers body is to be written, detail the lowest such atom"
told_as (untold.Unlayered (High a)) = record { refusal = 37; detail = a; length = 0 }
-- "24, no layers exist, detail the lowest atom on any such chain"; "a count, then at most 1,023 rule numbers, 2 bytes each"
told_as (untold.Unlayered (Chain l)) = record { refusal = 24; detail = l.atom; length = 2 + 2 * l.count }

-- what the answer is told as
abbrev pub told_of : Result ℕ Untold → Told
told_of (Ok n) = record { refusal = 0; detail = 0; length = n }
told_of (Err e) = told_as e

-- what each way that the layers of file s are found is told as
abbrev pub found_told : List ℕ → Result ⊤ Unlayered → Told
-- "Layers go to the output as D bytes."
found_told s (Ok _) = record { refusal = 0; detail = 0; length = D s }
found_told s (Err u) = told_as (untold.Unlayered u)

-- "24, in this call only, writes there too"; at every other refusal nothing is written
pub data LayersIs (s out out₁ : List ℕ) (r : Told) : Type 0 where
  -- "21 first, if the output is under 2,048 bytes"
  short : length out < 2048 → out₁ ≡ out → r ≡ record { refusal = 21; detail = 0; length = 0 } → LayersIs s out out₁ r
  -- "loading's refusals through the leftover test, 11 left out"
  refused : {w : Refusal} → 2048 ≤ length out → verdict_by false s ≡ Err w → out₁ ≡ out →
      r ≡ record { refusal = number w; detail = detail w; length = 0 } → LayersIs s out out₁ r
  -- then 24, "37 .. after 24", or the layers
  found : (f : Result ⊤ Unlayered) → 2048 ≤ length out → passes (verdict_by false s) ≡ true → Done s out out₁ f → r ≡ found_told s f →
      LayersIs s out out₁ r
