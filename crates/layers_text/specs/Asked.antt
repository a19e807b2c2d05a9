-- What the functions that write ask, and what is written.
use Rattle.std.specs.Prelude.{◌≡◌, List, ℕ, ◌+◌, ◌*◌, ◌≤◌, length, replicate}
use Rattle.format.specs.Bytes.{u16}
use Rattle.text.specs.Writes.{HasRoom, Writes}
use Rattle.text.specs.declared.Writer.{Writer}
use Rattle.layers_text.specs.LayersText.{LayersSaid}

-- the layers of a file's derived atoms
pub record LayerLinesAsked (layers : List ℕ) (facts : ℕ) (w : Writer) : Type 0 where
  pub few : facts ≤ 32
  pub some : length layers ≤ 512
  pub room : HasRoom w 16320

-- a chain as it was written
pub record RuleLinesAsked (chain : List ℕ) (w : Writer) : Type 0 where
  pub whole : length chain ≡ 2 + 2 * u16 chain 0
  pub few : u16 chain 0 ≤ 1023
  pub room : HasRoom w 16320

-- an empty output for the layers, and room for every text (Laws/Short, `layers-said-length`)
pub record AnswerAsked (found : List ℕ) (w : Writer) : Type 0 where
  pub empty : found ≡ replicate 2048 0
  pub room : HasRoom w 16384

-- one of the file's texts is written
pub record WritesLayers (s : List ℕ) (w w₁ : Writer) : Type 0 where
  pub text : List ℕ
  pub said : LayersSaid s text
  pub writes : Writes w w₁ text
