-- What the program `layers` prints for a file (document 02, L4; man/layers.1).
use Rattle.std.specs.Prelude.{◌≡◌, cond, List, [], ◌++◌, ℕ, ◌+◌, ◌*◌, eqb, length, get_or, take, replicate}
use Rattle.text.specs.Text.{ascii, decimal, pair_line, lines, refused_text, Printed}
use Rattle.meaning.specs.Lists.{upto}
use Rattle.format.specs.Bytes.{u16}
use Rattle.format.specs.File.{F}
use Rattle.layering.specs.Told.{Told, LayersIs}

-- ---- lines

-- an atom and its layer
abbrev pub layer_line : ℕ → ℕ → List ℕ
layer_line a l = pair_line a l

-- the lines of the derived atoms, the first of which is atom number `facts`, in order
abbrev pub layer_lines : ℕ → List ℕ → List ℕ
layer_lines facts layers = lines (length layers) (λ i. layer_line (facts + i) (get_or layers i 0))

-- a rule's number
abbrev pub rule_line : ℕ → List ℕ
rule_line j = decimal j ++ ascii "\n"

-- the rules of a chain, one to a line
abbrev pub rule_lines : List ℕ → List ℕ
rule_lines js = lines (length js) (λ i. rule_line (get_or js i 0))

-- "a count, then at most 1,023 rule numbers, 2 bytes each": the numbers
abbrev pub chain_in : List ℕ → List ℕ
chain_in written = upto (u16 written 0) (λ i. u16 written (2 + 2 * i))

-- ---- what is printed

-- of an answer and the bytes that it wrote: the layers where it refuses nothing; else the refusal, and at 24 the chain's rules behind it
unfoldable pub layers_text : (facts : ℕ) → Told → (written : List ℕ) → List ℕ
layers_text facts told written =
    cond (eqb told.refusal 0) (layer_lines facts written)
    (refused_text told.refusal told.detail ++ cond (eqb told.refusal 24) (rule_lines (chain_in written)) [])

-- a text that may be printed: that of an answer into an output of 2,048 bytes. Which chain is told at 24 is open, and nothing else
-- (layering's Laws/Fixed, `told_fixed`).
pub record LayersSaid (s text : List ℕ) : Type 0 where
  pub out : List ℕ
  pub told : Told
  pub is : LayersIs s (replicate 2048 0) out told
  pub text_is : text ≡ layers_text (F s) told (take told.length out)

-- one of the file's texts stands at the output's start
pub record LayersPrinted (s out out₁ : List ℕ) (r : ℕ) : Type 0 where
  pub text : List ℕ
  pub said : LayersSaid s text
  pub printed : Printed text out out₁ r
