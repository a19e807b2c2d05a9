-- `layers_text::answer` meets its contract: by what is told, its parts make the text. Assumes nothing.
use mathlib.Core.Path.{◌≡◌, refl}
use native.Mathlib.Omega.{arith}
use Rattle.text.specs.Text.{refused_text}
use Rattle.text.specs.Writes.{Writes}
use Rattle.format.specs.Refusals.{number}
use Rattle.format.specs.Laws.Numbers.{number-range}
use Rattle.layering.specs.Told.{told_as, told_of, LayersIs}
use Rattle.layering.specs.Laws.Told.{told-formed}
use Rattle.layers_text.specs.Laws.Said.{
  written-inside,
  written-size,
  layer-lines-asked,
  layers-written,
  rule-lines-asked,
  chain-written,
  refused-written,
}
use Rattle.std.proofs.Common.{Ok, Err}
use Rattle.layers_text.proofs.answer.Goals as goal
use Rattle.layers_text.proofs.answer.Goals.{In-Ok, After-refused, In-Unlayered-Chain}

-- the layers were written,
layers : (c : In-Ok) → LayersIs c.args.file.now c.args.room.now c.tell.new.out (told_of (Ok c.in-Ok.length))
layers c = rw c.in-Ok.is at c.tell.ensures

-- or the call refuses,
refusal : (c : After-refused) → LayersIs c.args.file.now c.args.room.now c.tell.new.out (told_of (Err c.in-Err.why))
refusal c = rw c.in-Err.is at c.tell.ensures

-- and the refusal is written
said : (c : After-refused) →
    Writes c.args.writer.now c.refused.new.self
    (refused_text (told_as c.in-Err.why).refusal (told_as c.in-Err.why).detail)
said c = rw (c.number.ensures, c.detail.ensures) at c.refused.ensures

-- a chain's refusal is 24
chain : (c : In-Unlayered-Chain) → (told_as c.in-Err.why).refusal ≡ 24
chain c =
    let is = rw c.in-Unlayered-Chain.is at c.in-Unlayered-Chain.field-0-is in
    rw (c.in-Unlayered-Chain.is, is) refl

pub slice_bounds-layer_lines-end : goal.slice_bounds-layer_lines-end
slice_bounds-layer_lines-end c = written-inside c.requires (layers c) c.tell.auto.out

pub slice_bounds-layer_lines-end-in-Ok : goal.slice_bounds-layer_lines-end-in-Ok
slice_bounds-layer_lines-end-in-Ok c = written-size c.requires (layers c) c.tell.auto.out

pub u16_at-requires : goal.u16_at-requires
u16_at-requires c = omega (arith, (told-formed (layers c) refl).long)

pub layer_lines-requires : goal.layer_lines-requires
layer_lines-requires c =
    layer-lines-asked c.requires (layers (goal.at.layer_lines-requires c).In-Ok) c.tell.auto.out refl c.u16_at.ensures.value

pub returns-in-Ok : goal.returns-in-Ok
returns-in-Ok c =
    layers-written c.requires (layers (goal.at.returns-in-Ok c).In-Ok) refl c.u16_at.ensures.value c.layer_lines.ensures

pub rule_lines-requires : goal.rule_lines-requires
rule_lines-requires c =
    let here = (goal.at.rule_lines-requires c).After-refused in
    let is = chain (goal.at.rule_lines-requires c).In-Unlayered-Chain in
    rw c.length.ensures (rule-lines-asked c.requires (refusal here) (said here) is)

pub returns-in-Unlayered-Chain : goal.returns-in-Unlayered-Chain
returns-in-Unlayered-Chain c =
    let here = (goal.at.returns-in-Unlayered-Chain c).After-refused in
    let is = chain (goal.at.returns-in-Unlayered-Chain c).In-Unlayered-Chain in
    chain-written c.requires (refusal here) (said here) is (rw c.length.ensures at c.rule_lines.ensures)

pub returns-in-Unlayered-High : goal.returns-in-Unlayered-High
returns-in-Unlayered-High c =
    let here = (goal.at.returns-in-Unlayered-High c).After-refused in
    let is = rw c.in-Unlayered-High.is at c.in-Unlayered-High.field-0-is in
    let high : (told_as c.in-Err.why).refusal ≡ 37 = rw (c.in-Unlayered-High.is, is) refl in
    refused-written c.requires (refusal here) (said here) (λ z. omega arith) (λ z. omega arith)

pub returns-in-Refused : goal.returns-in-Refused
returns-in-Refused c =
    let here = (goal.at.returns-in-Refused c).After-refused in
    let file : (told_as c.in-Err.why).refusal ≡ number c.in-Refused.field-0 = rw c.in-Refused.is refl in
    refused-written c.requires (refusal here) (said here)
    (λ z. omega (arith, number-range c.in-Refused.field-0))
    (λ z. omega (arith, number-range c.in-Refused.field-0))
