-- `layers_text::rule_lines` meets its contract: the lines of the chain's first rules are written. Assumes nothing.
use Prim.Native.Nat.{◌<◌}
use mathlib.Core.Path.{◌≡◌}
use Rattle.std.proofs.Common.{◌∙◌}
use native.Mathlib.Omega.{arith}
use Rattle.text.specs.Laws.Lines.{listed-none}
use Rattle.format.specs.Bytes.{u16}
use Rattle.layers_text.specs.LayersText.{chain_in}
use Rattle.layers_text.specs.Laws.Lines.{rule_of, rule-writes, rules-more, rules-all}
use Rattle.layers_text.proofs.rule_lines.Goals as goal

pub loop-i-init : goal.loop-i-init
loop-i-init c =
    listed-none 6 (rule_of (chain_in c.args.chain.now)) (omega (arith, c.requires.room))

pub number-requires : goal.number-requires
number-requires c =
    omega (arith, c.requires.room, c.requires.few, c.u16_at-i-end.ensures.value)

pub loop-i-preserved : goal.loop-i-preserved
loop-i-preserved c =
    let more : c.loop-i.i < u16 c.args.chain.now 0 = omega (arith, c.u16_at-i-end.ensures.value) in
    rules-more c.args.chain.now c.loop-i.invariant more c.u16_at.ensures.value c.u16_at.ensures.small
    (rule-writes c.number.ensures c.put.ensures)

pub returns : goal.returns
returns c =
    let all : c.loop-i.i ≡ c.u16_at-i-end.result = omega arith in
    rules-all c.args.chain.now c.loop-i.invariant (all ∙ c.u16_at-i-end.ensures.value)
