-- `layering::rising::asked` meets its contract. Assumes nothing.
use native.Mathlib.Omega.{arith}
use mathlib.Core.Path.{◌≡◌, ◌∙◌}
use Rattle.format.specs.File.{literal}
use Rattle.layering.specs.Laws.Asks.{one, one-fact, one-derived, asking-start, asking-more, asking-same}
use Rattle.layering.proofs.rising.asked.Goals as goal
use Rattle.layering.proofs.rising.asked.Goals.{Joined-program-lit, then-program-lit, else-program-lit, then-most-layer, else-most-layer}

pub loop-i-init : goal.loop-i-init
loop-i-init c = asking-start _ _ _ _

-- what the literal asks, whichever way its layer was found
layer_is :
    (c : Joined-program-lit) →
    c.if-program-lit.layer ≡ one c.args.program.facts c.args.layers.now (literal c.u16_at-lit.result)
layer_is c =
    let layers = c.args.layers.now in
    let lit = c.u16_at-lit.result in
    elim c.if-program-lit.branch [
      | then-program-lit w ↦ w.layer-is ∙ one-derived _ layers lit w.if-program-lit.true
      | else-program-lit w ↦ w.layer-is ∙ one-fact _ layers lit w.if-program-lit.false
    ]

pub loop-i-preserved : goal.loop-i-preserved
loop-i-preserved c =
    let read = c.u16_at-lit.ensures.value in
    let layer = layer_is (goal.at.loop-i-preserved c).Joined-program-lit in
    elim c.if-most-layer.branch [
      | then-most-layer w ↦ rw w.most-is (asking-more c.loop-i.invariant read layer w.if-most-layer.true)
      | else-most-layer w ↦ rw w.most-is (asking-same c.loop-i.invariant read layer w.if-most-layer.false)
    ]

pub returns : goal.returns
returns c = let e : c.loop-i.i ≡ c.args.len = omega arith in rw e at c.loop-i.invariant.is
