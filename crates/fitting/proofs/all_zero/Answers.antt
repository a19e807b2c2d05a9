-- `all_zero` meets its contract.
use Rattle.std.specs.Prelude.{ℕ, ◌&&◌, eqb, get_or, take}
use Rattle.std.proofs.Common.{◌∙◌, sym, ap, arith, take_all}
use Rattle.std.proofs.lemmas.List.Folds.{list_all_more}
use Rattle.std.specs.List.{list_all}
use Rattle.meaning.proofs.Laws.Tests.{all_is}
use Rattle.fitting.proofs.all_zero.Goals as goal

pub loop-word-preserved : goal.loop-word-preserved
loop-word-preserved c =
    let w : ℕ = get_or c.args.words.now c.loop-word.word-index 0 in
    ap (λ b. b && eqb w 0) c.loop-word.invariant ∙
    ap (λ b. list_all (eqb 0) (take c.loop-word.word-index c.args.words.now) && b) (grind arith) ∙
    sym (list_all_more (eqb 0) c.args.words.now c.loop-word.word-index 0 c.loop-word-test.true)

pub returns : goal.returns
returns c =
    c.loop-word.invariant ∙ ap (list_all (eqb 0)) (take_all c.loop-word.word-index c.args.words.now c.loop-word-test.false) ∙
    all_is (eqb 0) _
