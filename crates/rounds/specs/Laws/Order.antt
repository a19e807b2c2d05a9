-- An update's result depends on the rules' order only in node numbers and in full, never in what the diagrams say.
-- At every choice an update is growth's (`after-present` of update), and there the order of the rules does not matter.
use Rattle.std.specs.Prelude.{◌≡◌, cond, ℕ, ◌<◌, eqb, length}
use Rattle.std.proofs.Common.{sym, ap, ◌∙◌}
use Rattle.meaning.specs.Meaning.{Program, Choice}
use Rattle.growth.specs.Laws.Order.{Covers, rules-order}
use Rattle.update.specs.Update.{Store, after_update}
use Rattle.update.specs.Laws.Held.{Held, present, after-present}

-- two programs with the same facts and the same rules, up to order and repeats, update to the same functions
pub update-order : {P Q : Program} → Covers Q P → Covers P Q → P.facts ≡ Q.facts → {st : Store} → Held (length P.facts) st →
    (a : ℕ) → a < length st.places → (b : ℕ) (c : Choice) → present (after_update P st a) b c ≡ present (after_update Q st a) b c
update-order {P} {Q} v w e {st} h a known b c =
    let g : Held (length Q.facts) st = rw (← e) h in
    after-present h P a known b c ∙
    ap (λ t. cond (eqb b a) t (present st b c)) (rules-order v w (λ x. present st x c) a) ∙
    sym (after-present g Q a known b c)
