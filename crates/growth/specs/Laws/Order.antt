-- An update's result does not depend on the order of the rules, nor on repeated rules and literals.
-- A value asks whether some rule with a true body has the atom as head; the other program has that rule's match.
use Rattle.std.specs.Prelude.{◌≡◌, Bool, ℕ, T}
use Rattle.std.proofs.Common.{◌∙◌}
use mathlib.Core.List.{Memᴰ}
use Rattle.meaning.specs.Meaning.{Rule, Program, is_true}
use Rattle.meaning.proofs.Laws.Tests.{T-same, all-intro, all-elim}
use Rattle.meaning.proofs.Laws.Least.{given_by, gives-it}
use Rattle.meaning.proofs.Laws.Same.{Match}
use Rattle.growth.specs.Growth.{value}

-- Q has each rule of P, up to the order and the number of its literals
abbrev pub Covers : Program → Program → Type 0
Covers Q P = (r : Rule) → Memᴰ r P.rules → Match Q r

covered : (P : Program) {Q : Program} → Covers Q P → (q : ℕ → Bool) (a : ℕ) → T (value P q a) → T (value Q q a)
covered P {Q} v q a h =
    let f = given_by P q q a h in
    let m = v f.rule f.listed in
    gives-it Q q q a (record {
      rule = m.rule;
      listed = m.listed;
      heads = m.same_head ∙ f.heads;
      true_body =
          all-intro (is_true q q) m.rule.body (λ l i. all-elim (is_true q q) f.rule.body f.true_body (m.same_body.back l i));
    })

-- two programs with the same rules, up to order and repeats, give every atom the same value in every set
pub rules-order : {P Q : Program} → Covers Q P → Covers P Q → (q : ℕ → Bool) (a : ℕ) → value P q a ≡ value Q q a
rules-order {P} {Q} v w q a = T-same (value P q a) (value Q q a) (covered P v q a) (covered Q w q a)
