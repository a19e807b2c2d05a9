-- Walks need no atom twice: the rules between two visits of an atom lead round to it again, so where a literal there is negated they are a
-- chain, and where none is they can be cut out.
use Rattle.std.specs.Prelude.{◌≡◌, refl, ◌⊎◌, Bool, true, false, ◌||◌, cond, ℕ, ◌+◌, ◌-◌, ◌≤◌, ◌<◌, length}
use Rattle.std.proofs.Common.{sym, subst, ◌∙◌, inl, inr, arith}
use Rattle.std.proofs.Math.Bool.{Bool-discrete}
use mathlib.Core.List.Memᴰ
use mathlib.Core.List.{List, [], ◌∷◌, Memᴰ}
use Rattle.std.proofs.Math.Decide.{ℕ_discrete}
use Rattle.meaning.specs.Lists.{upto}
use Rattle.meaning.specs.Meaning.{Literal, Program, atoms, Known}
use Rattle.meaning.proofs.Laws.Tests.{length-upto, mem-upto}
use Rattle.chains.specs.Layering.{rule_of, Links, Chain}
use Rattle.chains.specs.Laws.Legal.{rule-in}
use Rattle.chains.specs.Laws.Walk.{Walk}
use Rattle.chains.specs.Laws.Apart.{Apart, apart-length}

-- a walk from the atom that weighs v or more, with no atom twice
pub record Straight (P : Program) (a v : ℕ) : Type 0 where
  pub atoms_on : List ℕ
  pub weight : ℕ
  pub walk : Walk P a atoms_on weight
  pub apart : Apart atoms_on
  pub enough : v ≤ weight

-- there is a chain
abbrev pub SomeChain : Program → Type 0
SomeChain P = (js : List ℕ) × Chain P js

-- rule j's body holds the literal
record Holds (P : Program) (j : ℕ) (l : Literal) : Type 0 where
  rule : j < length P.rules
  held : Memᴰ l (rule_of P j).body

-- A walk of weight w from atom x comes by atom a: the rules between, whether a literal there is negated, and the rest of the walk, which
-- weighs as much where none is. The links start at any rule that holds x and end at any with head a.
record Comes (P : Program) (a x w : ℕ) : Type 0 where
  between : List ℕ
  denied : Bool
  links :
      (k : ℕ) → k < length P.rules → (rule_of P k).head ≡ a → (j : ℕ) (l : Literal) → Holds P j l → l.atom ≡ x →
      Links P k (j ∷ between) (l.negated || denied)
  rest : List ℕ
  weight : ℕ
  walk : Walk P a rest weight
  apart : Apart rest
  enough : (denied ≡ true → ⊥) → w ≤ weight

or-false : (b : Bool) → b || false ≡ b
or-false true = refl
or-false false = refl

-- no literal is negated: none adds to the weight
light : (b d : Bool) {w v : ℕ} → ((d ≡ true → ⊥) → w ≤ v) → (b || d ≡ true → ⊥) → w + cond b 1 0 ≤ v
light true d f n = absurd (n refl)
light false d f n = omega (arith, f n)

-- where the walk is at a already
here : {P : Program} {a x w : ℕ} {on : List ℕ} → a ≡ x → Walk P x on w → Apart on → Comes P a x w
here {P} {w = w} {on = on} q s d = record {
  between = [];
  denied = false;
  links = λ k h e j l m p. rw (or-false l.negated) (Links.last (record {
    from = m.rule;
    to = h;
    literal = l;
    held = m.held;
    atom_is = p ∙ sym q ∙ sym e;
    negated_is = refl;
  }));
  rest = on;
  weight = w;
  walk = subst (λ y. Walk P y on w) (sym q) s;
  apart = d;
  enough = λ e. omega arith;
}

-- one step before
before : {P : Program} {a x w : ℕ} (i : ℕ) → (rule_of P i).head ≡ x → (l : Literal) → Holds P i l → Comes P a l.atom w →
    Comes P a x (w + cond l.negated 1 0)
before i e l m c = record {
  between = i ∷ c.between;
  denied = l.negated || c.denied;
  links = λ k h f j q n p. Links.next (record {
    from = n.rule;
    to = m.rule;
    literal = q;
    held = n.held;
    atom_is = p ∙ sym e;
    negated_is = refl;
  }) (c.links k h f i l m refl);
  rest = c.rest;
  weight = c.weight;
  walk = c.walk;
  apart = c.apart;
  enough = λ f. light l.negated c.denied c.enough f;
}

-- a walk with no atom twice comes by each atom that it steps from
comes : {P : Program} {a x w : ℕ} {on : List ℕ} → Walk P x on w → Apart on → Memᴰ a on → Comes P a x w
comes (Walk.stay _ _) _ m = elim m [ ]
comes (Walk.step j h e l i s) (Apart.more n d) (Memᴰ.head q) = here q (Walk.step j h e l i s) (Apart.more n d)
comes (Walk.step j h e l i s) (Apart.more n d) (Memᴰ.tail m) = before j e l (record { rule = h; held = i }) (comes s d m)

-- whether the list has the number
found : (a : ℕ) (l : List ℕ) → Dec (Memᴰ a l)
found a [] = no Memᴰ.not-nil
found a (b ∷ l) = go (ℕ_discrete a b) (found a l)
  where
    go : Dec (a ≡ b) → Dec (Memᴰ a l) → Dec (Memᴰ a (b ∷ l))
    go (yes e) q = yes (Memᴰ.head e)
    go (no o) (yes m) = yes (Memᴰ.tail m)
    go (no o) (no n) = no (λ m. elim (Memᴰ.cases_cons m) [ inl e ↦ o e | inr i ↦ n i ])

module _ {P : Program} where
  -- one step more, in front of a walk with no atom twice: where the walk comes by the new atom, all before that is a chain or is cut out
  further :
      {a v : ℕ} (j : ℕ) → j < length P.rules → (rule_of P j).head ≡ a →
      (l : Literal) → Memᴰ l (rule_of P j).body → Straight P l.atom v → SomeChain P ⊎ Straight P a (v + cond l.negated 1 0)
  further {a} {v} j h e l i t = elim (found a t.atoms_on) [
    | yes m ↦
        let c = comes t.walk t.apart m in
        let round = c.links j h e j l (record { rule = h; held = i }) refl in
        elim (Bool-discrete (l.negated || c.denied) true) [
          | yes f ↦ inl (j ∷ c.between, subst (Links P j (j ∷ c.between)) f round)
          | no f ↦
              let q = light l.negated c.denied c.enough f in
              inr (record { atoms_on = c.rest; weight = c.weight; walk = c.walk; apart = c.apart; enough = omega (arith, t.enough) })
        ]
    | no n ↦ inr (record {
      atoms_on = a ∷ t.atoms_on;
      weight = t.weight + cond l.negated 1 0;
      walk = Walk.step j h e l i t.walk;
      apart = Apart.more n t.apart;
      enough = omega (arith, t.enough);
    })
  ]

  -- there is a chain, or a walk with no atom twice that weighs as much
  pub straight : {a w : ℕ} {on : List ℕ} → Walk P a on w → SomeChain P ⊎ Straight P a w
  straight (Walk.stay h k) =
      inr (record { atoms_on = []; weight = 1; walk = Walk.stay h k; apart = Apart.none; enough = omega arith })
  straight (Walk.step j h e l i s) = elim (straight s) [ inl c ↦ inl c | inr t ↦ further j h e l i t ]

  -- a walk steps from derived atoms
  walk-derived : Known P → {a b w : ℕ} {on : List ℕ} → Walk P a on w → Memᴰ b on → (length P.facts ≤ b) × (b < atoms P)
  walk-derived known (Walk.stay _ _) m = elim m [ ]
  walk-derived known (Walk.step j h e l i s) (Memᴰ.head q) = rw (q, ← e) (known.heads (rule_of P j) (rule-in P j h))
  walk-derived known (Walk.step j h e l i s) (Memᴰ.tail m) = walk-derived known s m

  -- which has no more steps than there are derived atoms
  pub straight-length : Known P → {a v : ℕ} (t : Straight P a v) → length t.atoms_on ≤ length P.layers
  straight-length known t =
      let F = length P.facts in
      let D = length P.layers in
      let all = upto D (λ i. F + i) in
      omega (arith, length-upto D (λ i. F + i), apart-length t.apart all (λ b m. place b (walk-derived known t.walk m)))
    where
      place : (b : ℕ) → (length P.facts ≤ b) × (b < atoms P) → Memᴰ b (upto (length P.layers) (λ i. length P.facts + i))
      place b (h, k) =
          let e : length P.facts + (b - length P.facts) ≡ b = omega arith in
          rw e at (mem-upto (length P.layers) (λ i. length P.facts + i) (b - length P.facts) (omega arith))
