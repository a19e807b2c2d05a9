-- Why `model` is the meaning: each layer's model is the least set that holds the lower layers' and is closed under the layer's rules.
-- The rounds only add, and a round that adds nothing is followed by none that does, so they have settled after D rounds (Laws/Settle).
use Rattle.std.specs.Prelude.{◌≡◌, ◌⊎◌, Bool, true, not, ◌&&◌, ◌||◌, cond, eqb, ltb}
use Rattle.std.proofs.Math.Path.{refl, ap}
use Rattle.std.proofs.Common.{sym, subst, ◌∙◌, inl, inr, arith, eqb→eq, nltb→le}
use Rattle.std.proofs.Math.Bool.{false}
use mathlib.Core.List.{List, Memᴰ}
use Prim.Native.Nat.{ℕ, zero, suc, ◌+◌, ◌-◌, ◌≤◌, ◌<◌}
use Rattle.std.proofs.Math.Decide.{dec_lt}
use Rattle.std.proofs.Math.Dec.{T}
use Rattle.std.proofs.Math.ListN.{length, get_or-eq_default}
use Rattle.meaning.specs.Lists.{any, all, upto}
use Rattle.meaning.specs.Meaning.{Literal, Rule, Program, atoms, Choice, Atoms, has, layer_of, is_true, gives, round, rounds, model}
use Rattle.meaning.proofs.Laws.Tests.{
  T-or-left,
  T-or-right,
  T-or-cases,
  T_and,
  T-and-left,
  T-and-right,
  eqb_of,
  any-intro,
  any-elim,
  all-mono,
  get_or-upto,
  get_or-upto-past,
  length-upto,
  mem-upto,
}
use Rattle.meaning.proofs.Laws.Settle.{Growth, times, times-good, Still, settles}

-- ---- the statement

infix 20 ◌⊆◌
-- each atom of p is one of q
abbrev pub ◌⊆◌ : (ℕ → Bool) → (ℕ → Bool) → Type 0
p ⊆ q = (a : ℕ) → T (p a) → T (q a)

-- the set X has the head of each rule of layer k whose body is true
abbrev pub Closed : Program → ℕ → (ℕ → Bool) → (ℕ → Bool) → Type 0
Closed P k lower X =
    (r : Rule) → Memᴰ r P.rules → layer_of P r.head ≡ k → T (all (is_true lower X) r.body) → T (X r.head)

-- X is the least set that holds `lower` and is closed under the rules of layer k
pub record Least (P : Program) (k : ℕ) (lower X : ℕ → Bool) : Type 0 where
  pub contains : lower ⊆ X
  pub closed : Closed P k lower X
  pub smallest : (Y : ℕ → Bool) → lower ⊆ Y → Closed P k lower Y → X ⊆ Y

-- ---- rules

-- a literal that is true stays true as the set grows: its negation looks at the finished lower layers alone
pub is_true-mono : (lower X Y : ℕ → Bool) → X ⊆ Y → (l : Literal) → T (is_true lower X l) → T (is_true lower Y l)
unfolding is_true
is_true-mono lower X Y s l = go l.negated
  where
    go : (b : Bool) → T (cond b (not (lower l.atom)) (X l.atom)) → T (cond b (not (lower l.atom)) (Y l.atom))
    go true h = h
    go false h = s l.atom h

-- so does a body
pub body-mono : (lower X Y : ℕ → Bool) → X ⊆ Y → (b : List Literal) → T (all (is_true lower X) b) → T (all (is_true lower Y) b)
body-mono lower X Y s b = all-mono (is_true lower X) (is_true lower Y) b (λ l m. is_true-mono lower X Y s l)

-- a rule of the program with head a and a true body
pub record Fires (P : Program) (lower X : ℕ → Bool) (a : ℕ) : Type 0 where
  pub rule : Rule
  pub listed : Memᴰ rule P.rules
  pub heads : rule.head ≡ a
  pub true_body : T (all (is_true lower X) rule.body)

-- the test that some rule gives the atom finds one,
pub given_by : (P : Program) (lower X : ℕ → Bool) (a : ℕ) → T (any (gives lower X a) P.rules) → Fires P lower X a
unfolding gives
given_by P lower X a h =
    let (r, m, t) = any-elim (gives lower X a) P.rules h in
    record {
      rule = r;
      listed = m;
      heads = eqb→eq r.head a (T-and-left (eqb r.head a) _ t);
      true_body = T-and-right (eqb r.head a) _ t;
    }

-- and passes where there is one
pub gives-it : (P : Program) (lower X : ℕ → Bool) (a : ℕ) → Fires P lower X a → T (any (gives lower X a) P.rules)
unfolding gives
gives-it P lower X a g =
    any-intro (gives lower X a) P.rules g.listed (T_and (eqb g.rule.head a) _ (eqb_of g.heads) g.true_body)

-- what a rule gives, it still gives as the set grows
pub given-mono : {P : Program} {lower X : ℕ → Bool} (Y : ℕ → Bool) {a : ℕ} → X ⊆ Y → Fires P lower X a → Fires P lower Y a
given-mono {P} {lower} {X} Y {a} s g = record {
  rule = g.rule;
  listed = g.listed;
  heads = g.heads;
  true_body = body-mono lower X Y s g.rule.body g.true_body;
}

-- ---- rounds

-- an atom of a layer above 0 is derived
pub derived : (P : Program) (a k : ℕ) → layer_of P a ≡ suc k → (length P.facts ≤ a) × (a < atoms P)
unfolding layer_of
derived P a k e = go (ltb a (length P.facts)) refl
  where
    go : (b : Bool) → ltb a (length P.facts) ≡ b → (length P.facts ≤ a) × (a < atoms P)
    go true q = absurd (let z : 0 ≡ suc k = rw q at e in omega arith)
    go false q =
        let f : length P.facts ≤ a = nltb→le a (length P.facts) (rw q tt) in (
          f,
          elim (dec_lt a (atoms P)) [
            | yes h ↦ h
            | no h ↦
                let d = get_or-eq_default P.layers 0 {n = a - length P.facts} (omega (arith, h)) in
                absurd (let z : 0 ≡ suc k = sym d ∙ (rw q at e) in omega arith)
          ],
        )

-- the set's atoms are atoms of the program
abbrev pub InRange : Program → Atoms → Type 0
InRange P s = (a : ℕ) → T (has s a) → a < atoms P

module _ (P : Program) (k : ℕ) (lower : Atoms) where
  abbrev step : Atoms → Atoms
  step = round P (suc k) lower

  -- what a round makes of an atom
  round-at : (now : Atoms) (a : ℕ) → a < atoms P →
      has (step now) a ≡ (has now a || (eqb (layer_of P a) (suc k) && any (gives (has lower) (has now) a) P.rules))
  unfolding round
  round-at now a h = get_or-upto (atoms P) _ false a h

  round-range : (now : Atoms) → InRange P (step now)
  unfolding round
  round-range now a h = elim (dec_lt a (atoms P)) [
    | yes q ↦ q
    | no q ↦ absurd (rw (get_or-upto-past (atoms P) _ false a (omega (arith, q))) at h)
  ]

  round-grows : (now : Atoms) → InRange P now → has now ⊆ has (step now)
  round-grows now g a h = rw (round-at now a (g a h)) (T-or-left (has now a) _ h)

  -- an atom that a round adds is of the layer, and a rule gives it,
  round-cases : (now : Atoms) (a : ℕ) → T (has (step now) a) →
      T (has now a) ⊎ ((layer_of P a ≡ suc k) × Fires P (has lower) (has now) a)
  round-cases now a h = go (T-or-cases (has now a) _ (rw (round-at now a (round-range now a h)) at h))
    where
      go :
          T (has now a) ⊎ T (eqb (layer_of P a) (suc k) && any (gives (has lower) (has now) a) P.rules) →
          T (has now a) ⊎ ((layer_of P a ≡ suc k) × Fires P (has lower) (has now) a)
      go (inl t) = inl t
      go (inr t) = inr (
        eqb→eq (layer_of P a) (suc k) (T-and-left (eqb (layer_of P a) (suc k)) _ t),
        given_by P (has lower) (has now) a (T-and-right (eqb (layer_of P a) (suc k)) _ t),
      )

  -- and each such atom is added
  round-adds : (now : Atoms) (a : ℕ) → layer_of P a ≡ suc k → Fires P (has lower) (has now) a → T (has (step now) a)
  round-adds now a e g =
      rw (round-at now a (derived P a k e).1)
      (T-or-right (has now a) _ (T_and (eqb (layer_of P a) (suc k)) _ (eqb_of e) (gives-it P (has lower) (has now) a g)))

  round_mono : (x y : Atoms) → InRange P y → has x ⊆ has y → has (step x) ⊆ has (step y)
  round_mono x y g s a h = go (round-cases x a h)
    where
      go : T (has x a) ⊎ ((layer_of P a ≡ suc k) × Fires P (has lower) (has x) a) → T (has (step y) a)
      go (inl t) = round-grows y g a (s a t)
      go (inr t) = round-adds y a t.0 (given-mono (has y) s t.1)

  -- ---- many rounds

  -- every set that holds the lower layers and is closed holds what the rounds give
  inside : (Y : ℕ → Bool) → has lower ⊆ Y → Closed P (suc k) (has lower) Y → (n : ℕ) → has (rounds P (suc k) lower n) ⊆ Y
  unfolding rounds
  inside Y c d zero a h = c a h
  inside Y c d (suc n) a h = go (inside Y c d n) (round-cases x a h)
    where
      x : Atoms
      x = rounds P (suc k) lower n

      go : has x ⊆ Y → T (has x a) ⊎ ((layer_of P a ≡ suc k) × Fires P (has lower) (has x) a) → T (Y a)
      go s (inl t) = s a t
      go s (inr t) =
          let g = given-mono Y s t.1 in
          subst (λ z. T (Y z)) g.heads (d g.rule g.listed (ap (layer_of P) g.heads ∙ t.0) g.true_body)

  -- the rounds are a step that only adds, taken n times
  layer-growth : Growth Atoms
  layer-growth = record { look = has; step = step; Good = InRange P; keeps = λ x g. round-range x; grows = round-grows }

  rounds-times : (n : ℕ) → rounds P (suc k) lower n ≡ times step lower n
  unfolding rounds times
  rounds-times zero = refl
  rounds-times (suc n) = ap step (rounds-times n)

  derived_atoms : List ℕ
  derived_atoms = upto (length P.layers) (λ i. length P.facts + i)

  -- what adds no derived atom adds none
  still-all : (now : Atoms) → Still layer-growth derived_atoms now → has (step now) ⊆ has now
  unfolding derived_atoms layer-growth
  still-all now s a h = go (round-cases now a h)
    where
      go : T (has now a) ⊎ ((layer_of P a ≡ suc k) × Fires P (has lower) (has now) a) → T (has now a)
      go (inl t) = t
      go (inr t) =
          let d = derived P a k t.0 in
          let e : length P.facts + (a - length P.facts) ≡ a = omega (arith, d.0) in
          let m = mem-upto (length P.layers) (λ i. length P.facts + i) (a - length P.facts) (omega (arith, d.0, d.1)) in
          s a (subst (λ x. Memᴰ x derived_atoms) e m) h

  module _ (good : InRange P lower) where
    rounds-range : (n : ℕ) → InRange P (rounds P (suc k) lower n)
    unfolding layer-growth
    rounds-range n = rw (rounds-times n) (times-good layer-growth lower good n)

    contained : (n : ℕ) → has lower ⊆ has (rounds P (suc k) lower n)
    unfolding rounds
    contained zero a h = h
    contained (suc n) a h = round-grows (rounds P (suc k) lower n) (rounds-range n) a (contained n a h)

    abbrev settled : Atoms
    settled = rounds P (suc k) lower (length P.layers)

    -- one more round adds nothing
    settled-still : has (step settled) ⊆ has settled
    unfolding derived_atoms layer-growth
    settled-still =
        rw (rounds-times (length P.layers))
        (still-all (times step lower (length P.layers))
        (settles layer-growth derived_atoms (λ x g s a m. round_mono (step x) x g (still-all x s) a) lower good (length P.layers)
        (omega (arith, length-upto (length P.layers) (λ i. length P.facts + i)))))

    rounds-least : Least P (suc k) (has lower) (has settled)
    rounds-least = record {
      contains = contained (length P.layers);
      closed = λ r m e h.
          settled-still r.head (round-adds settled r.head e (record { rule = r; listed = m; heads = refl; true_body = h }));
      smallest = λ Y c d. inside Y c d (length P.layers);
    }

-- ---- the theorem

-- a model's atoms are atoms of the program
pub model-range : (P : Program) (c : Choice) → length c ≡ length P.facts → (k : ℕ) → InRange P (model P c k)
unfolding model
model-range P c e zero = λ a h. elim (dec_lt a (atoms P)) [
  | yes q ↦ q
  | no q ↦ absurd (rw (get_or-eq_default c false {n = a} (omega (arith, q))) at h)
]
model-range P c e (suc k) = rounds-range P k (model P c k) (model-range P c e k) (length P.layers)

-- the model of layer k + 1 is the least set that holds the model of layer k and is closed under the rules of layer k + 1
pub model-least : (P : Program) (c : Choice) → length c ≡ length P.facts → (k : ℕ) →
    Least P (suc k) (has (model P c k)) (has (model P c (suc k)))
unfolding model
model-least P c e k = rounds-least P k (model P c k) (model-range P c e k)
