-- How the models of the layers hang together: an atom's truth is settled in its own layer, and the layers above leave it.
-- With it what 01 says of facts, of unused layer numbers, of atoms with no rule and of empty bodies.
use Rattle.std.specs.Prelude.{◌≡◌, refl, ◌⊎◌, Bool, true, false, ◌||◌, cond, T, eqb, ltb, length, get_or}
use Rattle.std.proofs.Math.Path.{sym}
use Rattle.std.proofs.Common.{subst, ◌∙◌, inl, inr, arith, add-zero, add-suc, lt→ltb}
use Rattle.std.proofs.Math.Bool.{not}
use mathlib.Core.List.{List, [], ◌∷◌, Memᴰ}
use Prim.Native.Nat.{ℕ, zero, suc, ◌+◌, ◌-◌, ◌≤◌, ◌<◌}
use Rattle.std.proofs.Math.Nat.{le-max_left, le-max_right}
use Rattle.std.proofs.Math.Decide.{dec_lt}
use Rattle.std.proofs.Math.Dec.{T_not, not_T, eqb→eq, eqb_refl, leb, leb→le, le→leb}
use Rattle.std.proofs.Math.ListN.{get_or-eq_default}
use Rattle.meaning.specs.Lists.{all}
use Rattle.meaning.specs.Meaning.{Rule, Program, Choice, has, layer_of, model, highest, holds}
use Rattle.meaning.proofs.Laws.Tests.{T-or-left, T-or-right, T-or-cases, T-same, T_true, T_false, eqb_of}
use Rattle.meaning.proofs.Laws.Least.{model-least}

-- ---- layers

-- a fact is of layer 0
pub layer-fact : (P : Program) (a : ℕ) → a < length P.facts → layer_of P a ≡ 0
unfolding layer_of
layer-fact P a h = rw (T_true (ltb a (length P.facts)) (lt→ltb a (length P.facts) h))

get_or-highest : (l : List ℕ) (i : ℕ) → get_or l i 0 ≤ highest l
unfolding highest
get_or-highest [] i = omega arith
get_or-highest (k ∷ l) zero = le-max_left k (highest l)
get_or-highest (k ∷ l) (suc i) = omega (arith, get_or-highest l i, le-max_right k (highest l))

-- no atom is of a layer above the highest
pub layer-highest : (P : Program) (a : ℕ) → layer_of P a ≤ highest P.layers
unfolding layer_of
layer-highest P a = go (ltb a (length P.facts))
  where
    go : (b : Bool) → cond b 0 (get_or P.layers (a - length P.facts) 0) ≤ highest P.layers
    go true = omega arith
    go false = get_or-highest P.layers (a - length P.facts)

module _ (P : Program) (c : Choice) (sized : length c ≡ length P.facts) where
  -- what a choice has on is a fact
  pub choice-fact : (a : ℕ) → T (has c a) → a < length P.facts
  choice-fact a h = elim (dec_lt a (length c)) [
    | yes q ↦ omega (arith, q)
    | no q ↦ absurd (rw (get_or-eq_default c false {n = a} (omega (arith, q))) at h)
  ]

  -- the model of layer k has atoms of layers up to k only
  pub model-layer : (k a : ℕ) → T (has (model P c k) a) → layer_of P a ≤ k
  unfolding model
  model-layer zero a h = omega (arith, layer-fact P a (choice-fact a h))
  model-layer (suc k) a h =
      leb→le (layer_of P a) (suc k)
      ((model-least P c sized k).smallest (λ b. leb (layer_of P b) (suc k))
      (λ b t. le→leb (layer_of P b) (suc k) (omega (arith, model-layer k b t)))
      (λ r m e t. le→leb (layer_of P r.head) (suc k) (omega (arith, e))) a h)

  -- what layer k + 1 adds is of layer k + 1
  pub model-new : (k a : ℕ) → T (has (model P c (suc k)) a) → T (has (model P c k) a) ⊎ (layer_of P a ≡ suc k)
  model-new k a h =
      go (T-or-cases (has (model P c k) a) (eqb (layer_of P a) (suc k))
      ((model-least P c sized k).smallest (λ b. has (model P c k) b || eqb (layer_of P b) (suc k))
      (λ b t. T-or-left (has (model P c k) b) _ t) (λ r m e t. T-or-right (has (model P c k) r.head) _ (eqb_of e)) a h))
    where
      go : T (has (model P c k) a) ⊎ T (eqb (layer_of P a) (suc k)) → T (has (model P c k) a) ⊎ (layer_of P a ≡ suc k)
      go (inl t) = inl t
      go (inr t) = inr (eqb→eq (layer_of P a) (suc k) t)

  -- a layer leaves the lower layers' atoms as they were
  pub model-keeps : (k a : ℕ) → layer_of P a ≤ k → has (model P c (suc k)) a ≡ has (model P c k) a
  model-keeps k a le =
      T-same (has (model P c (suc k)) a) (has (model P c k) a) (λ h. go (model-new k a h)) ((model-least P c sized k).contains a)
    where
      go : T (has (model P c k) a) ⊎ (layer_of P a ≡ suc k) → T (has (model P c k) a)
      go (inl t) = t
      go (inr e) = absurd (omega arith)

  later : (a j : ℕ) → has (model P c (layer_of P a + j)) a ≡ has (model P c (layer_of P a)) a
  later a zero = rw (add-zero (layer_of P a))
  later a (suc j) = rw (add-suc (layer_of P a) j) (model-keeps (layer_of P a + j) a (omega arith) ∙ later a j)

  settled_at : (a k : ℕ) → layer_of P a ≤ k → has (model P c k) a ≡ has (model P c (layer_of P a)) a
  settled_at a k h =
      let e : layer_of P a + (k - layer_of P a) ≡ k = omega arith in
      subst (λ x. has (model P c x) a ≡ has (model P c (layer_of P a)) a) e (later a (k - layer_of P a))

  -- an atom's truth is settled in its own layer: it can be read off the model of that layer and of any above
  pub holds_at : (a k : ℕ) → layer_of P a ≤ k → holds P a c ≡ has (model P c k) a
  unfolding holds
  holds_at a k h = settled_at a (highest P.layers) (layer-highest P a) ∙ sym (settled_at a k h)

  -- ---- what 01 says of single atoms and layers

  -- "the facts that are on": a fact holds where the choice has it on
  pub holds-fact : (a : ℕ) → a < length P.facts → holds P a c ≡ has c a
  unfolding model
  holds-fact a h = holds_at a 0 (omega (arith, layer-fact P a h))

  -- "Unused layer numbers are allowed": a layer with no atom changes nothing
  pub unused-layer : (k : ℕ) → ((a : ℕ) → layer_of P a ≡ suc k → ⊥) → (a : ℕ) → has (model P c (suc k)) a ≡ has (model P c k) a
  unused-layer k none a =
      T-same (has (model P c (suc k)) a) (has (model P c k) a)
      ((model-least P c sized k).smallest (has (model P c k)) (λ b t. t) (λ r m e t. absurd (none r.head e)) a)
      ((model-least P c sized k).contains a)

  absent : (a : ℕ) → length P.facts ≤ a → ((r : Rule) → Memᴰ r P.rules → r.head ≡ a → ⊥) →
      (k : ℕ) → T (has (model P c k) a) → ⊥
  unfolding model
  absent a d none zero h = omega (arith, choice-fact a h)
  absent a d none (suc k) h =
      T_not (eqb a a)
      ((model-least P c sized k).smallest (λ b. not (eqb b a))
      (λ b t. not_T (eqb b a) (λ e. absent a d none k (rw (← eqb→eq b a e) t)))
      (λ r m e t. not_T (eqb r.head a) (λ q. none r m (eqb→eq r.head a q))) a h)
      (eqb_refl a)

  -- "A derived atom with no rule never holds."
  pub no-rule : (a : ℕ) → length P.facts ≤ a → ((r : Rule) → Memᴰ r P.rules → r.head ≡ a → ⊥) → holds P a c ≡ false
  unfolding holds
  no-rule a d none = T_false (holds P a c) (absent a d none (highest P.layers))

  -- "An empty body is true.": the head of a rule with no literal always holds
  pub empty-body : (r : Rule) → Memᴰ r P.rules → r.body ≡ [] → 0 < layer_of P r.head → holds P r.head c ≡ true
  empty-body r m e h = go (layer_of P r.head) refl h
    where
      go : (k : ℕ) → layer_of P r.head ≡ k → 0 < k → holds P r.head c ≡ true
      go zero q z = absurd (omega arith)
      go (suc k) q z =
          holds_at r.head (suc k) (omega arith) ∙
          T_true _ ((model-least P c sized k).closed r m q (rw e (unfold all in tt)))
