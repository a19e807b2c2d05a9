-- A model does not depend on the layering: programs with the same facts and rules and equally many derived atoms, each layered in its own
-- way, have the same models. Each program's model is closed under the other's rules, layer by layer.
use Rattle.std.specs.Prelude.{◌≡◌, refl, Bool, true, false, not, cond, T, leb, length}
use Rattle.std.proofs.Common.{sym, ap, ◌∙◌, arith, leb→le, le-ltb, le-leb}
use mathlib.Core.List.{List, Memᴰ}
use Prim.Native.Nat.{ℕ, zero, suc, ◌-◌, ◌≤◌, ◌<◌}
use Rattle.meaning.specs.Lists.{all}
use Rattle.meaning.specs.Meaning.{Literal, Rule, Program, Choice, has, layer_of, is_true, model, holds, Layered}
use Rattle.meaning.proofs.Laws.Tests.{T-same, all-mono}
use Rattle.meaning.proofs.Laws.Least.{Closed, derived, model-least}
use Rattle.meaning.proofs.Laws.Layers.{choice-fact, model-layer, holds_at, holds-fact}

-- the same facts and rules, and as many derived atoms; the layers are each program's own
pub record SameRules (P Q : Program) : Type 0 where
  pub same_facts : P.facts ≡ Q.facts
  pub same_rules : P.rules ≡ Q.rules
  pub as_many : length P.layers ≡ length Q.layers

rules-sym : {P Q : Program} → SameRules P Q → SameRules Q P
rules-sym s = record { same_facts = sym s.same_facts; same_rules = sym s.same_rules; as_many = sym s.as_many }

-- what is derived in Q is derived in P
derived-there : {P Q : Program} → SameRules P Q → Layered P → (a k : ℕ) → layer_of Q a ≡ suc k → 0 < layer_of P a
unfolding layer_of
derived-there {P} {Q} s w a k e =
    let (h, p) = derived Q a k e in
    let F = length P.facts in
    let f = ap length s.same_facts in
    rw (le-ltb a F (omega arith)) (w.numbers (a - F) (omega (arith, s.as_many))).0

-- ---- all rules at once

-- a body that is true stays true where its negated atoms are as before and its plain ones stay
body-stays :
    (lower now down X : ℕ → Bool) (b : List Literal) →
    ((l : Literal) → Memᴰ l b → l.negated ≡ true → lower l.atom ≡ down l.atom) →
    ((l : Literal) → Memᴰ l b → l.negated ≡ false → T (now l.atom) → T (X l.atom)) →
    T (all (is_true lower now) b) → T (all (is_true down X) b)
unfolding is_true
body-stays lower now down X b f g =
    all-mono (is_true lower now) (is_true down X) b (λ l i. go l.atom l.negated (f l i) (g l i))
  where
    go :
        (a : ℕ) (n : Bool) → (n ≡ true → lower a ≡ down a) → (n ≡ false → T (now a) → T (X a)) →
        T (cond n (not (lower a)) (now a)) → T (cond n (not (down a)) (X a))
    go a true p q t = rw (p refl) at t
    go a false p q t = q refl t

-- the atoms that hold for the choice
abbrev held : Program → Choice → ℕ → Bool
held P c a = holds P a c

-- they are closed under the rules of all layers
held-closed : {P : Program} → Layered P → (c : Choice) → length c ≡ length P.facts → (r : Rule) → Memᴰ r P.rules →
    0 < layer_of P r.head → T (all (is_true (held P c) (held P c)) r.body) → T (holds P r.head c)
held-closed {P} w c z r m h t = go (layer_of P r.head) refl h
  where
    go : (k : ℕ) → layer_of P r.head ≡ k → 0 < k → T (holds P r.head c)
    go zero e p = absurd (omega arith)
    go (suc k) e p =
        rw (holds_at P c z r.head (suc k) (omega arith))
        ((model-least P c z k).closed r m e
        (body-stays (held P c) (held P c) (has (model P c k)) (has (model P c (suc k))) r.body
        (λ l i n. holds_at P c z l.atom k (let q = w.negated r m l i n in omega arith))
        (λ l i n u. rw (holds_at P c z l.atom (suc k) (let q = w.positive r m l i n in omega arith)) at u) t))

-- ---- two layerings

module _ {P Q : Program} (s : SameRules P Q) (w : Layered P) (v : Layered Q) (c : Choice) (z : length c ≡ length P.facts) where
  size : length c ≡ length Q.facts
  size = z ∙ ap length s.same_facts

  -- below layer k of P the same atoms hold
  abbrev Agree : ℕ → Type 0
  Agree k = (a : ℕ) → layer_of P a < k → holds P a c ≡ holds Q a c

  -- then what holds in Q is closed under the rules of P's layer k,
  there-closed : (k : ℕ) → Agree (suc k) → Closed P (suc k) (has (model P c k)) (held Q c)
  there-closed k g r m e t =
      held-closed v c size r (rw s.same_rules at m) (derived-there (rules-sym s) v r.head k e)
      (body-stays (has (model P c k)) (held Q c) (held Q c) (held Q c) r.body
      (λ l i n. let h = w.negated r m l i n in sym (holds_at P c z l.atom k (omega arith)) ∙ g l.atom (omega arith))
      (λ l i n u. u) t)

  -- so what P has up to layer k holds in Q
  there : (k : ℕ) → Agree k → (a : ℕ) → T (has (model P c k) a) → T (holds Q a c)
  unfolding model
  there zero g a t = rw (holds-fact Q c size a (choice-fact Q c size a t)) t
  there (suc k) g a t =
      (model-least P c z k).smallest (held Q c)
      (λ b u. let h = model-layer P c z k b u in rw (← g b (omega arith), holds_at P c z b k h) u)
      (there-closed k g) a t

  -- the atoms that hold in P, and all above layer k
  abbrev up_to : ℕ → ℕ → Bool
  up_to k a = cond (leb (layer_of P a) k) (holds P a c) true

  up-to-of : (k a : ℕ) → (layer_of P a ≤ k → T (holds P a c)) → T (up_to k a)
  up-to-of k a f = go (leb (layer_of P a) k) (λ t. f (leb→le (layer_of P a) k t))
    where
      go : (b : Bool) → (T b → T (holds P a c)) → T (cond b (holds P a c) true)
      go true g = g tt
      go false g = tt

  of-up-to : (k a : ℕ) → layer_of P a ≤ k → T (up_to k a) → T (holds P a c)
  of-up-to k a h t = rw (le-leb (layer_of P a) k h) at t

  -- they are closed under the rules of each of Q's layers,
  back-closed : (k : ℕ) → Agree k → (n : ℕ) → Closed Q (suc n) (has (model Q c n)) (up_to k)
  back-closed k g n r m e t = up-to-of k r.head λ q.
      let i = rw (← s.same_rules) at m in
      held-closed w c z r i (derived-there s w r.head n e)
      (body-stays (has (model Q c n)) (up_to k) (held P c) (held P c) r.body
      (λ l j d.
      let x = w.negated r i l j d in
      let y = v.negated r m l j d in
      sym (holds_at Q c size l.atom n (omega arith)) ∙ sym (g l.atom (omega arith)))
      (λ l j d. of-up-to k l.atom (let x = w.positive r i l j d in omega arith)) t)

  -- so what Q has of P's layers up to k holds in P
  back : (k : ℕ) → Agree k → (n a : ℕ) → layer_of P a ≤ k → T (has (model Q c n) a) → T (holds P a c)
  unfolding model
  back k g zero a h t = rw (holds-fact P c z a (choice-fact P c z a t)) t
  back k g (suc n) a h t =
      of-up-to k a h
      ((model-least Q c size n).smallest (up_to k) (λ b u. up-to-of k b (λ q. back k g n b q u)) (back-closed k g n) a t)

  agree : (k : ℕ) → Agree k
  agree zero a h = absurd (omega arith)
  agree (suc k) a h =
      T-same (holds P a c) (holds Q a c)
      (λ t. there k (agree k) a (rw (holds_at P c z a k (omega arith)) at t))
      (λ t. back k (agree k) (layer_of Q a) a (omega arith) (rw (holds_at Q c size a (layer_of Q a) (omega arith)) at t))

  -- the same atoms hold, whichever legal layering is given
  pub layers-any : (a : ℕ) → holds P a c ≡ holds Q a c
  layers-any a = agree (suc (layer_of P a)) a (omega arith)
