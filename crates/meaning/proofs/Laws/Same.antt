-- Programs of one meaning: what may be changed in the rules so that no model changes. A model is the least closed set of each layer in turn
-- (Laws/Least), so programs with the same facts, layers and closed sets have the same models.
use Rattle.std.specs.Prelude.{◌≡◌, refl, ◌⊎◌, ◌↔◌, Bool, true, false, ℕ, zero, suc, ◌≤◌, T, length}
use Rattle.std.proofs.Common.{sym, ap, subst, ◌∙◌, inl, inr, arith, T_not}
use Rattle.std.proofs.Math.Path.{fun_ext}
use mathlib.Core.List.Memᴰ
use mathlib.Core.List.{List, ◌∷◌, ◌++◌, Memᴰ}
use Rattle.meaning.specs.Lists.{all}
use Rattle.meaning.specs.Meaning.{Literal, Rule, Program, Choice, has, layer_of, is_true, model, holds, Layered}
use Rattle.meaning.proofs.Laws.Tests.{T-same, T_false, all-intro, all-elim}
use Rattle.meaning.proofs.Laws.Least.{◌⊆◌, Closed, Least, model-least}
use Rattle.meaning.proofs.Laws.Layers.{model-new, holds_at}

-- ---- the same closed sets

-- the same facts, with their weights, and the same layers
pub record SameAtoms (P Q : Program) : Type 0 where
  pub same_facts : P.facts ≡ Q.facts
  pub same_layers : P.layers ≡ Q.layers

-- X holds `lower`, and its other atoms are of layer k + 1
pub record Over (P : Program) (k : ℕ) (lower X : ℕ → Bool) : Type 0 where
  pub contains : lower ⊆ X
  pub others : (a : ℕ) → T (X a) → (layer_of P a ≡ suc k → ⊥) → T (lower a)

-- the same facts and layers, and in each layer up to k the same closed sets
pub record SameUpTo (k : ℕ) (P Q : Program) : Type 0 where
  pub same_atoms : SameAtoms P Q
  pub same_closed :
      (j : ℕ) → suc j ≤ k → (lower X : ℕ → Bool) → Over P j lower X → Closed P (suc j) lower X ↔ Closed Q (suc j) lower X

module _ {P Q : Program} (s : SameAtoms P Q) where
  -- an atom is of the same layer in both
  pub same-layer : (a : ℕ) → layer_of P a ≡ layer_of Q a
  unfolding layer_of
  same-layer a = rw (s.same_facts, s.same_layers)

  same_size : (c : Choice) → length c ≡ length P.facts → length c ≡ length Q.facts
  same_size c z = z ∙ ap length s.same_facts

  atoms-sym : SameAtoms Q P
  atoms-sym = record { same_facts = sym s.same_facts; same_layers = sym s.same_layers }

  over-same : {k : ℕ} {lower X : ℕ → Bool} → Over Q k lower X → Over P k lower X
  over-same o = record { contains = o.contains; others = λ a h d. o.others a h (λ q. d (same-layer a ∙ q)) }

same-sym : {k : ℕ} {P Q : Program} → SameUpTo k P Q → SameUpTo k Q P
same-sym s = record {
  same_atoms = atoms-sym s.same_atoms;
  same_closed = λ j h lower X o. let t = s.same_closed j h lower X (over-same s.same_atoms o) in (t.1, t.0);
}

-- a model stands over the one below it
model-over : (P : Program) (c : Choice) → length c ≡ length P.facts → (k : ℕ) → Over P k (has (model P c k)) (has (model P c (suc k)))
model-over P c z k = record {
  contains = (model-least P c z k).contains;
  others = λ a h d. go a d (model-new P c z k a h);
}
  where
    go : (a : ℕ) → (layer_of P a ≡ suc k → ⊥) → T (has (model P c k) a) ⊎ (layer_of P a ≡ suc k) → T (has (model P c k) a)
    go a d (inl t) = t
    go a d (inr e) = absurd (d e)

-- where the models of layer j agree, Q's of the next layer holds that of P
model-below : {k : ℕ} {P Q : Program} → SameUpTo k P Q → (c : Choice) → length c ≡ length P.facts → (j : ℕ) → suc j ≤ k →
    has (model P c j) ≡ has (model Q c j) → has (model P c (suc j)) ⊆ has (model Q c (suc j))
model-below {P = P} {Q = Q} s c z j h e =
    let zQ = same_size s.same_atoms c z in
    let lower : ℕ → Bool = has (model P c j) in
    let X : ℕ → Bool = has (model Q c (suc j)) in
    let q : Least Q (suc j) lower X = subst (λ l. Least Q (suc j) l X) (sym e) (model-least Q c zQ j) in
    let o : Over Q j lower X = subst (λ l. Over Q j l X) (sym e) (model-over Q c zQ j) in
    (model-least P c z j).smallest X q.contains ((s.same_closed j h lower X (over-same s.same_atoms o)).1 q.closed)

-- programs that are the same up to layer k have the same models up to layer k,
pub same-model : {k : ℕ} {P Q : Program} → SameUpTo k P Q → (c : Choice) → length c ≡ length P.facts → (j : ℕ) → j ≤ k →
    (a : ℕ) → has (model P c j) a ≡ has (model Q c j) a
unfolding model
same-model s c z zero h a = refl
same-model {P = P} {Q = Q} s c z (suc j) h a =
    let e : has (model P c j) ≡ has (model Q c j) = fun_ext (same-model s c z j (omega arith)) in
    T-same (has (model P c (suc j)) a) (has (model Q c (suc j)) a)
    (model-below s c z j h e a)
    (model-below (same-sym s) c (same_size s.same_atoms c z) j h (sym e) a)

-- so in both the same atoms of layers up to k hold
pub same-holds : {k : ℕ} {P Q : Program} → SameUpTo k P Q → (a : ℕ) → layer_of P a ≤ k → (c : Choice) → length c ≡ length P.facts →
    holds P a c ≡ holds Q a c
same-holds {k} {P} {Q} s a h c z =
    holds_at P c z a k h ∙ same-model s c z k (omega arith) a ∙
    sym (holds_at Q c (same_size s.same_atoms c z) a k (omega (arith, same-layer s.same_atoms a)))

-- ---- the same rules, up to order and repeats

-- the same literals, in any order, any number of times
pub record SameBody (b d : List Literal) : Type 0 where
  pub there : (l : Literal) → Memᴰ l b → Memᴰ l d
  pub back : (l : Literal) → Memᴰ l d → Memᴰ l b

-- Q has a rule with r's head and literals
pub record Match (Q : Program) (r : Rule) : Type 0 where
  pub rule : Rule
  pub listed : Memᴰ rule Q.rules
  pub same_head : rule.head ≡ r.head
  pub same_body : SameBody r.body rule.body

-- Q has each rule of P whose head lies in layer k or lower
abbrev pub Within : ℕ → Program → Program → Type 0
Within k P Q = (r : Rule) → Memᴰ r P.rules → layer_of P r.head ≤ k → Match Q r

-- what is closed under Q's rules is closed under those of P
closed-within : {k : ℕ} {P Q : Program} → SameAtoms P Q → Within k P Q → (j : ℕ) → suc j ≤ k →
    (lower X : ℕ → Bool) → Closed Q (suc j) lower X → Closed P (suc j) lower X
closed-within {P = P} s w j h lower X d r m q t =
    let f = w r m (omega arith) in
    let b = all-intro (is_true lower X) f.rule.body (λ l i. all-elim (is_true lower X) r.body t (f.same_body.back l i)) in
    let e = sym (same-layer s f.rule.head) ∙ ap (layer_of P) f.same_head ∙ q in
    subst (λ a. T (X a)) f.same_head (d f.rule f.listed e b)

-- two programs with the same facts and layers and, for heads of layers up to k, the same rules up to order, repeated rules and repeated
-- literals hold the same atoms of layers up to k
pub rules-below : {k : ℕ} {P Q : Program} → SameAtoms P Q → Within k P Q → Within k Q P →
    (a : ℕ) → layer_of P a ≤ k → (c : Choice) → length c ≡ length P.facts → holds P a c ≡ holds Q a c
rules-below {k} {P} {Q} s v w = same-holds (record {
  same_atoms = s;
  same_closed = λ j h lower X o. (closed-within (atoms-sym s) w j h lower X, closed-within s v j h lower X);
})

-- the program with other rules
abbrev pub with_rules : Program → List Rule → Program
with_rules P rs = record { facts = P.facts; layers = P.layers; rules = rs }

with-atoms : (P : Program) (rs : List Rule) → SameAtoms P (with_rules P rs)
with-atoms P rs = record { same_facts = refl; same_layers = refl }

-- the order of the rules, repeated rules and repeated literals change nothing
pub rules-order-and-repeats : {P Q : Program} → SameAtoms P Q →
    ((r : Rule) → Memᴰ r P.rules → Match Q r) → ((r : Rule) → Memᴰ r Q.rules → Match P r) →
    (a : ℕ) (c : Choice) → length c ≡ length P.facts → holds P a c ≡ holds Q a c
rules-order-and-repeats {P} s v w a c z = rules-below {k = layer_of P a} s (λ r m h. v r m) (λ r m h. w r m) a (omega arith) c z

-- ---- an atom beside its own negation

-- the rule's body has an atom plain and negated
pub record Clash (r : Rule) : Type 0 where
  pub plain : Literal
  pub plain_in : Memᴰ plain r.body
  pub is_plain : plain.negated ≡ false
  pub denied : Literal
  pub denied_in : Memᴰ denied r.body
  pub is_denied : denied.negated ≡ true
  pub one_atom : plain.atom ≡ denied.atom

plain-true : (lower X : ℕ → Bool) (l : Literal) → l.negated ≡ false → T (is_true lower X l) → T (X l.atom)
unfolding is_true
plain-true lower X l e h = rw e at h

denied-true : (lower X : ℕ → Bool) (l : Literal) → l.negated ≡ true → T (is_true lower X l) → T (lower l.atom) → ⊥
unfolding is_true
denied-true lower X l e h = T_not (lower l.atom) (rw e at h)

-- an atom beside its own negation makes a body that never holds: the negated atom lies below the head's layer, so the plain one is not new
pub contrary : {P : Program} → Layered P → {r : Rule} → Memᴰ r P.rules → Clash r → {k : ℕ} → layer_of P r.head ≡ suc k →
    {lower X : ℕ → Bool} → Over P k lower X → all (is_true lower X) r.body ≡ false
contrary {P} w {r} m d {k} e {lower} {X} o = T_false (all (is_true lower X) r.body) λ t.
    let x = plain-true lower X d.plain d.is_plain (all-elim (is_true lower X) r.body t d.plain_in) in
    let below = w.negated r m d.denied d.denied_in d.is_denied in
    denied-true lower X d.denied d.is_denied (all-elim (is_true lower X) r.body t d.denied_in)
    (o.others d.denied.atom (rw d.one_atom at x) (λ q. omega arith))

-- leaving such a rule out changes no atom
pub contrary-idle : (P : Program) (xs ys : List Rule) (r : Rule) → P.rules ≡ xs ++ r ∷ ys → Layered P → Clash r →
    (a : ℕ) (c : Choice) → length c ≡ length P.facts → holds P a c ≡ holds (with_rules P (xs ++ ys)) a c
contrary-idle P xs ys r e w d a = same-holds {k = layer_of P a} (record {
  same_atoms = s;
  same_closed = λ j h lower X o. (
    λ p q m i. p q (rw e (kept q m)) (same-layer s q.head ∙ i),
    λ p q m i t. go j lower X o p q m i t (left q (rw e at m)),
  );
}) a (omega arith)
  where
    s : SameAtoms P (with_rules P (xs ++ ys))
    s = with-atoms P (xs ++ ys)

    kept : (q : Rule) → Memᴰ q (xs ++ ys) → Memᴰ q (xs ++ r ∷ ys)
    kept q m = elim (Memᴰ.append_cases xs m) [
      | inl i ↦ Memᴰ.append_left (r ∷ ys) i
      | inr i ↦ Memᴰ.append_right xs (Memᴰ.tail i)
    ]

    left : (q : Rule) → Memᴰ q (xs ++ r ∷ ys) → (q ≡ r) ⊎ Memᴰ q (xs ++ ys)
    left q m = elim (Memᴰ.append_cases xs m) [
      | inl i ↦ inr (Memᴰ.append_left ys i)
      | inr i ↦ elim (Memᴰ.cases_cons i) [ inl z ↦ inl z | inr j ↦ inr (Memᴰ.append_right xs j) ]
    ]

    go :
        (j : ℕ) (lower X : ℕ → Bool) → Over P j lower X → Closed (with_rules P (xs ++ ys)) (suc j) lower X →
        (q : Rule) → Memᴰ q P.rules → layer_of P q.head ≡ suc j → T (all (is_true lower X) q.body) →
        (q ≡ r) ⊎ Memᴰ q (xs ++ ys) → T (X q.head)
    go j lower X o p q m i t (inl z) = absurd (rw (contrary w m (subst Clash (sym z) d) i o) at t)
    go j lower X o p q m i t (inr n) = p q n (sym (same-layer s q.head) ∙ i) t
