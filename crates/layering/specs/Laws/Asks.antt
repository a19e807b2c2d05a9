-- What a body asks, worked out literal after literal.
use Rattle.std.specs.Prelude.{
  ◌≡◌,
  refl,
  Bool,
  true,
  false,
  cond,
  List,
  ℕ,
  zero,
  suc,
  ◌+◌,
  ◌*◌,
  ◌-◌,
  ◌/◌,
  ◌%◌,
  ◌≤◌,
  ◌<◌,
  max,
  eqb,
  length,
  get_or,
}
use Rattle.std.proofs.Math.Path.{sym}
use Rattle.std.proofs.Common.{ap, ◌∙◌, arith, add-one, eqb-true}
use Rattle.std.proofs.Math.Nat.{max_comm, max-eq_left, max-eq_right}
use Rattle.std.proofs.lemmas.Bool.{eqb-false}
use Rattle.meaning.specs.Lists.{upto}
use Rattle.meaning.specs.Meaning.{Literal}
use Rattle.format.specs.Bytes.{u16}
use Rattle.format.specs.File.{literal}
use Rattle.layering.specs.Rising.{layer_in, asks}
use Rattle.layering.specs.Inner.{body_at, BodyAsked}
use Rattle.layering.specs.Laws.Pass.{in-fact, in-derived}

-- what a literal asks
abbrev pub one : ℕ → List ℕ → Literal → ℕ
one F ls l = layer_in F ls l.atom + cond l.negated 1 0

max_assoc : (a b c : ℕ) → max a (max b c) ≡ max (max a b) c
max_assoc a b c = omega arith

-- a literal more at the end asks for its own layer too
asks-last : (F : ℕ) (ls : List ℕ) (n : ℕ) (f : ℕ → Literal) →
    asks F ls (upto (suc n) f) ≡ max (asks F ls (upto n f)) (one F ls (f n))
unfolding asks upto
asks-last F ls zero f = max_comm (one F ls (f 0)) 0
asks-last F ls (suc n) f =
    ap (max (one F ls (f 0))) (asks-last F ls n (λ i. f (suc i))) ∙
    max_assoc (one F ls (f 0)) (asks F ls (upto n (λ i. f (suc i)))) (one F ls (f (suc n)))

-- the lowest bit says whether the literal is negated
bit_is : (n : ℕ) → cond (literal n).negated 1 0 ≡ n % 2
unfolding literal
bit_is n = go (eqb (n % 2) 1) refl
  where
    go : (b : Bool) → eqb (n % 2) 1 ≡ b → cond b 1 0 ≡ n % 2
    go true e = omega (arith, eqb-true (n % 2) 1 e)
    go false e = omega (arith, eqb-false (n % 2) 1 e)

module _ (F : ℕ) (ls : List ℕ) where
  -- what a literal of a fact asks,
  pub one-fact : (n : ℕ) → n / 2 < F → n % 2 ≡ one F ls (literal n)
  unfolding literal
  one-fact n h = sym (rw (in-fact F ls (n / 2) h) (omega (arith, bit_is n)))

  -- and one of a derived atom
  pub one-derived : (n : ℕ) → F ≤ n / 2 → n % 2 + get_or ls (n / 2 - F) 0 ≡ one F ls (literal n)
  unfolding literal
  one-derived n h = sym (rw (in-derived F ls (n / 2) h) (omega (arith, bit_is n)))

module _ {s ls : List ℕ} {facts at len : ℕ} (q : BodyAsked s ls facts at len) {i : ℕ} (h : i < len) where
  -- a derived atom of the body has its place among the layers
  pub place-known : {n : ℕ} → n ≡ u16 s (at + 2 * i) → facts ≤ n / 2 → n / 2 - facts < length ls
  place-known {n} e k = let t : n / 2 < facts + length ls = rw e (q.known i h) in omega arith

-- the literals below i ask for `most`
pub record Asking (s ls : List ℕ) (F at most i : ℕ) : Type 0 where
  pub is : most ≡ asks F ls (body_at s at i)

-- with no literal nothing is asked,
pub asking-start : (s ls : List ℕ) (F at : ℕ) → Asking s ls F at 0 0
unfolding asks upto
asking-start s ls F at = record { is = refl }

-- and one literal more asks for its own layer too:
pub asking-next : {s ls : List ℕ} {F at most i n v : ℕ} → Asking s ls F at most i →
    n ≡ u16 s (at + 2 * i) → v ≡ one F ls (literal n) → Asking s ls F at (max v most) (i + 1)
asking-next {s} {ls} {F} {at} {most = most} {i = i} {v = v} g d e = record {
  is =
      max_comm v most ∙
      rw (add-one i, g.is, e, d) (sym (asks-last F ls i (λ k. literal (u16 s (at + 2 * k)))));
}

module _ {s ls : List ℕ} {F at most i : ℕ} (g : Asking s ls F at most i) where
  -- it asks for more,
  pub asking-more : {n v : ℕ} → n ≡ u16 s (at + 2 * i) → v ≡ one F ls (literal n) → most < v → Asking s ls F at v (i + 1)
  asking-more {n} {v} d e lt =
      let next = asking-next g d e in
      record { is = sym (max-eq_left {n = v} {m = most} (omega arith)) ∙ next.is }

  -- or does not
  pub asking-same : {n v : ℕ} → n ≡ u16 s (at + 2 * i) → v ≡ one F ls (literal n) → v ≤ most → Asking s ls F at most (i + 1)
  asking-same {n} {v} d e le =
      let next = asking-next g d e in
      record { is = sym (max-eq_right {n = v} {m = most} le) ∙ next.is }

-- in the end all have asked
pub asking-end : {s ls : List ℕ} {F at len most i : ℕ} → Asking s ls F at most i → i ≤ len → len ≤ i → most ≡ asks F ls (body_at s at len)
asking-end {len = len} {i = i} g l h = let e : i ≡ len = omega arith in (rw e at g).is
