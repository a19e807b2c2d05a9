-- What a pass does: it lowers no layer, and after it each head is as high as its body asked before.
use Rattle.std.specs.Prelude.{◌≡◌, Bool, true, false, ℕ, zero, suc, ◌+◌, ◌-◌, ◌≤◌, ◌<◌, max, ltb, length, get_or, set}
use Rattle.std.proofs.Math.Path.{refl}
use Rattle.std.proofs.Common.{ap, ◌∙◌, get_or-set_same, lt-ltb, le-ltb}
use Rattle.std.proofs.Math.Bool.{cond}
use mathlib.Core.List.{List, [], ◌∷◌, Memᴰ}
use native.Mathlib.Omega.{arith}
use Rattle.std.proofs.Math.Nat.{le-max_left, le-max_right}
use Rattle.std.proofs.Math.ListN.{length-set}
use Rattle.meaning.specs.Meaning.{Literal, Rule}
use Rattle.layering.specs.Rising.{layer_in, asks, pass}

-- no place of ls stands higher than in ms
abbrev pub Below : List ℕ → List ℕ → Type 0
Below ls ms = (i : ℕ) → get_or ls i 0 ≤ get_or ms i 0

-- the layers after one rule's turn
abbrev pub raised : ℕ → Rule → List ℕ → List ℕ
raised F r ls = set ls (r.head - F) (max (get_or ls (r.head - F) 0) (asks F ls r.body))

-- the rule's head is a derived atom, of F facts and the listed derived ones
abbrev pub HeadIn : ℕ → List ℕ → Rule → Type 0
HeadIn F ls r = (F ≤ r.head) × (r.head < F + length ls)

-- a store of more lowers nothing
set-rises : (ls : List ℕ) (h v : ℕ) → get_or ls h 0 ≤ v → Below ls (set ls h v)
set-rises [] h v p i = omega arith
set-rises (x ∷ ls) zero v p zero = p
set-rises (x ∷ ls) zero v p (suc i) = omega arith
set-rises (x ∷ ls) (suc h) v p zero = omega arith
set-rises (x ∷ ls) (suc h) v p (suc i) = set-rises ls h v p i

module _ (F : ℕ) where
  -- a fact is of layer 0,
  pub in-fact : (ls : List ℕ) (a : ℕ) → a < F → layer_in F ls a ≡ 0
  in-fact ls a h = rw (lt-ltb a F h)

  -- and a derived atom's layer stands at its place
  pub in-derived : (ls : List ℕ) (a : ℕ) → F ≤ a → layer_in F ls a ≡ get_or ls (a - F) 0
  in-derived ls a h = rw (le-ltb a F h)

  pub in_place : (ls : List ℕ) (i : ℕ) → layer_in F ls (F + i) ≡ get_or ls i 0
  in_place ls i = in-derived ls (F + i) (omega arith) ∙ ap (λ j. get_or ls j 0) (omega arith)

  -- higher places, higher layers
  pub in-below : (ls ms : List ℕ) → Below ls ms → (a : ℕ) → layer_in F ls a ≤ layer_in F ms a
  in-below ls ms s a = go (ltb a F)
    where
      go : (t : Bool) → cond t 0 (get_or ls (a - F) 0) ≤ cond t 0 (get_or ms (a - F) 0)
      go true = omega arith
      go false = s (a - F)

  -- a body asks for as much as each of its literals
  asks-each : (ls : List ℕ) (body : List Literal) {l : Literal} → Memᴰ l body →
      layer_in F ls l.atom + cond l.negated 1 0 ≤ asks F ls body
  unfolding asks
  asks-each ls [] m = elim m [ ]
  asks-each ls (l ∷ body) (Memᴰ.head e) = rw e (le-max_left _ (asks F ls body))
  asks-each ls (k ∷ body) (Memᴰ.tail m) =
      omega (arith, asks-each ls body m, le-max_right (layer_in F ls k.atom + cond k.negated 1 0) (asks F ls body))

  pub raised_below : (r : Rule) (ls : List ℕ) → Below ls (raised F r ls)
  raised_below r ls = set-rises ls (r.head - F) _ (le-max_left _ (asks F ls r.body))

  raised-asks : (r : Rule) (ls : List ℕ) → HeadIn F ls r → {l : Literal} → Memᴰ l r.body →
      layer_in F ls l.atom + cond l.negated 1 0 ≤ layer_in F (raised F r ls) r.head
  raised-asks r ls (h, k) {l} i =
      rw (in-derived (raised F r ls) r.head h, get_or-set_same ls (r.head - F) _ 0 (omega arith))
      (omega (arith, asks-each ls r.body i, le-max_right (get_or ls (r.head - F) 0) (asks F ls r.body)))

  -- a pass keeps the number of layers,
  pub pass-length : (rs : List Rule) (ls : List ℕ) → length (pass F rs ls) ≡ length ls
  unfolding pass
  pass-length [] ls = refl
  pass-length (r ∷ rs) ls = pass-length rs (raised F r ls) ∙ length-set ls (r.head - F) _

  -- lowers none,
  pub pass_below : (rs : List Rule) (ls : List ℕ) → Below ls (pass F rs ls)
  unfolding pass
  pass_below [] ls i = omega arith
  pass_below (r ∷ rs) ls i = omega (arith, raised_below r ls i, pass_below rs (raised F r ls) i)

  -- and brings each head to what a literal of its body asked before
  pub pass-asks : (rs : List Rule) (ls : List ℕ) {r : Rule} → Memᴰ r rs → HeadIn F ls r → {l : Literal} → Memᴰ l r.body →
      layer_in F ls l.atom + cond l.negated 1 0 ≤ layer_in F (pass F rs ls) r.head
  unfolding pass
  pass-asks [] ls m h i = elim m [ ]
  pass-asks (q ∷ rs) ls {r} (Memᴰ.head e) h {l} i =
      let ms = raised F r ls in
      rw (← e) (omega (arith, raised-asks r ls h i, in-below ms (pass F rs ms) (pass_below rs ms) r.head))
  pass-asks (q ∷ rs) ls {r} (Memᴰ.tail m) h {l} i =
      omega (arith, in-below ls (raised F q ls) (raised_below q ls) l.atom, pass-asks rs (raised F q ls) m (rw length-set h) i)
