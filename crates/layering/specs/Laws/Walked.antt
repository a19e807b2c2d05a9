-- The layers after the passes are weights of walks: what a literal asks is walked by one step more, and what a body asks, one of its
-- literals asks.
use Rattle.std.specs.Prelude.{◌≡◌, refl, Bool, true, false, cond, ℕ, zero, suc, ◌+◌, ◌-◌, ◌≤◌, ◌<◌, max, length, get_or}
use Rattle.std.proofs.Common.{sym, subst, ◌∙◌, arith, length-set, get_or-set_same, get_or-set_other}
use mathlib.Core.List.{List, [], ◌∷◌, Memᴰ}
use Rattle.std.proofs.Math.Nat.{max-eq_left, max-eq_right}
use Rattle.std.proofs.Math.Decide.{dec_le, dec_lt, ℕ_discrete}
use Rattle.meaning.specs.Meaning.{Literal, Rule, Program, atoms, Known}
use Rattle.chains.specs.Layering.{rule_of}
use Rattle.chains.specs.Laws.Legal.{rule-in}
use Rattle.chains.specs.Laws.Walk.{Walk}
use Rattle.layering.specs.Rising.{layer_in, asks, pass, passes}
use Rattle.layering.specs.Laws.Pass.{raised, in-fact, in-derived}
use Rattle.layering.specs.Laws.Passes.{passes-length, start-one}

-- some walk from the atom weighs v or more
pub record Walked (P : Program) (a v : ℕ) : Type 0 where
  pub atoms_on : List ℕ
  pub weight : ℕ
  pub walk : Walk P a atoms_on weight
  pub enough : v ≤ weight

-- as much as the layer of every derived atom
abbrev pub AllWalked : Program → List ℕ → Type 0
AllWalked P ls = (a : ℕ) → length P.facts ≤ a → a < atoms P → Walked P a (layer_in (length P.facts) ls a)

walked-max : {P : Program} {a v w : ℕ} → Walked P a v → Walked P a w → Walked P a (max v w)
walked-max {v = v} {w = w} s t = elim (dec_le v w) [
  | yes h ↦ rw (max-eq_right h) t
  | no h ↦ rw (max-eq_left {n = v} {m = w} (omega arith)) s
]

-- a derived atom's own walk weighs 1
stays : {P : Program} {a v : ℕ} → (length P.facts ≤ a) × (a < atoms P) → v ≤ 1 → Walked P a v
stays d h = record { atoms_on = []; weight = 1; walk = Walk.stay d.0 d.1; enough = h }

bit-one : (b : Bool) → cond b 1 0 ≤ 1
bit-one true = omega arith
bit-one false = omega arith

-- the number of a listed rule
numbered : (P : Program) {r : Rule} → Memᴰ r P.rules → (j : ℕ) × (j < length P.rules) × (rule_of P j ≡ r)
numbered P = go P.rules
  where
    go : (rs : List Rule) {r : Rule} → Memᴰ r rs → (j : ℕ) × (j < length rs) × (get_or rs j (record { head = 0; body = [] }) ≡ r)
    go [] m = elim m [ ]
    go (q ∷ rs) (Memᴰ.head e) = (0, omega arith, sym e)
    go (q ∷ rs) (Memᴰ.tail m) = let (j, h, e) = go rs m in (suc j, omega arith, e)

module _ {P : Program} (known : Known P) (ls : List ℕ) (all : AllWalked P ls) where
  -- what a literal of a rule asks is walked from the head: a fact asks for at most 1, and a derived atom's walk has one more step
  literal-walked : (j : ℕ) → j < length P.rules → (l : Literal) → Memᴰ l (rule_of P j).body →
      Walked P (rule_of P j).head (layer_in (length P.facts) ls l.atom + cond l.negated 1 0)
  literal-walked j h l i = elim (dec_lt l.atom (length P.facts)) [
    | yes f ↦
        rw (in-fact (length P.facts) ls l.atom f)
        (stays (known.heads (rule_of P j) (rule-in P j h)) (omega (arith, bit-one l.negated)))
    | no f ↦ let t = all l.atom (omega arith) (known.literals (rule_of P j) (rule-in P j h) l i) in record {
      atoms_on = (rule_of P j).head ∷ t.atoms_on;
      weight = t.weight + cond l.negated 1 0;
      walk = Walk.step j h refl l i t.walk;
      enough = omega (arith, t.enough);
    }
  ]

  -- so is what its body asks,
  asks-walked :
      (j : ℕ) → j < length P.rules →
      (body : List Literal) → ((l : Literal) → Memᴰ l body → Memᴰ l (rule_of P j).body) →
      Walked P (rule_of P j).head (asks (length P.facts) ls body)
  unfolding asks
  asks-walked j h [] s = stays (known.heads (rule_of P j) (rule-in P j h)) (omega arith)
  asks-walked j h (l ∷ body) s =
      walked-max (literal-walked j h l (s l (Memᴰ.head refl))) (asks-walked j h body (λ k m. s k (Memᴰ.tail m)))

  -- and the layers after the rule's turn
  raised-walked : length ls ≡ length P.layers → (r : Rule) → Memᴰ r P.rules → AllWalked P (raised (length P.facts) r ls)
  raised-walked z r m a h k =
      let F = length P.facts in
      let d = known.heads r m in
      let (j, p, q) = numbered P m in
      let t = subst (λ x. Walked P x.head (asks F ls x.body)) q (asks-walked j p (rule_of P j).body (λ l i. i)) in
      rw (in-derived F (raised F r ls) a h) (elim (ℕ_discrete (a - F) (r.head - F)) [
        | yes e ↦
            let same : a ≡ r.head = omega arith in
            rw (e, get_or-set_same ls (r.head - F) _ 0 (omega arith), same, ← in-derived F ls r.head d.0)
            (walked-max (all r.head d.0 d.1) t)
        | no o ↦ rw (get_or-set_other ls (r.head - F) (a - F) _ 0 o, ← in-derived F ls a h) (all a h k)
      ])

-- and after a whole pass
pass-walked : {P : Program} → Known P → (rs : List Rule) → ((r : Rule) → Memᴰ r rs → Memᴰ r P.rules) →
    (ls : List ℕ) → length ls ≡ length P.layers → AllWalked P ls → AllWalked P (pass (length P.facts) rs ls)
unfolding pass
pass-walked known [] s ls z all = all
pass-walked {P} known (r ∷ rs) s ls z all =
    pass-walked known rs (λ q m. s q (Memᴰ.tail m)) (raised (length P.facts) r ls) (length-set ls _ _ ∙ z)
    (raised-walked known ls all z r (s r (Memᴰ.head refl)))

-- so after any number of passes
pub passes-walked : {P : Program} → Known P → (n : ℕ) → AllWalked P (passes P n)
unfolding passes
passes-walked {P} known zero a h k = stays (h, k) (omega (arith, start-one P a h k))
passes-walked {P} known (suc n) a h k =
    pass-walked known P.rules (λ r m. m) (passes P n) (passes-length P n) (passes-walked known n) a h k
