-- Legal layerings of a program's rules, the smallest of them, and the chains that leave none (document 02, L4). No search stands here, and
-- of the layers that the program gives only their number plays a part.
use Rattle.std.specs.Prelude.{◌≡◌, Bool, true, false, ◌||◌, ℕ, ◌≤◌, ◌<◌, length, get_or}
use mathlib.Core.List.{List, [], ◌∷◌, Memᴰ}
use Rattle.meaning.specs.Meaning.{Literal, Rule, Program, atoms}

-- ---- layerings

-- facts are layer 0, derived atoms at least 1; a head is at least as high as each plain atom of its body, and higher than each negated one
pub record Legal (P : Program) (layer : ℕ → ℕ) : Type 0 where
  pub facts : (a : ℕ) → a < length P.facts → layer a ≡ 0
  pub derived : (a : ℕ) → length P.facts ≤ a → a < atoms P → 1 ≤ layer a
  pub plain :
      (r : Rule) → Memᴰ r P.rules → (l : Literal) → Memᴰ l r.body → l.negated ≡ false →
      layer l.atom ≤ layer r.head
  pub negated :
      (r : Rule) → Memᴰ r P.rules → (l : Literal) → Memᴰ l r.body → l.negated ≡ true →
      layer l.atom < layer r.head

-- "the smallest layer of every derived atom": below every legal layering at every atom
pub record Smallest (P : Program) (layer : ℕ → ℕ) : Type 0 where
  pub legal : Legal P layer
  pub below : (other : ℕ → ℕ) → Legal P other → (a : ℕ) → a < atoms P → layer a ≤ other a

-- ---- chains

-- rule j, whose number may be past the last
abbrev pub rule_of : Program → ℕ → Rule
rule_of P j = get_or P.rules j (record { head = 0; body = [] })

-- "each body holding the next head, plain or negated": rule j's body holds the head of rule k
pub record Link (P : Program) (j k : ℕ) (negated : Bool) : Type 0 where
  pub from : j < length P.rules
  pub to : k < length P.rules
  pub literal : Literal
  pub held : Memᴰ literal (rule_of P j).body
  pub atom_is : literal.atom ≡ (rule_of P k).head
  pub negated_is : literal.negated ≡ negated

-- links from each of these rules to the next and from the last on to rule k; whether one of them is negated
pub data Links (P : Program) (k : ℕ) : List ℕ → Bool → Type 0 where
  last : {j : ℕ} {b : Bool} → Link P j k b → Links P k (j ∷ []) b
  next : {j i : ℕ} {js : List ℕ} {b c : Bool} → Link P j i b → Links P k (i ∷ js) c → Links P k (j ∷ i ∷ js) (b || c)

-- "a chain of rules, at least one of whose links is a negated literal": from the first rule round to it again
abbrev pub Chain : Program → List ℕ → Type 0
Chain P [] = ⊥
Chain P (j ∷ js) = Links P j (j ∷ js) true

-- "some atom depends on itself through a chain": the first rule's head is the atom
pub record OnChain (P : Program) (a : ℕ) : Type 0 where
  pub first : ℕ
  pub others : List ℕ
  pub chain : Chain P (first ∷ others)
  pub head : (rule_of P first).head ≡ a
