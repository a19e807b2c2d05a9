-- What the functions of the search for a chain ask and leave, and those that write one.
use Rattle.std.specs.Prelude.{◌≡◌, cond, ℕ, ◌+◌, ◌*◌, ◌-◌, ◌/◌, ◌%◌, ◌≤◌, ◌<◌, length, get_or, set, drop}
use mathlib.Core.List.{List, ◌++◌, map, flatten, Memᴰ}
use Rattle.meaning.specs.Meaning.{Literal}
use Rattle.format.specs.Encode.{two}
use Rattle.format.specs.File.{F, D, R, start_of, literal, decode}
use Rattle.format.specs.Passed.{Formed}
use Rattle.index.specs.Index.{Index}
use Rattle.index.specs.declared.Rules.{Rules}
use Rattle.chains.specs.Layering.{OnChain, rule_of}
use Rattle.chains.specs.Calls.{Trail, way_to}
use Rattle.chains.specs.declared.search.Search.{Search}
use Rattle.chains.specs.Laws.Cut.{SomeChain}

-- ---- the places reached

-- every place has room in the tables
pub record Room (found : Search) : Type 0 where
  pub queue_long : 1024 ≤ length found.queue
  pub from_long : 1024 ≤ length found.from
  pub by_long : 1024 ≤ length found.by
  pub entry_long : 1024 ≤ length found.entry

-- a search from atom x
pub record Tables (s : List ℕ) (x : ℕ) (found : Search) : Type 0 where
  pub trail : Trail s x found
  pub room : Room found

-- what was reached stays
pub record Grown (found found₁ : Search) : Type 0 where
  pub more : found.count ≤ found₁.count
  pub kept : (i : ℕ) → i < found.count → get_or found₁.queue i 0 ≡ get_or found.queue i 0
  pub still : (p : ℕ) → 0 < get_or found.entry p 0 → 0 < get_or found₁.entry p 0

-- one place more, reached from entry k by a rule
abbrev pub with_place : Search → ℕ → ℕ → ℕ → Search
with_place found place k rule = record {
  queue = set found.queue found.count place;
  from = set found.from found.count k;
  by = set found.by found.count rule;
  entry = set found.entry place (found.count + 1);
  count = found.count + 1;
}

-- the place that a literal leads to from place p
abbrev pub leads : List ℕ → ℕ → Literal → ℕ
leads s p l = 2 * (l.atom - F s) + cond l.negated 1 (p % 2)

-- the places that rule j leads to from place p are reached, but for those of atoms below x
pub record Led (s : List ℕ) (x : ℕ) (found : Search) (p j : ℕ) : Type 0 where
  pub each : (l : Literal) → Memᴰ l (rule_of (decode s) j).body → x ≤ l.atom → 0 < get_or found.entry (leads s p l) 0

-- so for all rules of its atom
pub record AllLed (s : List ℕ) (x : ℕ) (found : Search) (p : ℕ) : Type 0 where
  pub led : (j : ℕ) → j < R s → (rule_of (decode s) j).head ≡ F s + p / 2 → Led s x found p j

-- ---- the functions of the search

-- there is room for a place, and for the numbers of its entry and rule
pub record AddAsked (place k rule : ℕ) (found : Search) : Type 0 where
  pub room : found.count < 1024
  pub place_low : place < 1024
  pub entry_low : k < 1024
  pub rule_low : rule < 65536

-- a rule of entry k's atom
pub record Going (s : List ℕ) (x rule k : ℕ) (found : Search) : Type 0 where
  pub formed : Formed s
  pub low : F s ≤ x
  pub is_rule : rule < R s
  pub known : k < found.count
  pub head : (rule_of (decode s) rule).head ≡ F s + get_or found.queue k 0 / 2
  pub tables : Tables s x found

-- a literal of its body, as in the file
pub record LeadAsked (s : List ℕ) (lit x rule k : ℕ) (found : Search) : Type 0 where
  pub going : Going s x rule k found
  pub held : Memᴰ (literal lit) (rule_of (decode s) rule).body
  pub known_atom : (literal lit).atom < F s + D s

-- the literal's place is reached, and all that was
pub record LeadDone (s : List ℕ) (lit x k : ℕ) (found found₁ : Search) : Type 0 where
  pub tables : Tables s x found₁
  pub grown : Grown found found₁
  pub led : x ≤ (literal lit).atom → 0 < get_or found₁.entry (leads s (get_or found.queue k 0) (literal lit)) 0

-- all of its body
pub record VisitAsked (s : List ℕ) (at x rule k : ℕ) (found : Search) : Type 0 where
  pub going : Going s x rule k found
  pub start : at ≡ start_of s rule

-- the places of all its literals are reached, and all that were
pub record VisitDone (s : List ℕ) (x rule k : ℕ) (found found₁ : Search) : Type 0 where
  pub tables : Tables s x found₁
  pub grown : Grown found found₁
  pub led : Led s x found₁ (get_or found.queue k 0) rule

-- the rules of a file that has passed its check, 11 left out
pub record Indexed (s : List ℕ) (rules : Rules) : Type 0 where
  pub formed : Formed s
  pub index : Index s rules.starts rules.later rules.first

-- all rules of entry k's atom
pub record ExpandAsked (s : List ℕ) (rules : Rules) (x k : ℕ) (found : Search) : Type 0 where
  pub indexed : Indexed s rules
  pub low : F s ≤ x
  pub known : k < found.count
  pub tables : Tables s x found

-- the places of all its rules' literals are reached, and all that were
pub record ExpandDone (s : List ℕ) (x k : ℕ) (found found₁ : Search) : Type 0 where
  pub tables : Tables s x found₁
  pub grown : Grown found found₁
  pub all : AllLed s x found₁ (get_or found.queue k 0)

-- a derived atom of an indexed file
pub record SearchAsked (s : List ℕ) (rules : Rules) (x : ℕ) : Type 0 where
  pub indexed : Indexed s rules
  pub low : F s ≤ x
  pub high : x < F s + D s

-- every place reached leads only to places reached
pub record SearchDone (s : List ℕ) (x : ℕ) (found : Search) : Type 0 where
  pub tables : Tables s x found
  pub closed : (p : ℕ) → p < 2 * D s → 0 < get_or found.entry p 0 → AllLed s x found p

-- an indexed file that has a chain
pub record LowestAsked (s : List ℕ) (rules : Rules) : Type 0 where
  pub indexed : Indexed s rules
  pub some : SomeChain (decode s)

-- atom r was reached again past a negated link, and no lower atom is on a chain
pub record LowestDone (s : List ℕ) (found : Search) (r : ℕ) : Type 0 where
  pub low : F s ≤ r
  pub high : r < F s + D s
  pub tables : Tables s r found
  pub reached : 0 < get_or found.entry (2 * (r - F s) + 1) 0
  pub lowest : (b : ℕ) → OnChain (decode s) b → r ≤ b

-- ---- the functions that write a chain

-- the way back from entry k falls
pub record Falls (from : List ℕ) (k : ℕ) : Type 0 where
  pub few : k < 1024
  pub back : (i : ℕ) → 0 < i → i ≤ k → get_or from i 0 < i

-- so many rules lead to entry k, whatever their numbers
pub record Counted (from : List ℕ) (k r : ℕ) : Type 0 where
  pub count : (by : List ℕ) → r ≡ length (way_to k from by k)

-- a way back that falls, and room for its rules
pub record RulesAsked (found : Search) (out : List ℕ) (k : ℕ) : Type 0 where
  pub falls : Falls found.from k
  pub room : 2048 ≤ length out

-- "a count, then at most 1,023 rule numbers, 2 bytes each"; "Bytes beyond are kept."
pub record RulesDone (found : Search) (out out₁ : List ℕ) (k r : ℕ) : Type 0 where
  pub count : r ≡ length (way_to k found.from found.by k)
  pub bytes : out₁ ≡ two r ++ (flatten (map two (way_to k found.from found.by k)) ++ drop (2 + 2 * r) out)
