-- A layering written into a file: the file holds the same facts and rules under the new layers. Where the layering is legal and fits in
-- bytes the file is accepted, and the models, weights and listings are the same for every such layering.
use Rattle.std.specs.Prelude.{Ok, ◌≡◌, refl, Bool, true, false, length, take}
use Rattle.std.proofs.Common.{sym, ◌∙◌, length-take-le, ext_get_or, lt-ltb, le-ltb}
use Rattle.std.proofs.Math.Path.{ap, ap₂}
use mathlib.Core.List.{List, ◌++◌, Memᴰ}
use Prim.Native.Nat.{ℕ, zero, suc, ◌+◌, ◌*◌, ◌-◌, ◌≤◌, ◌<◌}
use native.Mathlib.Omega.{arith}
use Rattle.std.proofs.Math.Decide.{dec_lt}
use Rattle.std.proofs.Math.ListN.{drop, length-append, length-drop, get_or-append}
use Rattle.std.proofs.Math.Seq.{get_or-append-add, get_or-take, get_or-drop}
use Rattle.std.proofs.lemmas.Bool.{lt-leb}
use Rattle.meaning.specs.Lists.{upto}
use Rattle.meaning.specs.Meaning.{Literal, Rule, Program, Choice, Layered, layer_of, total, weigh, holds, weight_of}
use Rattle.meaning.proofs.Laws.Tests.{length-upto, get_or-upto, mem-upto}
use Rattle.meaning.proofs.Laws.Weights.{weigh-same}
use Rattle.format.specs.Bytes.{byte, u16, u32}
use Rattle.format.specs.File.{F, D, R, fact_at, layers_at, rules_at, after, start_of, literal, literal_at, rule_at, decode}
use Rattle.format.specs.Refusals.{accepted_of, breaks, verdict}
use Rattle.format.specs.Laws.Accepted.{formed-known}
use Rattle.format.specs.Passed.{RightContents, PassedRule, Passed, Formed}
use Rattle.format.specs.Laws.Decoded.{decode-facts, decode-layers, fact-is}
use Rattle.format.specs.Laws.Passing.{passed-accepted}
use Rattle.format.specs.Laws.Reading.{Stands, stands-whole, stands-left, stands-right, stands_at, upto-bytes}
use Rattle.diagram.specs.Diagram.{diagram_of}
use Rattle.diagram.specs.Listing.{listing}
use Rattle.diagram.proofs.Laws.Function.{of-good, of-says, of-only}
use Rattle.chains.specs.Layering.{Legal}
use Rattle.layering.specs.Written.{relayered}
use Rattle.layering.specs.Laws.Models.{layers-any}

-- ---- files that differ in their layers alone

-- t has the bytes of s but for those of its layers
record Kept (s t : List ℕ) : Type 0 where
  size : length t ≡ length s
  before : (i : ℕ) → i < layers_at s → byte t i ≡ byte s i
  behind : (i : ℕ) → rules_at s ≤ i → byte t i ≡ byte s i

-- every rule starts behind the layers
start-behind : (s : List ℕ) (j : ℕ) → rules_at s ≤ start_of s j
unfolding start_of
start-behind s zero = omega arith
start-behind s (suc j) = omega (arith, start-behind s j)

module _ {s t : List ℕ} (k : Kept s t) where
  u16-before : (i : ℕ) → i + 1 < layers_at s → u16 t i ≡ u16 s i
  unfolding u16
  u16-before i h = ap₂ (λ a b. a + 256 * b) (k.before i (omega arith)) (k.before (i + 1) h)

  u16-behind : (i : ℕ) → rules_at s ≤ i → u16 t i ≡ u16 s i
  unfolding u16
  u16-behind i h = ap₂ (λ a b. a + 256 * b) (k.behind i h) (k.behind (i + 1) (omega arith))

  u32-before : (i : ℕ) → i + 3 < layers_at s → u32 t i ≡ u32 s i
  unfolding u32
  u32-before i h = ap₂ (λ a b. a + 65536 * b) (u16-before i (omega arith)) (u16-before (i + 2) (omega arith))

  -- the counts are the same,
  same-F : F t ≡ F s
  same-F = u16-before 6 (omega arith)

  same-D : D t ≡ D s
  same-D = u16-before 14 (omega arith)

  same-R : R t ≡ R s
  same-R = u16-before 22 (omega arith)

  -- and so are the contents,
  same-contents : RightContents s → RightContents t
  same-contents c = record {
    layout = u16-before 0 (omega arith) ∙ c.layout;
    entries = u16-before 2 (omega arith) ∙ c.entries;
    kind_1 = u16-before 4 (omega arith) ∙ c.kind_1;
    kind_2 = u16-before 12 (omega arith) ∙ c.kind_2;
    kind_3 = u16-before 20 (omega arith) ∙ c.kind_3;
    offset_1 = u32-before 8 (omega arith) ∙ c.offset_1;
    offset_2 = omega (arith, u32-before 16 (omega arith), c.offset_2, same-F);
    offset_3 = omega (arith, u32-before 24 (omega arith), c.offset_3, same-F, same-D);
  }

  -- the facts,
  same-fact : (i : ℕ) → i < F s → fact_at t i ≡ fact_at s i
  unfolding fact_at
  same-fact i h = λ j. record { on = u16-before (28 + 4 * i) (omega arith) j; off = u16-before (30 + 4 * i) (omega arith) j }

  same_facts : (decode t).facts ≡ (decode s).facts
  same_facts =
      ext_get_or (fact_at s 0) (decode t).facts (decode s).facts (decode-facts t ∙ same-F ∙ sym (decode-facts s)) λ i q.
      let h : i < F s = omega (arith, decode-facts t, same-F) in
      fact-is t (fact_at s 0) i (omega (arith, same-F)) ∙ same-fact i h ∙ sym (fact-is s (fact_at s 0) i h)

  -- the places of the rules,
  same_start : (j : ℕ) → start_of t j ≡ start_of s j
  unfolding start_of
  same_start zero = omega (arith, same-F, same-D)
  same_start (suc j) =
      ap (after t) (same_start j) ∙ ap (λ n. start_of s j + 4 + 2 * n) (u16-behind (start_of s j + 2) (omega (arith, start-behind s j)))

  -- and the rules
  same-literal : (at : ℕ) → rules_at s ≤ at → (i : ℕ) → literal_at t at i ≡ literal_at s at i
  unfolding literal_at
  same-literal at h i = ap literal (u16-behind (at + 4 + 2 * i) (omega arith))

  same-rule : (at : ℕ) → rules_at s ≤ at → rule_at t at ≡ rule_at s at
  unfolding rule_at
  same-rule at h = λ j. record {
    head = u16-behind at h j;
    body = upto (u16-behind (at + 2) (omega arith) j) (λ i. same-literal at h i j);
  }

  same_rules : (decode t).rules ≡ (decode s).rules
  unfolding decode
  same_rules = λ k. upto (same-R k) (λ j. (ap (rule_at t) (same_start j) ∙ same-rule (start_of s j) (start-behind s j)) k)

-- ---- what the file with a layering holds

module _ (s : List ℕ) (layer : ℕ → ℕ) (fits : rules_at s ≤ length s) where
  abbrev front : List ℕ
  front = take (layers_at s) s

  abbrev numbers : List ℕ
  numbers = upto (D s) (λ i. layer (F s + i))

  front_length : length front ≡ layers_at s
  front_length = length-take-le (layers_at s) s (omega arith)

  numbers-length : length numbers ≡ D s
  numbers-length = length-upto (D s) (λ i. layer (F s + i))

  relayered-kept : Kept s (relayered s layer)
  unfolding relayered
  relayered-kept = record {
    size = rw (length-append, length-append, length-drop, front_length, numbers-length) (omega arith);
    before = λ i h. get_or-append front _ 0 i (omega (arith, front_length)) ∙ get_or-take (layers_at s) s i 0 h;
    behind = λ i h.
        ap (byte (relayered s layer)) (omega (arith, front_length, numbers-length)) ∙
        get_or-append-add front _ (length numbers + (i - rules_at s)) 0 ∙
        get_or-append-add numbers (drop (rules_at s) s) (i - rules_at s) 0 ∙
        get_or-drop (rules_at s) s (i - rules_at s) 0 ∙
        ap (byte s) (omega arith);
  }

  -- the numbers stand where the layers are read
  numbers-stand : Stands (relayered s layer) (layers_at s) numbers
  unfolding relayered
  numbers-stand =
      stands_at (omega (arith, front_length))
      (stands-left numbers (drop (rules_at s) s) (stands-right front (numbers ++ drop (rules_at s) s) (stands-whole (relayered s layer))))

  layers-read : (decode (relayered s layer)).layers ≡ numbers
  unfolding decode
  layers-read =
      ap₂ (λ n f. upto n (λ i. byte (relayered s layer) (28 + 4 * f + i))) (same-D relayered-kept) (same-F relayered-kept) ∙
      ap (λ n. upto n (λ i. byte (relayered s layer) (layers_at s + i))) (sym numbers-length) ∙
      upto-bytes numbers numbers-stand

-- the facts and rules are as before, and the layers are the layering's
pub relayered-decode : {s : List ℕ} → Formed s → (layer : ℕ → ℕ) →
    decode (relayered s layer) ≡
    record { facts = (decode s).facts; layers = upto (D s) (λ i. layer (F s + i)); rules = (decode s).rules }
relayered-decode {s} p layer = λ i. record {
  facts = same_facts (relayered-kept s layer p.fits) i;
  layers = layers-read s layer p.fits i;
  rules = same_rules (relayered-kept s layer p.fits) i;
}

-- ---- with a legal layering that fits in bytes

-- a literal in the order of the layers breaks none
in_order :
    (P : Program) (h : ℕ) (l : Literal) →
    (l.negated ≡ false → layer_of P l.atom ≤ layer_of P h) → (l.negated ≡ true → layer_of P l.atom < layer_of P h) →
    breaks P h l ≡ false
unfolding breaks
in_order P h l f g = go l.negated refl
  where
    go : (b : Bool) → l.negated ≡ b → breaks P h l ≡ false
    go true e = rw (breaks, e) (lt-leb (layer_of P h) (layer_of P l.atom) (g e))
    go false e = rw (breaks, e) (le-ltb (layer_of P h) (layer_of P l.atom) (f e))

-- each derived atom's layer fits in a byte
abbrev pub Low : List ℕ → (ℕ → ℕ) → Type 0
Low s layer = (a : ℕ) → F s ≤ a → a < F s + D s → layer a ≤ 255

module _ {s : List ℕ} (p : Formed s) {layer : ℕ → ℕ} (w : Legal (decode s) layer) (low : Low s layer) where
  -- what is not a layer stands as before
  rest-kept : Kept s (relayered s layer)
  rest-kept = relayered-kept s layer p.fits

  -- an atom's layer is the layering's,
  layer_is : (a : ℕ) → a < F s + D s → layer_of (decode (relayered s layer)) a ≡ layer a
  unfolding layer_of
  layer_is a h = rw (relayered-decode p layer, decode-facts s) (elim (dec_lt a (F s)) [
    | yes f ↦ rw (lt-ltb a (F s) f) (sym (w.facts a (rw decode-facts f)))
    | no f ↦
        let e : F s + (a - F s) ≡ a = omega arith in
        rw (le-ltb a (F s) (omega arith)) (get_or-upto (D s) (λ i. layer (F s + i)) 0 (a - F s) (omega arith) ∙ ap layer e)
  ])

  -- and so is the byte at its place
  number_is : (i : ℕ) → i < D s → byte (relayered s layer) (layers_at s + i) ≡ layer (F s + i)
  number_is i h =
      (numbers-stand s layer p.fits).bytes i (omega (arith, numbers-length s layer p.fits)) ∙
      get_or-upto (D s) (λ j. layer (F s + j)) 0 i h

  low-enough : (i : ℕ) → i < D s → (0 < layer (F s + i)) × (layer (F s + i) ≤ 255)
  low-enough i h =
      let d = w.derived (F s + i) (rw decode-facts (omega arith)) (rw (decode-facts, decode-layers) (omega arith)) in
      (d, low (F s + i) (omega arith) (omega arith))

  known-head : (r : Rule) → Memᴰ r (decode s).rules → r.head < F s + D s
  known-head r m = let h = (formed-known p).heads r m in omega (arith, decode-facts s, decode-layers s)

  known-literal : (r : Rule) → Memᴰ r (decode s).rules → (l : Literal) → Memᴰ l r.body → l.atom < F s + D s
  known-literal r m l i = let h = (formed-known p).literals r m l i in omega (arith, decode-facts s, decode-layers s)

  -- the program is layered by it,
  layered : Layered (decode (relayered s layer))
  layered = record {
    numbers = λ i h.
        let q : i < D s = omega (arith, decode-layers (relayered s layer), same-D rest-kept) in
        rw (layers-read s layer p.fits, get_or-upto (D s) (λ j. layer (F s + j)) 0 i q) (low-enough i q);
    positive = λ r m l i n.
        let m = rw (same_rules rest-kept) at m in
        rw (layer_is l.atom (known-literal r m l i), layer_is r.head (known-head r m)) (w.plain r m l i n);
    negated = λ r m l i n.
        let m = rw (same_rules rest-kept) at m in
        rw (layer_is l.atom (known-literal r m l i), layer_is r.head (known-head r m)) (w.negated r m l i n);
  }

  -- so no literal breaks its layers,
  rule-keeps : (j : ℕ) → j < R (relayered s layer) → (i : ℕ) → i < u16 (relayered s layer) (start_of (relayered s layer) j + 2) →
      breaks (decode (relayered s layer)) (u16 (relayered s layer) (start_of (relayered s layer) j))
      (literal_at (relayered s layer) (start_of (relayered s layer) j) i) ≡ false
  unfolding decode rule_at
  rule-keeps j q i h =
      let t : List ℕ = relayered s layer in
      let r : Rule = rule_at t (start_of t j) in
      let m = mem-upto (R t) (λ k. rule_at t (start_of t k)) j q in
      let n = mem-upto (u16 t (start_of t j + 2)) (literal_at t (start_of t j)) i h in
      in_order (decode t) r.head (literal_at t (start_of t j) i) (layered.positive r m _ n) (layered.negated r m _ n)

  rule-passed : (j : ℕ) → j < R (relayered s layer) → PassedRule (relayered s layer) j
  rule-passed j q =
      let g = p.rule j (omega (arith, same-R rest-kept)) in
      let at = start-behind s j in
      let size = u16-behind rest-kept (start_of s j + 2) (omega arith) in
      record {
        header = omega (arith, rest-kept.size, same_start rest-kept j, g.header);
        body = rw (same_start rest-kept j, size) g.body;
        inside = omega (arith, rest-kept.size, same_start rest-kept (suc j), g.inside);
        derived = rw (same_start rest-kept j, u16-behind rest-kept (start_of s j) at, same-F rest-kept) g.derived;
        below = rw (same_start rest-kept j, u16-behind rest-kept (start_of s j) at, same-F rest-kept, same-D rest-kept) g.below;
        known = λ i h.
            let h : i < u16 s (start_of s j + 2) = rw (same_start rest-kept j, size) at h in
            rw (same_start rest-kept j, same-literal rest-kept (start_of s j) at i, same-F rest-kept, same-D rest-kept) (g.known i h);
      }

  -- and the file with it passes every test
  relayered-passed : Passed (relayered s layer)
  relayered-passed = record {
    long = omega (arith, rest-kept.size, p.long);
    short = omega (arith, rest-kept.size, p.short);
    contents = same-contents rest-kept p.contents;
    facts = omega (arith, same-F rest-kept, p.facts);
    derived = omega (arith, same-D rest-kept, p.derived);
    rules = omega (arith, same-R rest-kept, p.rules);
    fits = omega (arith, rest-kept.size, same-F rest-kept, same-D rest-kept, p.fits);
    weights = λ i q. let h : i < F s = omega (arith, same-F rest-kept) in rw (same-fact rest-kept i h) (p.weights i h);
    whole = rw (same_facts rest-kept) p.whole;
    layers = λ i q.
        let h : i < D s = omega (arith, same-D rest-kept) in
        rw (same-F rest-kept, number_is i h) (low-enough i h).0;
    rule = rule-passed;
    keeps = rule-keeps;
    ends = rw (same-R rest-kept) (omega (arith, rest-kept.size, same_start rest-kept (R s), p.ends));
  }

  -- it is accepted, with the counts and the total of the file without it
  pub relayered-accepted : verdict (relayered s layer) ≡ Ok (accepted_of s)
  relayered-accepted =
      passed-accepted relayered-passed ∙
      λ i. Ok (record {
        facts = same-F rest-kept i;
        derived = same-D rest-kept i;
        rules = same-R rest-kept i;
        total = total (same_facts rest-kept i);
      })

-- ---- with either of two such layerings

module _
    {s : List ℕ} (p : Formed s)
    {layer : ℕ → ℕ} (w : Legal (decode s) layer) (low : Low s layer)
    {other : ℕ → ℕ} (v : Legal (decode s) other) (less : Low s other) where
  -- the same atoms hold,
  pub relayered-same : (a : ℕ) (c : Choice) → length c ≡ F s →
      holds (decode (relayered s layer)) a c ≡ holds (decode (relayered s other)) a c
  relayered-same a c z =
      let k = rest-kept p w low in
      let n = rest-kept p v less in
      layers-any (record {
        same_facts = same_facts k ∙ sym (same_facts n);
        same_rules = same_rules k ∙ sym (same_rules n);
        as_many = decode-layers (relayered s layer) ∙ same-D k ∙ sym (same-D n) ∙ sym (decode-layers (relayered s other));
      }) (layered p w low) (layered p v less) c (z ∙ sym (decode-facts s) ∙ sym (ap length (same_facts k))) a

  -- so each atom weighs the same,
  pub relayered-weight : (a : ℕ) → weight_of (decode (relayered s layer)) a ≡ weight_of (decode (relayered s other)) a
  unfolding weight_of
  relayered-weight a =
      ap (λ fs. weigh fs (holds (decode (relayered s layer)) a)) (same_facts (rest-kept p w low)) ∙
      weigh-same (decode s).facts _ _ (λ c z. relayered-same a c (z ∙ decode-facts s)) ∙
      ap (λ fs. weigh fs (holds (decode (relayered s other)) a)) (sym (same_facts (rest-kept p v less)))

  -- and its listing is the same, byte for byte
  pub relayered-listing : (a : ℕ) →
      listing (F s) (diagram_of (F s) 0 (holds (decode (relayered s layer)) a)) ≡
      listing (F s) (diagram_of (F s) 0 (holds (decode (relayered s other)) a))
  relayered-listing a =
      let f = holds (decode (relayered s layer)) a in
      ap (listing (F s))
      (of-only (F s) _ (diagram_of (F s) 0 f) (of-good (F s) (F s) 0 f (omega arith))
      (λ c z. of-says (F s) f c z ∙ relayered-same a c z))
