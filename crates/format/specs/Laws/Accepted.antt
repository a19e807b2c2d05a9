-- What an accepted file grants: what every test of the check asks for, and so that the program it holds is legal.
-- An accepted file has no fault, so each of its tests fails to fail; read as orders of numbers, these are the fields of `PassedBy`.
use Rattle.std.specs.Prelude.{Ok, ◌≡◌, refl, Bool, true, false, ℕ, zero, suc, ◌+◌, ◌≤◌, ◌<◌, eqb, ltb, length, get_or}
use Rattle.std.proofs.Common.{sym, ◌∙◌, arith}
use mathlib.Core.List.{List, [], ◌∷◌, Memᴰ}
use Rattle.std.proofs.Math.ListN.{get_or-eq_default}
use borrow.Author.Tests.{ltb-true, ltb-false, leb-false, eqb-false}
use Rattle.meaning.proofs.Laws.Tests.{length-upto, get_or-upto, mem-of-upto}
use Rattle.meaning.specs.Meaning.{Fact, Literal, Rule, Program, Layered, Known, layer_of, total}
use Rattle.format.specs.Bytes.{Bytes, byte, u16}
use Rattle.format.specs.File.{F, D, R, fact_at, layers_at, rules_at, start_of, literal_at, rule_at, decode}
use Rattle.format.specs.Refusals.{
  Verdict,
  accepted_of,
  Test,
  length_tests,
  contents_tests,
  counts_tests,
  offset_tests,
  fact_test,
  total_tests,
  layer_test,
  breaks,
  literal_tests,
  head_tests,
  each,
  rule_tests,
  file_tests,
  verdict,
  verdict_by,
}
use Rattle.format.specs.Checked.{Answers}
use Rattle.format.specs.declared.Accepted.{Accepted}
use Rattle.format.specs.Passed.{RightContents, PassedRule, PassedBy, Passed, Formed}
use Rattle.format.specs.Legal.{Legal}
use Rattle.format.specs.Laws.Decoded.{decode-facts, decode-layers, decode-rules}
use Rattle.format.specs.Laws.FactsRead.{some-weight}
use Rattle.format.specs.Laws.Compared.{equal}
use Rattle.format.specs.Laws.First.{Clear, accepted, head-passes, append-passes, each-passes}

clear : (ts : List Test) → Answers ts (Ok tt) → Clear ts
clear [] a = tt
clear (t ∷ ts) a = ((head-passes t ts a).0, clear ts (head-passes t ts a).1)

not-zero : (n : ℕ) → eqb n 0 ≡ false → 0 < n
not-zero n e = omega (arith, eqb-false)

-- the parts of a rule's tests, none of which fails
record RuleParts (layered : Bool) (s : List ℕ) (j : ℕ) : Type 0 where
  head : Clear (head_tests s j (start_of s j))
  literals :
      (i : ℕ) → i < u16 s (start_of s j + 2) →
      Clear (literal_tests layered (decode s) j (u16 s (start_of s j)) (literal_at s (start_of s j) i))

rule-parts : (layered : Bool) (s : List ℕ) (j : ℕ) → Answers (rule_tests layered s j) (Ok tt) → RuleParts layered s j
unfolding rule_tests
rule-parts layered s j a =
    let (h, l) = append-passes (head_tests s j (start_of s j)) _ a in
    record { head = clear _ h; literals = λ i q. clear _ (each-passes (u16 s (start_of s j + 2)) _ l i q) }

rule-passed : (layered : Bool) (s : List ℕ) (j : ℕ) → RuleParts layered s j → PassedRule s j
unfolding rule_tests start_of
rule-passed layered s j p = record {
  header = omega (arith, ltb-false);
  body = omega (arith, ltb-false);
  inside = omega (arith, ltb-false);
  derived = omega (arith, ltb-false);
  below = omega (arith, leb-false);
  known = λ i q. let k = (p.literals i q).0 in omega (arith, leb-false, decode-facts s, decode-layers s);
}

-- the parts of the tests of a file, none of which fails
record Parts (layered : Bool) (s : List ℕ) : Type 0 where
  lengths : Clear (length_tests s)
  contents : Clear (contents_tests s)
  counts : Clear (counts_tests s)
  offsets : Clear (offset_tests s)
  facts : (i : ℕ) → i < F s → Clear (fact_test s i)
  totals : Clear (total_tests s)
  layers : (i : ℕ) → i < D s → Clear (layer_test s i)
  rules : (j : ℕ) → j < R s → RuleParts layered s j
  leftover : length s ≤ start_of s (R s)

parts : (layered : Bool) (s : List ℕ) → Answers (file_tests layered s) (Ok tt) → Parts layered s
unfolding file_tests
parts layered s a =
    let (a1, b1) = append-passes (length_tests s) _ a in
    let (a2, b2) = append-passes (contents_tests s) _ b1 in
    let (a3, b3) = append-passes (counts_tests s) _ b2 in
    let (a4, b4) = append-passes (offset_tests s) _ b3 in
    let (a5, b5) = append-passes (each (F s) (fact_test s)) _ b4 in
    let (a6, b6) = append-passes (total_tests s) _ b5 in
    let (a7, b7) = append-passes (each (D s) (layer_test s)) _ b6 in
    let (a8, a9) = append-passes (each (R s) (rule_tests layered s)) _ b7 in
    record {
      lengths = clear _ a1;
      contents = clear _ a2;
      counts = clear _ a3;
      offsets = clear _ a4;
      facts = λ i q. clear _ (each-passes (F s) (fact_test s) a5 i q);
      totals = clear _ a6;
      layers = λ i q. clear _ (each-passes (D s) (layer_test s) a7 i q);
      rules = λ j q. rule-parts layered s j (each-passes (R s) (rule_tests layered s) a8 j q);
      leftover = ltb-false (start_of s (R s)) (length s) (clear _ a9).0;
    }

contents-right : (layered : Bool) (s : List ℕ) → Parts layered s → RightContents s
unfolding file_tests
contents-right layered s p = omega (arith, equal)

-- the rules start within the file
starts : (s : List ℕ) (n : ℕ) → rules_at s ≤ length s → ((j : ℕ) → j < n → PassedRule s j) → (j : ℕ) → j ≤ n → start_of s j ≤ length s
unfolding start_of
starts s n f g zero q = f
starts s n f g (suc j) q = (g j (omega arith)).inside

all-passed : (layered : Bool) (s : List ℕ) → Parts layered s → PassedBy layered s
unfolding file_tests
all-passed layered s p =
    let fit : rules_at s ≤ length s = omega (arith, ltb-false) in
    let rule : (j : ℕ) → j < R s → PassedRule s j = λ j q. rule-passed layered s j (p.rules j q) in
    let last : start_of s (R s) ≤ length s = starts s (R s) fit rule (R s) (omega arith) in
    record {
      long = omega (arith, ltb-false);
      short = omega (arith, ltb-false);
      contents = contents-right layered s p;
      facts = omega (arith, ltb-false);
      derived = omega (arith, ltb-false);
      rules = omega (arith, ltb-false);
      fits = fit;
      weights = λ i q. some-weight _ _ (p.facts i q).0;
      whole = omega (arith, ltb-false);
      layers = λ i q. not-zero _ (p.layers i q).0;
      rule = rule;
      ends = omega arith;
      keeps = λ j q i h. ((p.rules j q).literals i h).1.0;
    }

passed-by : (layered : Bool) (s : List ℕ) {a : Accepted} → verdict_by layered s ≡ Ok a → PassedBy layered s
unfolding verdict_by
passed-by layered s e =
    all-passed layered s (parts layered s (accepted (file_tests layered s) (Ok (accepted_of s)) e))

-- an accepted file has passed every test,
pub passed : (s : List ℕ) {a : Accepted} → verdict s ≡ Ok a → Passed s
unfolding verdict
passed = passed-by true

-- and one accepted without 11 every other
pub formed : (s : List ℕ) {a : Accepted} → verdict_by false s ≡ Ok a → Formed s
formed = passed-by false

-- 11 is one test more
pub passed-formed : {s : List ℕ} → Passed s → Formed s
passed-formed p = record {
  long = p.long;
  short = p.short;
  contents = p.contents;
  facts = p.facts;
  derived = p.derived;
  rules = p.rules;
  fits = p.fits;
  weights = p.weights;
  whole = p.whole;
  layers = p.layers;
  rule = p.rule;
  ends = p.ends;
  keeps = λ j q i h. refl;
}

counts-by :
    (layered : Bool) (s : List ℕ) {a : Accepted} → verdict_by layered s ≡ Ok a →
    (a.facts ≡ F s) × (a.derived ≡ D s) × (a.rules ≡ R s) × (a.total ≡ total (decode s).facts)
unfolding verdict_by
counts-by layered s {a} e =
    let v : Verdict = Ok (accepted_of s) in
    let q : Ok a ≡ v = sym e ∙ (accepted (file_tests layered s) v e).answer v in
    let same : a ≡ accepted_of s = cc in
    (cc, cc, cc, cc)

-- the verdict of an accepted file tells its counts and its total,
pub accepted-counts :
    (s : List ℕ) {a : Accepted} → verdict s ≡ Ok a →
    (a.facts ≡ F s) × (a.derived ≡ D s) × (a.rules ≡ R s) × (a.total ≡ total (decode s).facts)
unfolding verdict
accepted-counts = counts-by true

-- and so does the verdict without 11
pub formed-counts :
    (s : List ℕ) {a : Accepted} → verdict_by false s ≡ Ok a →
    (a.facts ≡ F s) × (a.derived ≡ D s) × (a.rules ≡ R s) × (a.total ≡ total (decode s).facts)
formed-counts = counts-by false

-- ---- the program of an accepted file is legal

-- two bytes make a number below 65,536, past the end too
module _ (s : List ℕ) (b : Bytes s) where
  byte_small : (i : ℕ) → byte s i < 256
  byte_small i = go (ltb i (length s)) refl
    where
      go : (t : Bool) → ltb i (length s) ≡ t → byte s i < 256
      go true e = b i (omega (arith, ltb-true))
      go false e = rw (get_or-eq_default s 0 (ltb-false i (length s) e)) (omega arith)

  u16-small : (i : ℕ) → u16 s i < 65536
  unfolding u16
  u16-small i = omega (arith, byte_small i, byte_small (i + 1))

-- which rule of the file r is, and which of its literals l
record Place (s : List ℕ) (r : Rule) (l : Literal) : Type 0 where
  rule : ℕ
  place : ℕ
  rule_below : rule < R s
  place_below : place < u16 s (start_of s rule + 2)
  rule_is : r ≡ rule_at s (start_of s rule)
  literal_is : l ≡ literal_at s (start_of s rule) place

place_of : (s : List ℕ) {r : Rule} {l : Literal} → Memᴰ r (decode s).rules → Memᴰ l r.body → Place s r l
unfolding decode
place_of s {r} {l} m k =
    let (j, q, e) = mem-of-upto (R s) (λ i. rule_at s (start_of s i)) m in
    let (i, h, d) = mem-of-upto (u16 s (start_of s j + 2)) (literal_at s (start_of s j)) (rw e at k) in
    record { rule = j; place = i; rule_below = q; place_below = h; rule_is = e; literal_is = d }

module _ (P : Program) (h : ℕ) (l : Literal) (e : breaks P h l ≡ false) where
  plain-keeps : l.negated ≡ false → layer_of P l.atom ≤ layer_of P h
  unfolding breaks
  plain-keeps n = ltb-false _ _ (rw n at e)

  negated-keeps : l.negated ≡ true → layer_of P l.atom < layer_of P h
  unfolding breaks
  negated-keeps n = leb-false _ _ (rw n at e)

module _ {s : List ℕ} (p : Formed s) where
  head-known : (r : Rule) → Memᴰ r (decode s).rules → (F s ≤ r.head) × (r.head < F s + D s)
  unfolding decode
  head-known r m = let (j, q, e) = mem-of-upto (R s) (λ i. rule_at s (start_of s i)) m in rw e ((p.rule j q).derived, (p.rule j q).below)

  literal-known : {r : Rule} {l : Literal} → Place s r l → l.atom < F s + D s
  literal-known w = rw w.literal_is ((p.rule w.rule w.rule_below).known w.place w.place_below)

  body-short : (r : Rule) → Memᴰ r (decode s).rules → length r.body ≤ 16
  unfolding decode
  body-short r m =
      let (j, q, e) = mem-of-upto (R s) (λ i. rule_at s (start_of s i)) m in
      rw (e, length-upto) (p.rule j q).body

  -- the atoms of its rules are known, whatever its layers
  pub formed-known : Known (decode s)
  formed-known = record {
    heads = λ r m. rw (decode-facts, decode-layers) (head-known r m);
    literals = λ r m l k. rw (decode-facts, decode-layers) (literal-known (place_of s m k));
  }

module _ (s : List ℕ) (p : Passed s) where
  literal-keeps : {r : Rule} {l : Literal} → Place s r l → breaks (decode s) r.head l ≡ false
  unfolding rule_at
  literal-keeps w = rw (w.rule_is, w.literal_is) (p.keeps w.rule w.rule_below w.place w.place_below)

  module _ (b : Bytes s) where
    weights : (f : Fact) → Memᴰ f (decode s).facts → (f.on < 65536) × (f.off < 65536) × (0 < f.on + f.off)
    unfolding decode
    weights f m =
        let (i, q, e) = mem-of-upto (F s) (fact_at s) m in
        rw e (u16-small s b _, u16-small s b _, p.weights i q)

    layer-number : (i : ℕ) → i < length (decode s).layers → (0 < get_or (decode s).layers i 0) × (get_or (decode s).layers i 0 ≤ 255)
    unfolding decode
    layer-number i h =
        let q : i < D s = omega (arith, decode-layers s) in
        rw get_or-upto (p.layers i q, omega (arith, byte_small s b (layers_at s + i)))

    layered : Layered (decode s)
    layered = record {
      numbers = layer-number;
      positive = λ r m l k. plain-keeps (decode s) r.head l (literal-keeps (place_of s m k));
      negated = λ r m l k. negated-keeps (decode s) r.head l (literal-keeps (place_of s m k));
    }

    legal : Legal (decode s)
    legal = record {
      facts = rw decode-facts p.facts;
      derived = rw decode-layers p.derived;
      rules = rw decode-rules p.rules;
      bodies = body-short (passed-formed p);
      weights = weights;
      whole = p.whole;
      known = formed-known (passed-formed p);
      layered = layered;
    }

-- an accepted file holds a legal program
pub decoded-legal : (s : List ℕ) {a : Accepted} → Bytes s → verdict s ≡ Ok a → Legal (decode s)
decoded-legal s b e = legal s (passed s e) b
