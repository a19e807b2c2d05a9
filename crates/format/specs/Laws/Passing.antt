-- What is accepted: a file that has passed every test, and so a file of a legal program with right contents and no byte left over.
-- The tests are put together one by one from the fields of `PassedBy`; those come from what a legal program grants.
use Rattle.std.specs.Prelude.{Ok, ◌≡◌, refl, Bool, true, false, ◌&&◌, eqb, ltb}
use Rattle.std.proofs.Common.{ap, arith, ltb-true, ltb-false}
use mathlib.Core.List.{List, Memᴰ}
use Prim.Native.Nat.{ℕ, zero, suc, ◌+◌, ◌≤◌, ◌<◌}
use Rattle.std.proofs.Math.ListN.{length}
use Rattle.meaning.proofs.Laws.Tests.{length-upto, get_or-upto, mem-upto}
use Rattle.meaning.specs.Meaning.{Literal, Rule, Program, layer_of, atoms}
use Rattle.format.specs.Bytes.{byte, u16}
use Rattle.format.specs.File.{F, D, R, fact_at, layers_at, rules_at, start_of, literal_at, rule_at, decode}
use Rattle.format.specs.Refusals.{
  accepted_of,
  contents_tests,
  offset_tests,
  fact_test,
  layer_test,
  breaks,
  rule_tests,
  file_tests,
  verdict,
  verdict_by,
}
use Rattle.format.specs.Checked.{Answers}
use Rattle.format.specs.Legal.{Legal}
use Rattle.format.specs.Laws.Compared.{alike, at_most, less, positive}
use Rattle.format.specs.Laws.First.{none, pass, go_on, each_none}
use Rattle.format.specs.Passed.{RightContents, PassedRule, PassedBy, Passed, Formed}
use Rattle.format.specs.Laws.Decoded.{decode-facts, decode-layers, decode-rules}

-- ---- a file that has passed every test is accepted

some-positive : (m n : ℕ) → 0 < m + n → (eqb m 0 && eqb n 0) ≡ false
some-positive zero n h = positive {n = n} (omega arith)
some-positive (suc m) n h = ap (λ b. b && eqb n 0) (positive {n = suc m} (omega arith))

rule-passes :
    (layered : Bool) (s : List ℕ) (j : ℕ) → PassedRule s j →
    ((i : ℕ) → i < u16 s (start_of s j + 2) → (layered && breaks (decode s) (u16 s (start_of s j)) (literal_at s (start_of s j) i)) ≡
    false) →
    Answers (rule_tests layered s j) (Ok tt)
unfolding rule_tests start_of
rule-passes layered s j p keeps =
    go_on
    (pass (at_most p.header) (pass (at_most p.body) (pass (at_most p.inside)
    (pass (at_most p.derived) (pass (less p.below) none)))))
    (each_none (u16 s (start_of s j + 2)) _ (λ i q. pass (less (known i q)) (pass (keeps i q) none)))
  where
    known : (i : ℕ) → i < u16 s (start_of s j + 2) → (literal_at s (start_of s j) i).atom < atoms (decode s)
    known i q = rw (decode-facts, decode-layers) (p.known i q)

contents-pass : (s : List ℕ) → RightContents s → Answers (contents_tests s) (Ok tt)
unfolding contents_tests
contents-pass s c =
    pass (alike c.layout) (pass (alike c.entries)
    (pass (alike c.kind_1) (pass (alike c.kind_2) (pass (alike c.kind_3) none))))

offsets-pass : (s : List ℕ) → RightContents s → rules_at s ≤ length s → Answers (offset_tests s) (Ok tt)
unfolding offset_tests
offsets-pass s c h = pass (alike c.offset_1) (pass (alike c.offset_2) (pass (alike c.offset_3) (pass (at_most h) none)))

passes : (layered : Bool) (s : List ℕ) → PassedBy layered s → Answers (file_tests layered s) (Ok tt)
unfolding file_tests
passes layered s p =
    go_on (pass (at_most p.long) (pass (at_most p.short) none))
    (go_on (contents-pass s p.contents)
    (go_on (pass (at_most p.facts) (pass (at_most p.derived) (pass (at_most p.rules) none)))
    (go_on (offsets-pass s p.contents p.fits)
    (go_on (each_none (F s) (fact_test s) (λ i q. pass (some-positive _ _ (p.weights i q)) none))
    (go_on (pass (at_most p.whole) none)
    (go_on (each_none (D s) (layer_test s) (λ i q. pass (positive (p.layers i q)) none))
    (go_on (each_none (R s) (rule_tests layered s) (λ j q. rule-passes layered s j (p.rule j q) (p.keeps j q)))
    (pass (at_most {m = start_of s (R s)} {n = length s} (omega arith)) none))))))))

by-accepted :
    {layered : Bool} {s : List ℕ} → PassedBy layered s → verdict_by layered s ≡ Ok (accepted_of s)
unfolding verdict_by
by-accepted {layered} {s} p = (passes layered s p).answer (Ok (accepted_of s))

-- a file that has passed every test is accepted,
pub passed-accepted : {s : List ℕ} → Passed s → verdict s ≡ Ok (accepted_of s)
unfolding verdict
passed-accepted p = by-accepted p

-- and one that has passed every test but 11 is accepted without it
pub formed-accepted : {s : List ℕ} → Formed s → verdict_by false s ≡ Ok (accepted_of s)
formed-accepted p = by-accepted p

-- ---- and so is the file of a legal program

-- each rule starts after those before it
start-mono : (s : List ℕ) (j k : ℕ) → j ≤ k → start_of s j ≤ start_of s k
unfolding start_of
start-mono s zero zero h = omega arith
start-mono s (suc j) zero h = absurd (omega arith)
start-mono s j (suc k) h = go (ltb k j) refl (start-mono s j k)
  where
    go : (b : Bool) → ltb k j ≡ b → (j ≤ k → start_of s j ≤ start_of s k) → start_of s j ≤ start_of s (suc k)
    go true e r = let d : j ≡ suc k = omega (arith, ltb-true) in omega (arith, ap (start_of s) d)
    go false e r = omega (arith, r (ltb-false k j e))

-- a literal in the order of the layers breaks none
literal-keeps :
    (P : Program) (h : ℕ) (l : Literal) →
    (l.negated ≡ false → layer_of P l.atom ≤ layer_of P h) → (l.negated ≡ true → layer_of P l.atom < layer_of P h) →
    breaks P h l ≡ false
unfolding breaks
literal-keeps P h l f g = go l.negated refl
  where
    go : (b : Bool) → l.negated ≡ b → breaks P h l ≡ false
    go true e = rw (breaks, e) (less (g e))
    go false e = rw (breaks, e) (at_most (f e))

rule-member : (s : List ℕ) (j : ℕ) → j < R s → Memᴰ (rule_at s (start_of s j)) (decode s).rules
unfolding decode
rule-member s j q = mem-upto (R s) (λ i. rule_at s (start_of s i)) j q

literal-member : (s : List ℕ) (at i : ℕ) → i < u16 s (at + 2) → Memᴰ (literal_at s at i) (rule_at s at).body
unfolding rule_at
literal-member s at i q = mem-upto (u16 s (at + 2)) (literal_at s at) i q

module _ (s : List ℕ) (g : Legal (decode s)) where
  fact-legal : (i : ℕ) → i < F s → 0 < (fact_at s i).on + (fact_at s i).off
  unfolding decode
  fact-legal i q = (g.weights (fact_at s i) (mem-upto (F s) (fact_at s) i q)).2

  layer-legal : (i : ℕ) → i < D s → 0 < byte s (layers_at s + i)
  unfolding decode
  layer-legal i q =
      let h : i < length (decode s).layers = rw decode-layers q in
      rw get_or-upto at (g.layered.numbers i h).0

  rule-legal : (j : ℕ) → j < R s → start_of s (suc j) ≤ length s → PassedRule s j
  unfolding rule_at start_of
  rule-legal j q h =
      let at : ℕ = start_of s j in
      let r : Rule = rule_at s at in
      let m = rule-member s j q in
      let head = g.known.heads r m in
      record {
        header = omega arith;
        body = rw length-upto at (g.bodies r m);
        inside = h;
        derived = omega (arith, decode-facts s);
        below = omega (arith, decode-facts s, decode-layers s);
        known = λ i p.
            let atom = g.known.literals r m (literal_at s at i) (literal-member s at i p) in
            omega (arith, decode-facts s, decode-layers s);
      }

  keeps-legal :
      (j : ℕ) → j < R s → (i : ℕ) → i < u16 s (start_of s j + 2) →
      breaks (decode s) (u16 s (start_of s j)) (literal_at s (start_of s j) i) ≡ false
  unfolding rule_at
  keeps-legal j q i p =
      let r : Rule = rule_at s (start_of s j) in
      let m = rule-member s j q in
      let k = literal-member s (start_of s j) i p in
      literal-keeps (decode s) r.head (literal_at s (start_of s j) i) (g.layered.positive r m _ k) (g.layered.negated r m _ k)

  -- a file of a legal program passes, where its contents are right and its rules end where it ends
  pub legal-passed : RightContents s → length s ≤ 65536 → start_of s (R s) ≡ length s → Passed s
  unfolding start_of
  legal-passed c h e =
      let fit : rules_at s ≤ length s = omega (arith, start-mono s 0 (R s) (omega arith)) in
      record {
        long = omega arith;
        short = h;
        contents = c;
        facts = omega (arith, decode-facts s);
        derived = omega (arith, decode-layers s);
        rules = omega (arith, decode-rules s);
        fits = fit;
        weights = fact-legal;
        whole = g.whole;
        layers = layer-legal;
        rule = λ j q. rule-legal j q (omega (arith, start-mono s (suc j) (R s) q));
        ends = e;
        keeps = keeps-legal;
      }
