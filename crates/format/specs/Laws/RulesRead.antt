-- The layers and the rules of a file as the check reads them: refusals 7 to 11.
-- Each lemma says of one branch of the code which tests it has passed, or which fault it has met.
use Rattle.std.specs.Prelude.{
  Result,
  Ok,
  Err,
  ⊤,
  ◌≡◌,
  refl,
  Bool,
  true,
  false,
  ◌&&◌,
  cond,
  List,
  ◌++◌,
  ℕ,
  suc,
  ◌+◌,
  ◌*◌,
  ◌-◌,
  ◌/◌,
  ◌%◌,
  ◌≤◌,
  ◌<◌,
  eqb,
  leb,
  length,
  take,
  drop,
}
use Rattle.std.proofs.Common.{sym, ◌∙◌, arith, add-one, length-take, length-drop, eq-eqb, ne_eqb, lt-ltb, le-ltb, le-leb, eqb-true}
use Rattle.std.proofs.Math.Path.{ap, ap₂, subst}
use Rattle.std.proofs.Math.Decide.{dec_lt}
use Rattle.std.proofs.Math.Dec.{ltb, leb-suc-suc}
use Rattle.std.proofs.Math.Seq.{get_or-take, get_or-drop}
use Rattle.std.proofs.lemmas.Bool.{lt-leb, eqb-false}
use Rattle.meaning.specs.Meaning.{layer_of, atoms}
use Rattle.format.specs.Bytes.{byte, u16}
use Rattle.format.specs.File.{F, D, R, layers_at, rules_at, after, start_of, literal, literal_at, decode}
use Rattle.format.specs.Refusals.{layer_test, breaks, literal_tests, head_tests, rule_tests, rules_tests, each}
use Rattle.format.specs.Checked.{Answers, HeaderRead, LiteralRead}
use Rattle.format.specs.Laws.Decoded.{decode-atoms}
use Rattle.format.specs.Laws.First.{none, pass, fail, stop, go_on, each_none, each-fault}
use Rattle.format.specs.declared.Refusal.{Refusal}
use Rattle.format.specs.declared.rules.Head.{Head}
use Rattle.format.specs.declared.Refusal.TheVariants.{Layerless, Broken, Unknown, Layers}

-- ---- 7

module _ (s : List ℕ) (i : ℕ) {x : ℕ} (read : x ≡ byte s (layers_at s + i)) where
  pub layer-passes : (x ≡ 0 → ⊥) → Answers (layer_test s i) (Ok tt)
  unfolding layer_test
  layer-passes d = pass (ne_eqb (byte s (layers_at s + i)) 0 (λ e. d (read ∙ e))) none

  pub layer-fails : x ≡ 0 → Answers (layer_test s i) (Err (Layerless (F s + i)))
  unfolding layer_test
  layer-fails z = fail (eq-eqb (byte s (layers_at s + i)) 0 (sym read ∙ z))

-- ---- 10 and 11 of a literal

-- a literal breaks the layers where its atom's layer, and one more if it is negated, is above the head's
breaks-at : (t x n : ℕ) → cond (eqb (n % 2) 1) (leb t x) (ltb t x) ≡ ltb t (x + n % 2)
breaks-at t x n = go (eqb (n % 2) 1) refl
  where
    go : (b : Bool) → eqb (n % 2) 1 ≡ b → cond b (leb t x) (ltb t x) ≡ ltb t (x + n % 2)
    go true e = sym (leb-suc-suc t x) ∙ ap (leb (suc t)) (omega (arith, eqb-true (n % 2) 1 e))
    go false e = ap (ltb t) (omega (arith, eqb-false (n % 2) 1 e))

module _ (layered : Bool) (s : List ℕ) (j top lit : ℕ) where
  -- the atom is unknown,
  pub literal-unknown : F s + D s ≤ lit / 2 → LiteralRead layered s j top lit (Err (Unknown j))
  unfolding literal_tests literal
  literal-unknown h = record { answers = λ p q. fail (le-leb (atoms (decode s)) (lit / 2) (omega (arith, decode-atoms s))) }

  module _ (low : ℕ) (read : low ≡ layer_of (decode s) (lit / 2)) (known : lit / 2 < F s + D s) where
    breaks-read :
        (h : ℕ) → top ≡ layer_of (decode s) h → (layered && breaks (decode s) h (literal lit)) ≡ (layered && ltb top (low + lit % 2))
    unfolding breaks literal
    breaks-read h e =
        ap (λ b. layered && b)
        (breaks-at (layer_of (decode s) h) (layer_of (decode s) (lit / 2)) lit ∙ ap₂ (λ x y. ltb x (y + lit % 2)) (sym e) (sym read))

    is_known : leb (atoms (decode s)) (lit / 2) ≡ false
    is_known = lt-leb (atoms (decode s)) (lit / 2) (omega (arith, decode-atoms s))

    -- or the literal breaks the layers,
    pub literal-breaks : (layered && ltb top (low + lit % 2)) ≡ true → LiteralRead layered s j top lit (Err (Layers j))
    unfolding literal_tests literal
    literal-breaks h = record { answers = λ p q. pass is_known (fail (breaks-read p q ∙ h)) }

    -- or it passes
    pub literal-passes : (layered && ltb top (low + lit % 2)) ≡ false → LiteralRead layered s j top lit (Ok tt)
    unfolding literal_tests literal
    literal-passes h = record { answers = λ p q. pass is_known (pass (breaks-read p q ∙ h) none) }

-- ---- the rules, one after another

-- where rule j starts
pub record Reached (layered : Bool) (s : List ℕ) (j at : ℕ) : Type 0 where
  pub start : at ≡ start_of s j
  pub inside : at ≤ length s
  pub passed : (k : ℕ) → k < j → Answers (rule_tests layered s k) (Ok tt)

module _ (layered : Bool) (s : List ℕ) where
  pub reached-first : rules_at s ≤ length s → {at : ℕ} → at ≡ rules_at s → Reached layered s 0 at
  unfolding start_of
  reached-first h e = record { start = e; inside = omega arith; passed = λ k q. absurd (omega arith) }

  module _ (j at : ℕ) (here : Reached layered s j at) where
    rule-split :
        rule_tests layered s j ≡
        head_tests s j at ++ each (u16 s (at + 2)) (λ i. literal_tests layered (decode s) j (u16 s at) (literal_at s at i))
    unfolding rule_tests
    rule-split = rw here.start

    -- a fault in a rule's header is the file's,
    pub header-stops : j < R s → {w : Refusal} → Answers (head_tests s j at) (Err w) → Answers (rules_tests layered s) (Err w)
    unfolding rules_tests
    header-stops h a = stop _ (each-fault (R s) (rule_tests layered s) j h here.passed (rw rule-split (stop _ a)))

    -- and so is one in a literal,
    pub literal-stops :
        j < R s → Answers (head_tests s j at) (Ok tt) → (i : ℕ) → i < u16 s (at + 2) →
        ((k : ℕ) → k < i → Answers (literal_tests layered (decode s) j (u16 s at) (literal_at s at k)) (Ok tt)) → {w : Refusal} →
        Answers (literal_tests layered (decode s) j (u16 s at) (literal_at s at i)) (Err w) → Answers (rules_tests layered s) (Err w)
    unfolding rules_tests
    literal-stops h b i q r a =
        stop _ (each-fault (R s) (rule_tests layered s) j h here.passed (rw rule-split (go_on b (each-fault (u16 s (at + 2)) _ i q r a))))

    -- and a rule with neither is passed
    pub reached-next :
        Answers (head_tests s j at) (Ok tt) → {end : ℕ} → end ≡ after s at → end ≤ length s →
        ((k : ℕ) → k < u16 s (at + 2) → Answers (literal_tests layered (decode s) j (u16 s at) (literal_at s at k)) (Ok tt)) →
        Reached layered s (j + 1) end
    unfolding start_of
    reached-next b e q r = rw (add-one j) (record {
      start = e ∙ ap (after s) here.start;
      inside = q;
      passed = λ k p. elim (dec_lt k j) [
        | yes l ↦ here.passed k l
        | no l ↦ subst (λ z. Answers (rule_tests layered s z) (Ok tt)) (omega (arith, l)) whole
      ];
    })
      where
        whole : Answers (rule_tests layered s j) (Ok tt)
        whole = rw rule-split (go_on b (each_none (u16 s (at + 2)) _ r))

  -- after the last rule: bytes are left over,
  pub rules-leftover :
      {j at n : ℕ} → Reached layered s j at → j ≡ R s → n ≡ R s → at < length s → Answers (rules_tests layered s) (Err (Broken n))
  unfolding rules_tests
  rules-leftover {j} {at} here e f h =
      let last : Reached layered s (R s) at = rw e at here in
      rw f
      (go_on (each_none (R s) (rule_tests layered s) last.passed)
      (fail (lt-ltb (start_of s (R s)) (length s) (omega (arith, last.start)))))

  -- or none are
  pub rules-end : {j at : ℕ} → Reached layered s j at → j ≡ R s → length s ≤ at → Answers (rules_tests layered s) (Ok tt)
  unfolding rules_tests
  rules-end {j} {at} here e h =
      let last : Reached layered s (R s) at = rw e at here in
      go_on (each_none (R s) (rule_tests layered s) last.passed)
      (pass (le-ltb (start_of s (R s)) (length s) (omega (arith, last.start))) none)

-- ---- a body as a part of the file

module _ (s : List ℕ) (at : ℕ) {end : ℕ} (ends : end ≡ after s at) (present : end ≤ length s) where
  abbrev pub body_bytes : List ℕ
  body_bytes = take (end - (at + 4)) (drop (at + 4) s)

  -- it has two bytes for each literal,
  pub body-length : length body_bytes ≡ 2 * u16 s (at + 2)
  unfolding after
  body-length = simp (length-take, length-drop) (omega arith)

  -- literal i at byte 2 × i
  pub body-literal : (i : ℕ) → i < u16 s (at + 2) → {x : ℕ} → x ≡ u16 body_bytes (2 * i) → literal x ≡ literal_at s at i
  unfolding after literal_at u16
  body-literal i h e =
      ap literal
      (e ∙
      ap₂ (λ a b. a + 256 * b)
      (part-byte (2 * i) (omega arith))
      (part-byte (2 * i + 1) (omega arith) ∙ ap (byte s) (omega arith)))
    where
      part-byte : (k : ℕ) → k < end - (at + 4) → byte body_bytes k ≡ byte s (at + 4 + k)
      part-byte k q = get_or-take (end - (at + 4)) (drop (at + 4) s) k 0 q ∙ get_or-drop (at + 4) s k 0

-- ---- what the calls of `header` and `literal` have answered

-- of the rule at `at`, by the case that was met
module _ (s : List ℕ) (j at : ℕ) where
  pub header_is : {r q : Result Head Refusal} → HeaderRead s j at r → r ≡ q → HeaderRead s j at q
  header_is h e = subst (HeaderRead s j at) e h

-- of literal i of the rule at `at`
pub literal_is :
    (s : List ℕ) (j at : ℕ) {layered : Bool} {top x : ℕ} {r : Result ⊤ Refusal} → LiteralRead layered s j top x r →
    top ≡ layer_of (decode s) (u16 s at) → (i : ℕ) → literal x ≡ literal_at s at i →
    Answers (literal_tests layered (decode s) j (u16 s at) (literal_at s at i)) r
literal_is s j at {layered} {r} h t i l =
    subst (λ y. Answers (literal_tests layered (decode s) j (u16 s at) y) r) l (h.answers (u16 s at) t)
