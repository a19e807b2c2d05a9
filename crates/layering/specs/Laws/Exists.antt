-- A legal layering exists exactly when there is no chain; the passes then settle on the smallest one, after as many as there are derived
-- atoms.
use Rattle.std.specs.Prelude.{◌≡◌, ◌⊎◌, List, [], ◌∷◌, ℕ, zero, suc, ◌+◌, ◌<◌, length, get_or}
use Rattle.std.proofs.Common.{sym, ◌∙◌, inl, inr, arith, ext_get_or}
use Rattle.std.proofs.Math.Decide.{dec_lt}
use Rattle.meaning.specs.Meaning.{Program, Known}
use Rattle.chains.specs.Layering.{Legal, Smallest, Chain}
use Rattle.chains.specs.Laws.Legal.{links-rise}
use Rattle.chains.specs.Laws.Walk.{Walk, walk-legal}
use Rattle.chains.specs.Laws.Cut.{SomeChain, straight, straight-length}
use Rattle.layering.specs.Rising.{layer_in, passes}
use Rattle.layering.specs.Laws.Pass.{in-fact, in_place}
use Rattle.layering.specs.Laws.Passes.{passes-length, passes-below, passes-asks, walk-passes}
use Rattle.layering.specs.Laws.Walked.{passes-walked}

-- a chain leaves no legal layering: going round it the layer would rise
pub chain-none : (P : Program) (js : List ℕ) → Chain P js → (layer : ℕ → ℕ) → Legal P layer → ⊥
chain-none P [] c layer w = elim c [ ]
chain-none P (j ∷ js) c layer w = omega (arith, links-rise w c)

-- where a pass changes nothing, the layers are the smallest
pub still-smallest : (P : Program) → Known P → (n : ℕ) → passes P (suc n) ≡ passes P n →
    Smallest P (layer_in (length P.facts) (passes P n))
still-smallest P known n same = record {
  legal = record {
    facts = in-fact (length P.facts) (passes P n);
    derived = λ a h k. walk-passes known (Walk.stay h k) n (omega arith);
    plain = λ r m l i e. omega (arith, rw (same, e) at (passes-asks known m i n));
    negated = λ r m l i e. omega (arith, rw (same, e) at (passes-asks known m i n));
  };
  below = λ other w a k. elim (dec_lt a (length P.facts)) [
    | yes h ↦ rw (in-fact (length P.facts) (passes P n) a h) (omega arith)
    | no h ↦ let t = passes-walked known n a (omega arith) k in omega (arith, walk-legal w t.walk, t.enough)
  ];
}

-- a choice at each number below n is one for all
each_or : {A : Type 0} {B : ℕ → Type 0} (n : ℕ) → ((i : ℕ) → i < n → A ⊎ B i) → A ⊎ ((i : ℕ) → i < n → B i)
each_or zero f = inr (λ i h. absurd (omega arith))
each_or {A} {B} (suc n) f = go (each_or n (λ i h. f i (omega arith))) (f n (omega arith))
  where
    go : A ⊎ ((i : ℕ) → i < n → B i) → A ⊎ B n → A ⊎ ((i : ℕ) → i < suc n → B i)
    go (inl a) q = inl a
    go (inr g) (inl a) = inl a
    go (inr g) (inr b) = inr (λ i h. elim (dec_lt i n) [ yes k ↦ g i k | no k ↦ let e : i ≡ n = omega arith in rw e b ])

-- as many passes as there are derived atoms are enough, or there is a chain: a layer that still rises is the weight of a longer walk
pub chain-or-still : (P : Program) → Known P → SomeChain P ⊎ (passes P (suc (length P.layers)) ≡ passes P (length P.layers))
chain-or-still P known = elim (each_or D still) [
  | inl c ↦ inl c
  | inr e ↦
      inr (ext_get_or 0 (passes P (suc D)) (passes P D) (passes-length P (suc D) ∙ sym (passes-length P D))
      (λ i h. e i (omega (arith, passes-length P (suc D)))))
]
  where
    F : ℕ
    F = length P.facts

    D : ℕ
    D = length P.layers

    still : (i : ℕ) → i < D → SomeChain P ⊎ (get_or (passes P (suc D)) i 0 ≡ get_or (passes P D) i 0)
    still i h =
        let t = passes-walked known (suc D) (F + i) (omega arith) (omega arith) in
        elim (straight t.walk) [
          | inl c ↦ inl c
          | inr s ↦
              let high = walk-passes known s.walk D (straight-length known s) in
              inr (omega (arith, t.enough, s.enough, in_place F (passes P (suc D)) i, in_place F (passes P D) i, passes-below P D i))
        ]

-- with no chain, as many passes as there are derived atoms are enough
pub no-chain-still : (P : Program) → Known P → ((js : List ℕ) → Chain P js → ⊥) →
    passes P (suc (length P.layers)) ≡ passes P (length P.layers)
no-chain-still P known free = elim (chain-or-still P known) [ inl c ↦ absurd (free c.0 c.1) | inr e ↦ e ]

-- so with no chain there is a smallest layering
pub legal-exists : (P : Program) → Known P → ((js : List ℕ) → Chain P js → ⊥) → (layer : ℕ → ℕ) × Smallest P layer
legal-exists P known free =
    let D = length P.layers in
    (layer_in (length P.facts) (passes P D), still-smallest P known D (no-chain-still P known free))
