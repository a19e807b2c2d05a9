-- Pass after pass: the layers after n of them, of which each has changed one, until one does not or there is a chain.
use Rattle.std.specs.Prelude.{◌≡◌, Bool, true, false, List, ℕ, suc, ◌+◌, ◌≤◌, ◌<◌, replicate}
use Rattle.std.proofs.Math.Path.{refl, sym}
use Rattle.std.proofs.Common.{ap, ◌∙◌, ⊎_elim, arith, add-one}
use Rattle.std.proofs.Math.ListN.{length}
use Rattle.std.proofs.lemmas.List.{length-replicate, get_or-replicate}
use Rattle.std.proofs.Math.Seq.{ext_get_or}
use Rattle.format.specs.File.{D, decode}
use Rattle.format.specs.Laws.Decoded.{decode-facts, decode-layers, decode-rules}
use Rattle.layering.specs.Rising.{passes}
use Rattle.layering.specs.Calls.{SettleAsked, Settled}
use Rattle.layering.specs.Inner.{PassAsked, PassDone}
use Rattle.layering.specs.Laws.Exists.{still-smallest, chain-or-still}
use Rattle.format.specs.Laws.Accepted.{formed-known}
use Rattle.layering.specs.Laws.Low.{passes-low}
use Rattle.layering.specs.Laws.Passes.{passes-length}

-- n passes were made, and the last has changed a layer
pub record Settling (s layers : List ℕ) (n : ℕ) : Type 0 where
  pub is : layers ≡ passes (decode s) n
  pub within : n ≤ D s + 1
  pub moved : (m : ℕ) → n ≡ suc m → passes (decode s) (suc m) ≡ passes (decode s) m → ⊥

settling-size : {s layers : List ℕ} {n : ℕ} → Settling s layers n → length layers ≡ D s
settling-size {s} {n = n} g = ap length g.is ∙ passes-length (decode s) n ∙ decode-layers s

module _ {s start : List ℕ} (q : SettleAsked s start) where
  -- none was made,
  pub settling-start : Settling s start 0
  unfolding passes
  settling-start = record {
    is =
        let e : length start ≡ length (decode s).layers = q.size ∙ sym (decode-layers s) in
        ext_get_or 0 start (replicate (length (decode s).layers) 1) (e ∙ sym (length-replicate (length (decode s).layers) 1))
        (λ i h. q.ones i (omega (arith, q.size)) ∙ sym (get_or-replicate {A = ℕ} (length (decode s).layers) i 1 0 (omega arith)));
    within = omega arith;
    moved = λ m e. absurd (omega arith);
  }

  module _ {layers : List ℕ} {n : ℕ} (g : Settling s layers n) where
    -- one more can be made,
    pub settling-more : n ≤ D s → PassAsked s layers
    settling-more h = record {
      formed = q.formed;
      size = settling-size g;
      low = λ i.
          let t = passes-low (decode s) (rw (decode-rules s) q.formed.rules) n i in
          rw g.is (omega (arith, q.formed.derived));
    }

    next-is : {after : List ℕ} {c : Bool} → PassDone s layers after c → after ≡ passes (decode s) (suc n)
    unfolding passes
    next-is d = d.is ∙ rw (decode-facts s, g.is) refl

    -- after which the layers are the smallest, where it changed none,
    pub settling-still : {after : List ℕ} {c : Bool} → PassDone s layers after c → c ≡ false → Settled s after true
    settling-still {after} d e =
        let same : passes (decode s) (suc n) ≡ passes (decode s) n = sym (next-is d) ∙ d.same e ∙ g.is in
        record {
          size = ap length (d.same e) ∙ settling-size g;
          smallest = λ _. rw (d.same e, g.is, ← decode-facts s) (still-smallest (decode s) (formed-known q.formed) n same);
          chain = λ f. let z : ◌≡◌ {A = ℕ} 0 1 = cc in absurd (omega arith);
        }

    -- or it was made too,
    pub settling-next : n ≤ D s → {after : List ℕ} {c : Bool} → PassDone s layers after c → c ≡ true → Settling s after (n + 1)
    settling-next h d e = record {
      is = rw (add-one n) (next-is d);
      within = omega arith;
      moved = λ m f k.
          let here : m ≡ n = omega arith in
          d.moved e (next-is d ∙ rw here at k ∙ sym g.is);
    }

    -- and with one more than there are derived atoms there is a chain
    pub settling-end : D s < n → Settled s layers false
    settling-end h = record {
      size = settling-size g;
      smallest = λ f. let z : ◌≡◌ {A = ℕ} 0 1 = cc in absurd (omega arith);
      chain = λ _.
          let last : n ≡ suc (length (decode s).layers) = omega (arith, decode-layers s, g.within) in
          ⊎_elim (λ c. c) (λ k. absurd (g.moved (length (decode s).layers) last k))
          (chain-or-still (decode s) (formed-known q.formed));
    }
