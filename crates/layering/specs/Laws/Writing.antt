-- The layers copied to the output, where all fit in a byte; else the lowest atom whose layer does not.
use Rattle.std.specs.Prelude.{
  ◌≡◌,
  refl,
  Bool,
  true,
  false,
  cond,
  None,
  Some,
  position,
  nat_lt,
  List,
  ◌++◌,
  ℕ,
  ◌+◌,
  ◌-◌,
  ◌≤◌,
  ◌<◌,
  length,
  get_or,
  set,
  drop,
}
use Rattle.std.proofs.Common.{sym, ap, ◌∙◌, arith, zero-add, add-one, ltb-true, ltb-false, take_all, ext_get_or}
use Rattle.std.proofs.Math.Seq.{paste, paste-zero, paste-suc}
use Rattle.std.proofs.lemmas.List.Quantifiers.{position-Some}
use Rattle.std.proofs.lemmas.List.Sums.{fails_before_first}
use Rattle.std.proofs.lemmas.Option.{none-some}
use Rattle.std.specs.List.{position_or_len}
use Rattle.std.proofs.lemmas.List.Edits.{length-paste}
use Rattle.meaning.specs.Lists.{upto}
use Rattle.meaning.proofs.Laws.Tests.{length-upto, get_or-upto}
use Rattle.format.specs.File.{F, D}
use Rattle.layering.specs.Rising.{layer_in, high_layer}
use Rattle.layering.specs.Calls.{WriteAsked}
use Rattle.layering.specs.Told.{LayersDone, HighDone}
use Rattle.layering.specs.Laws.Pass.{in-derived, in_place}

-- the first k layers stand in the output, and behind them what stood there before
pub record Copied (layers before out : List ℕ) (k : ℕ) : Type 0 where
  pub within : k ≤ length layers
  pub is : out ≡ paste before 0 layers k

-- none is over 255
pub none-high : (layers : List ℕ) → position high_layer layers ≡ None → (i : ℕ) → i < length layers → get_or layers i 0 ≤ 255
none-high layers e i h =
    let past = go (nat_lt first (length layers)) refl e in
    omega (arith, ltb-false 255 (get_or layers i 0) (fails_before_first high_layer layers i 0 (omega arith)))
  where
    first : ℕ
    first = position_or_len high_layer layers

    go : (b : Bool) → nat_lt first (length layers) ≡ b → cond b (Some first) None ≡ None → length layers ≤ first
    go true p e = absurd (none-some first (sym e))
    go false p e = omega (arith, ltb-false first (length layers) p)

module _ {s layers before : List ℕ} (q : WriteAsked s layers before) where
  -- a layer over 255: the lowest such atom
  pub high : {facts i : ℕ} → facts ≡ F s → position high_layer layers ≡ Some i → HighDone s before before (facts + i)
  high {facts} {i} f e =
      let (below, here, others) = position-Some high_layer layers i 0 e in
      record {
        layer = layer_in (F s) layers;
        smallest = q.smallest;
        from = omega arith;
        below = omega (arith, q.size);
        high = rw f (omega (arith, in_place (F s) layers i, ltb-true 255 (get_or layers i 0) here));
        others = λ b l u. rw (in-derived (F s) layers b l) (omega (
          arith,
          ltb-false 255 (get_or layers (b - F s) 0) (others
              (b - F s) (omega arith)),
        ));
        kept = refl;
      }

  few : D s ≤ length before
  few = omega (arith, q.room, q.formed.derived)

  all-layers : layers ≡ upto (D s) (λ i. layer_in (F s) layers (F s + i))
  all-layers =
      let f : ℕ → ℕ = λ i. layer_in (F s) layers (F s + i) in
      ext_get_or 0 layers (upto (D s) f) (q.size ∙ sym (length-upto (D s) f))
      (λ i h. sym (get_or-upto (D s) f 0 i (omega (arith, q.size)) ∙ in_place (F s) layers i))

  -- nothing was copied,
  pub copied-start : Copied layers before before 0
  copied-start = record { is = paste-zero before 0 layers; within = omega arith }

  module _ {out : List ℕ} {k : ℕ} (g : Copied layers before out k) where
    -- the output keeps its length,
    pub copied-length : length out ≡ length before
    copied-length = ap length g.is ∙ length-paste before 0 layers k (omega (arith, q.size, few, g.within)) g.within

    -- then one layer more was,
    pub copied_next : k < length layers → Copied layers before (set out k (get_or layers k 0)) (k + 1)
    copied_next h = record {
      is =
          rw (add-one k, g.is)
          (ap (λ i. set (paste before 0 layers k) i (get_or layers k 0)) (sym (zero-add k)) ∙
          paste-suc before 0 layers k 0 (omega (arith, few, q.size)) h);
      within = omega arith;
    }

    -- and in the end all were
    pub copied-end : k ≡ length layers → position high_layer layers ≡ None → LayersDone s before out
    copied-end h low =
        let e : k ≡ D s = h ∙ q.size in
        record {
          layer = layer_in (F s) layers;
          smallest = q.smallest;
          low = λ a u v. rw (in-derived (F s) layers a u) (none-high layers low (a - F s) (omega (arith, q.size)));
          bytes =
              g.is ∙ rw (zero-add k, e) (ap (λ l. l ++ drop (D s) before) (take_all (D s) layers (omega (arith, q.size)) ∙ all-layers));
        }
