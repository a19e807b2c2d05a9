-- Demand 3: at the finish a listing is that of the choices that hold the branch, whatever was done before. So it is given where that fits
-- in, two of them are the same bytes exactly where the branches hold under the same choices, and it is read as the branch holds.
use Rattle.std.specs.Prelude.{◌≡◌, refl, Bool, true, false, List, ◌++◌, ℕ, ◌≤◌, eqb, length, take, drop}
use Rattle.std.proofs.Common.{sym, ap, ◌∙◌, eqb-true}
use Rattle.std.proofs.Math.Seq.{take-append_seam}
use Rattle.meaning.specs.Meaning.{Program, Layered, atoms, holds}
use Rattle.format.specs.File.{decode}
use Rattle.diagram.specs.Listing.{listing}
use Rattle.diagram.proofs.Laws.Function.{of-only}
use Rattle.update.specs.Update.{Store, diagram_at}
use Rattle.update.specs.Laws.Held.{held-good}
use Rattle.rounds.specs.Layers.{finished_layer}
use Rattle.rounds.specs.Reached as stores
use Rattle.rounds.specs.Laws.Made.{fit-held}
use Rattle.rounds.specs.Laws.Reached.{reached-standing, finished-exact}
use Rattle.questions.specs.Questions.{listed}
use Rattle.questions.proofs.Laws.Listings.{listing-holds, listings-same}
use Rattle.state.specs.Hand.{Hand, store}
use Rattle.calls.specs.Refusals.{first_of, listing_tests}
use Rattle.calls.specs.Calls.{Layering, listing_host, ours}
use Rattle.demands.specs.Demands.{listing_of, written, Canonical}
use Rattle.demands.specs.Laws.Ground.{Ground, ground, finished}
use Rattle.demands.specs.Laws.One.{ours-listing}
use Rattle.demands.specs.Laws.Two.Shares.{early, at_finish}
use Rattle.demands.specs.Laws.Two.Weights.{fit-first}

-- the listing of a finished run is that of the choices that hold the atom, since no other diagram says the same
listed-is : {P : Program} → Layered P → atoms P ≤ 544 → {st : Store} → stores.Reached P finished_layer st → (a : ℕ) →
    listed P st a ≡ listing_of P a
listed-is {P} w few {st} r a =
    ap (listing (length P.facts))
    (of-only (length P.facts) (holds P a) (diagram_at st a) (held-good (fit-held (reached-standing w few r).fit) a)
    (finished-exact w few r a))

module _ {s : List ℕ} {h : Hand} (g : Ground s h) (a : ℕ) (out : List ℕ) where
  abbrev bytes : List ℕ
  bytes = listed (decode s) (store h) a

  refusal_is : (listing_host s h a out).answer.refusal ≡ (first_of (listing_tests s h a out bytes)).0
  refusal_is = (ours-listing s h a out).refuses.number ∙ fit-first g (listing_tests s h a out bytes)

  -- before the finish it is refused with 17 in any case, and then the bytes are those of the meaning
  given_so : (listing_host s h a out).answer.refusal ≡ (first_of (listing_tests s h a out (listing_of (decode s) a))).0
  given_so = refusal_is ∙ go (eqb h.state.layer finished_layer) refl
    where
      go : (b : Bool) → eqb h.state.layer finished_layer ≡ b →
          (first_of (listing_tests s h a out bytes)).0 ≡ (first_of (listing_tests s h a out (listing_of (decode s) a))).0
      go false e = early h.state.layer _ _ e
      go true e = ap (λ l. (first_of (listing_tests s h a out l)).0) (listed-is g.layered g.few (finished g (eqb-true _ _ e)) a)

  module _ (z : (listing_host s h a out).answer.refusal ≡ 0) where
    done-is : h.state.layer ≡ finished_layer
    done-is = at_finish h.state.layer _ (sym refusal_is ∙ z)

    at-end : stores.Reached (decode s) finished_layer (store h)
    at-end = finished g done-is

    written_is : written (listing_host s h a out) ≡ bytes
    written_is =
        let u = (ours-listing s h a out).answered z in
        (λ i. take (u.0 i) (u.1 i)) ∙ ap (λ n. take (length bytes) (bytes ++ drop n out)) u.0 ∙
        take-append_seam bytes (drop (length bytes) out)

pub ours-canonical : {layers : List ℕ → List ℕ → Layering} → Canonical (ours layers)
ours-canonical = record {
  given_when = λ s bytes h r a out. given_so (ground bytes r) a out;
  bytes = λ s bytes h r a out z.
      let g : Ground s h = ground bytes r in
      written_is g a out z ∙ listed-is g.layered g.few (at-end g a out z) a;
  same = λ s t bytes more h i r q size a b out rest z y.
      let g : Ground s h = ground bytes r in
      let k : Ground t i = ground more q in
      rw (written_is g a out z, written_is k b rest y)
      (listings-same g.layered g.few k.layered k.few size (at-end g a out z) (at-end k b rest y) a b);
  read = λ s bytes h r a out z c n.
      let g : Ground s h = ground bytes r in
      rw (written_is g a out z) (listing-holds g.layered g.few (at-end g a out z) a c n);
}
