-- What is proved, in its plainest form: each line is a part of `demands-ours`. `calls` is what the exported functions do, by their
-- contracts (crates/reach/src/lib.rt); `Reached calls s h` says that h is in hand after any order of calls with the file s.
use Rattle.std.specs.Prelude.{◌≡◌, ◌↔◌, List, map, ℕ, ◌≤◌, ◌<◌, length}
use Rattle.meaning.specs.Meaning.{Choice, layer_of, holds, weight_of, given}
use Rattle.format.specs.Bytes.{Bytes}
use Rattle.format.specs.File.{literal, decode}
use Rattle.diagram.specs.Listing.{reads}
use Rattle.rounds.specs.Layers.{finished_layer}
use Rattle.state.specs.Hand.{Lent, Hand}
use Rattle.calls.specs.Calls.{Calls, Layering, LayersAnswer, ours}
use Rattle.demands.specs.Reached.{back, back_from, Reached}
use Rattle.demands.specs.Demands.{written, Demands}
use Rattle.demands.specs.Laws.Only.{Same, demands-same}
use Rattle.demands.specs.Laws.Ours.{demands-ours}

module _ (layers : List ℕ → List ℕ → Layering) (contract : (s out : List ℕ) → Bytes s → LayersAnswer s out (layers s out))
  where
    abbrev calls : Calls
    calls = ours layers

    -- all three demands
    pub all-demands : Demands calls
    all-demands = demands-ours layers contract

    module _ (s : List ℕ) (bytes : Bytes s) (h : Hand) (reached : Reached calls s h) (a : ℕ) where
      -- at the finish a weight is the summed weight of the choices whose model holds the branch
      pub exact : (numbers : List ℕ) → h.state.layer ≡ finished_layer → (calls.weight s h a numbers).answer.refusal ≡ 0 →
          (calls.weight s h a numbers).answer.weight ≡ weight_of (decode s) a
      exact numbers e z = (all-demands.two.weight s bytes h reached a numbers).exact z e

      -- so is, before the finish, that of a fact and of an atom of a closed layer
      pub settled : (numbers : List ℕ) → layer_of (decode s) a < h.state.layer → (calls.weight s h a numbers).answer.refusal ≡ 0 →
          (calls.weight s h a numbers).answer.weight ≡ weight_of (decode s) a
      settled numbers lt z = (all-demands.two.weight s bytes h reached a numbers).settled z lt

      -- before it the weight shown is never above that
      pub never_above : (numbers : List ℕ) → (calls.weight s h a numbers).answer.refusal ≡ 0 →
          (calls.weight s h a numbers).answer.weight ≤ weight_of (decode s) a
      never_above numbers z = (all-demands.two.weight s bytes h reached a numbers).never_above z

      -- with observations both weights are exact
      pub given-exact : (evidence numbers : List ℕ) → (calls.given s h a evidence numbers).answer.refusal ≡ 0 →
          ((calls.given s h a evidence numbers).answer.both ≡ (given (decode s) a (map literal evidence)).both) ×
          ((calls.given s h a evidence numbers).answer.evidence ≡ (given (decode s) a (map literal evidence)).evidence)
      given-exact evidence numbers z = (all-demands.two.given s bytes h reached a evidence numbers).exact z

      -- read by the published rule, a listing says yes to a choice exactly when the branch holds there
      pub listing-read : (out : List ℕ) → (calls.listing s h a out).answer.refusal ≡ 0 → (c : Choice) →
          length c ≡ length (decode s).facts → reads (written (calls.listing s h a out)) c ≡ holds (decode s) a c
      listing-read out z c n = all-demands.three.read s bytes h reached a out z c n

      -- two listings over equally many facts are the same bytes exactly when the branches hold under the same choices
      pub listings-same : (t : List ℕ) → Bytes t → (g : Hand) → Reached calls t g → length (decode s).facts ≡ length (decode t).facts →
          (b : ℕ) (out more : List ℕ) → (calls.listing s h a out).answer.refusal ≡ 0 → (calls.listing t g b more).answer.refusal ≡ 0 →
          (written (calls.listing s h a out) ≡ written (calls.listing t g b more)) ↔
          ((c : Choice) → length c ≡ length (decode s).facts → holds (decode s) a c ≡ holds (decode t) b c)
      listings-same t more_bytes g r size b out more z y =
          all-demands.three.same s t bytes more_bytes h g reached r size a b out more z y

    module _ (s : List ℕ) (h : Hand) where
      -- a refused call leaves all as it stood: loading, an update, a closing, a run;
      pub refused-load : (l : Lent) → ((calls.load s l).answer.refusal ≡ 0 → ⊥) → (calls.load s l).lent ≡ l
      refused-load l n i = ((all-demands.one.load s l).kept n i).lent

      pub refused-update : (a : ℕ) → ((calls.update s h a).answer.refusal ≡ 0 → ⊥) → back (calls.update s h a) ≡ h
      refused-update a n = (all-demands.one.update s h a).kept n

      pub refused-close : ((calls.close s h).answer.refusal ≡ 0 → ⊥) → back (calls.close s h) ≡ h
      refused-close n = (all-demands.one.close s h).kept n

      pub refused-run : (budget : ℕ) → ((calls.run s h budget).answer.refusal ≡ 0 → ⊥) → back_from (calls.run s h budget) ≡ h
      refused-run budget n = ((all-demands.one.run s h budget).kept n).0

      -- and a question, refused or not, leaves the store as it stood
      pub questions-leave : (a : ℕ) (evidence numbers out : List ℕ) →
          ((calls.weight s h a numbers).lent ≡ h.lent) × ((calls.given s h a evidence numbers).lent ≡ h.lent) ×
          ((calls.listing s h a out).lent ≡ h.lent)
      questions-leave a evidence numbers out = (
        (all-demands.one.weight s h a numbers).store_kept,
        (all-demands.one.given s h a evidence numbers).store_kept,
        (all-demands.one.listing s h a out).store_kept,
      )

-- nothing is left free: calls that meet the demands are ours, every number and every lent entry
pub only-ours : {other : Calls} → Demands other → Same other (ours other.layers)
only-ours {other} d = demands-same d (demands-ours other.layers d.one.layers)
