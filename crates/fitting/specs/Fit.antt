-- "A later call's file, store and passed numbers fit together when the file passes 1 to 11, the node count is F to N, facts' nodes and
-- places are as loaded, every node obeys the rules above with its sides numbered below it, unused entries and places are 0, the other
-- places name nodes in use, and the layer in work has atoms or the run is finished." As a test that computes; Laws/Fit says that it is
-- this.
use Rattle.std.specs.Prelude.{Bool, not, ◌&&◌, ◌||◌, List, ℕ, ◌+◌, eqb, ltb, leb, length, get_or, take, drop}
use Rattle.meaning.specs.Lists.{any, all, upto}
use Rattle.meaning.specs.Meaning.{Program, atoms}
use Rattle.format.specs.File.{decode}
use Rattle.format.specs.Refusals.{verdict, passes}
use Rattle.diagram.specs.Listing.{same_node}
use Rattle.diagram.specs.declared.Node.{Node}
use Rattle.store.specs.Store.{nodes_in, nowhere, fact_at}
use Rattle.rounds.specs.Layers.{finished_layer, has_atoms}
use Rattle.rounds.specs.Load.{fact_node}
use Rattle.state.specs.Hand.{Hand, words_in, places_in}

-- ---- the parts of the test

-- every number below n passes
abbrev below : ℕ → (ℕ → Bool) → Bool
below n test = all test (upto n (λ i. i))

-- "facts' nodes and places are as loaded"
unfoldable pub as_loaded : ℕ → List Node → List ℕ → Bool
unfolding all upto same_node
as_loaded F ns places = below F (λ i. same_node (get_or ns i nowhere) (fact_node i)) && below F (λ a. eqb (get_or places a 0) (a + 2))

-- "Facts rise strictly downward, the two sides differ, and no two nodes are equal", "with its sides numbered below it"
unfoldable pub obeys : ℕ → List Node → ℕ → Bool
unfolding any upto same_node fact_at
obeys F ns i =
    ltb (get_or ns i nowhere).fact F &&
    ltb (get_or ns i nowhere).low (i + 2) &&
    ltb (get_or ns i nowhere).high (i + 2) &&
    ltb (get_or ns i nowhere).fact (fact_at F ns (get_or ns i nowhere).low) &&
    ltb (get_or ns i nowhere).fact (fact_at F ns (get_or ns i nowhere).high) &&
    not (eqb (get_or ns i nowhere).low (get_or ns i nowhere).high) &&
    not (any (λ j. same_node (get_or ns j nowhere) (get_or ns i nowhere)) (upto i (λ j. j)))

-- "the other places name nodes in use"
abbrev pub names_in_use : ℕ → List ℕ → Bool
names_in_use count places = all (λ p. ltb p (count + 2)) places

-- ---- the test

unfoldable pub store_fits : Program → List ℕ → List ℕ → ℕ → ℕ → Bool
unfolding as_loaded obeys all upto has_atoms
store_fits P nodes places layer count =
    leb (length P.facts) count && leb count (length nodes) &&
    as_loaded (length P.facts) (nodes_in nodes count) places &&
    below count (obeys (length P.facts) (nodes_in nodes count)) &&
    all (eqb 0) (drop count nodes) && all (eqb 0) (drop (atoms P) places) &&
    names_in_use count (take (atoms P) places) &&
    (eqb layer finished_layer || has_atoms P layer)

unfoldable pub fit_together : List ℕ → Hand → Bool
unfolding verdict store_fits
fit_together s h =
    passes (verdict s) && leb 544 (length h.lent.places) &&
    store_fits (decode s) (words_in h.lent.nodes) (places_in h.lent.places) h.state.layer h.state.nodes
