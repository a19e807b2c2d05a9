-- What the bench may have in hand after any order of calls.
use Rattle.std.specs.Prelude.{◌≡◌, List, ℕ, ◌-◌, ◌≤◌, take, drop, replicate}
use Rattle.state.specs.Hand.{Lent, Hand, words_in, places_in, room}
use Rattle.calls.specs.Calls.{Calls, Stepped, Ranned}

-- what loading, an update, a closing or a run gave back
abbrev pub back : Stepped → Hand
back u = record { lent = u.lent; state = u.answer.state }

abbrev pub back_from : Ranned → Hand
back_from u = record { lent = u.lent; state = u.answer.state }

-- a question, or a refused loading, hands back what was lent; the bench still has its state
abbrev pub still : Hand → Lent → Hand
still h l = record { lent = l; state = h.state }

-- the same store in other memory, with any N that the nodes in use fit in: "Unused entries among the N are zero", and entries beyond hold
-- anything
pub record Moved (h h₁ : Hand) : Type 0 where
  pub state : h₁.state ≡ h.state
  pub fits_in : h.state.nodes ≤ room h₁
  pub used : take h.state.nodes h₁.lent.nodes ≡ take h.state.nodes h.lent.nodes
  pub unused : drop h.state.nodes (words_in h₁.lent.nodes) ≡ replicate (room h₁ - h.state.nodes) 0
  pub places : places_in h₁.lent.places ≡ places_in h.lent.places

-- "As long as the bench lends the same file and hands back the store and numbers as it got them": what is in hand after any order of calls
-- with the file s. Loading starts from any memory; a refused loading, of any file, leaves the bench its state; every other call, refused
-- or not, gives back what is then in hand. (Reading and reach_layers are lent no store.)
pub data Reached (calls : Calls) (s : List ℕ) : Hand → Type 0 where
  by_load : (l : Lent) → (calls.load s l).answer.refusal ≡ 0 → Reached calls s (back (calls.load s l))
  by_refused_load : {h : Hand} → Reached calls s h → (other : List ℕ) → ((calls.load other h.lent).answer.refusal ≡ 0 → ⊥) →
      Reached calls s (still h (calls.load other h.lent).lent)
  by_update : {h : Hand} → Reached calls s h → (a : ℕ) → Reached calls s (back (calls.update s h a))
  by_close : {h : Hand} → Reached calls s h → Reached calls s (back (calls.close s h))
  by_run : {h : Hand} → Reached calls s h → (budget : ℕ) → Reached calls s (back_from (calls.run s h budget))
  by_weight : {h : Hand} → Reached calls s h → (a : ℕ) (numbers : List ℕ) → Reached calls s (still h (calls.weight s h a numbers).lent)
  by_given : {h : Hand} → Reached calls s h → (a : ℕ) (evidence numbers : List ℕ) →
      Reached calls s (still h (calls.given s h a evidence numbers).lent)
  by_listing : {h : Hand} → Reached calls s h → (a : ℕ) (out : List ℕ) → Reached calls s (still h (calls.listing s h a out).lent)
  by_moving : {h h₁ : Hand} → Reached calls s h → Moved h h₁ → Reached calls s h₁
