-- The law of the loop: what happened on the wire is what the service was told and what it answered.
use Rattle.std.specs.Prelude.{◌≡◌, ◌<◌, ℕ, Bool, false, List, [], ◌∷◌, ◌++◌, get_or, length}
use Rattle.serve_loop.specs.declared.parties.Parties.{Parties}
use Rattle.serve_loop.specs.declared.stream.Stream.TheVariants.{Place, Updates}
use Rattle.serve_loop.specs.History.{EventValue, accepted, connected, received, closed, drain, Step, event, sent, Turn, took, gave, waiting_at, open_at, is_told, IsOrderly}

-- the steps on the wire that belong to these turns: one for each
abbrev pub wire_of : {F : Type 0} → List (Turn F) → List (Step F)
wire_of [] = []
wire_of (took e effect ∷ turns) = event e ∷ wire_of turns
wire_of (gave s bytes ∷ turns) = sent s bytes ∷ wire_of turns

-- the events that were taken
abbrev pub events_of : {F : Type 0} → List (Turn F) → List (EventValue F)
events_of [] = []
events_of (took e effect ∷ turns) = e ∷ events_of turns
events_of (gave s bytes ∷ turns) = events_of turns

-- the events on the wire
abbrev pub events_on : {F : Type 0} → List (Step F) → List (EventValue F)
events_on [] = []
events_on (event e ∷ wire) = e ∷ events_on wire
events_on (sent s bytes ∷ wire) = events_on wire

-- what is sent on a stream are always the first bytes of those that wait for it
abbrev pub AreSentInOrder : {F : Type 0} → List (Turn F) → Type 0
AreSentInOrder [] = Unit {0}
AreSentInOrder (took e effect ∷ turns) = AreSentInOrder turns
AreSentInOrder (gave s bytes ∷ turns) = ((left : List ℕ) × (waiting_at s turns ≡ bytes ++ left)) × AreSentInOrder turns

-- the histories of a network, of its service and of an observer belong together
pub record Belong {F : Type 0} (wire : List (Step F)) (turns : List (Turn F)) (seen : List (EventValue F)) : Type 0 where
  pub wire_is : wire ≡ wire_of turns
  pub seen_is : seen ≡ events_of turns
  pub in_order : AreSentInOrder turns
  pub orderly : IsOrderly wire

-- each connection was accepted in one of so many places
abbrev pub ArePlaced : {F : Type 0} → ℕ → List (Step F) → Type 0
ArePlaced n [] = Unit {0}
ArePlaced n (event (accepted k facts) ∷ wire) = (k < n) × ArePlaced n wire
ArePlaced n (event connected ∷ wire) = ArePlaced n wire
ArePlaced n (event (received s bytes) ∷ wire) = ArePlaced n wire
ArePlaced n (event (closed s) ∷ wire) = ArePlaced n wire
ArePlaced n (event drain ∷ wire) = ArePlaced n wire
ArePlaced n (sent s bytes ∷ wire) = ArePlaced n wire

-- what is kept of the wire: which places are open, whether the stream of updates is, and whether the server is to end
pub record IsKept {F : Type 0} (wire : List (Step F)) (places : List Bool) (is_up is_ending : Bool) : Type 0 where
  pub open_places : (k : ℕ) → open_at (Place k) wire ≡ get_or places k false
  pub updates : open_at Updates wire ≡ is_up
  pub ending : is_told wire ≡ is_ending
  pub placed : ArePlaced (length places) wire

-- a service after this past, with this setup: these turns, and before them the past; and the same setup
pub record IsAfter {F Setup : Type 0} (past : List (Turn F)) (first : Setup) (turns : List (Turn F)) (setup : Setup) : Type 0 where
  pub more : List (Turn F)
  pub whole : turns ≡ more ++ past
  pub same : setup ≡ first

-- a board goes on: what happened to its service stays, and turns come after it. What the network was opened by stays, and
-- so does what the service is set up with
abbrev pub GoesOn : {F N S O Opening Setup : Type 0} → (N → Opening) → (S → List (Turn F)) → (S → Setup)
    → Parties F N S O → Parties F N S O → Type 0
GoesOn {F} {N} {S} {O} {Opening} {Setup} opening turns setup old new = (past : List (Turn F)) (first : Opening × Setup)
    → IsAfter past first (turns old.service) (opening old.network, setup old.service)
    → IsAfter past first (turns new.service) (opening new.network, setup new.service)
