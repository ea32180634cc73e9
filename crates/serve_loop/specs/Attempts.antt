-- What an attempt at a stream adds to the turns of the service (this project's own).
use Rattle.std.specs.Prelude.{◌≡◌, ◌≤◌, ℕ, Bool, true, false, List, ◌∷◌, length, take, Result, Ok, Err}
use Rattle.serve_loop.specs.declared.attempt.Attempt.{Attempt}
use Rattle.serve_loop.specs.declared.attempt.Attempt.TheVariants as attempts
use Rattle.serve_loop.specs.declared.stream.Stream.{Stream}
use Rattle.serve_loop.specs.History.{EventValue, closed, Effect, answered, no_memory, Turn, took, gave, waiting_at}

-- exactly one turn is added where the service took an event, which is one of these, or ran out of memory at it; else none
abbrev pub Tries : {F : Type 0} → (EventValue F → Type 0) → List (Turn F) → Attempt → List (Turn F) → Type 0
Tries {F} IsOne old (attempts.Taken outcome) new =
    (e : EventValue F) × IsOne e × ((out : List ℕ) × (new ≡ took e (answered out outcome.closes) ∷ old))
Tries {F} IsOne old attempts.Memory new = (e : EventValue F) × IsOne e × (new ≡ took e no_memory ∷ old)
Tries IsOne old attempts.Blocked new = new ≡ old
Tries IsOne old attempts.Interrupted new = new ≡ old
Tries IsOne old attempts.Ended new = new ≡ old
Tries IsOne old attempts.Lost new = new ≡ old

-- a write adds one turn, with so many of the first bytes that waited as the stream took; a write that fails adds none
abbrev pub Writes : {F : Type 0} → Stream → List (Turn F) → Result ℕ Attempt → List (Turn F) → Type 0
Writes s old (Ok count) new = (count ≤ length (waiting_at s old)) × (new ≡ gave s (take count (waiting_at s old)) ∷ old)
Writes s old (Err attempt) new = new ≡ old

-- closing adds one turn if the stream was open, else none
abbrev pub Closes : {F : Type 0} → Stream → Bool → List (Turn F) → List (Turn F) → Type 0
Closes s true old new = (effect : Effect) × (new ≡ took (closed s) effect ∷ old)
Closes s false old new = new ≡ old

-- the service took no event in the attempt
abbrev pub AddsNone : Attempt → Type 0
AddsNone (attempts.Taken outcome) = ⊥
AddsNone attempts.Memory = ⊥
AddsNone attempts.Blocked = Unit {0}
AddsNone attempts.Interrupted = Unit {0}
AddsNone attempts.Ended = Unit {0}
AddsNone attempts.Lost = Unit {0}
