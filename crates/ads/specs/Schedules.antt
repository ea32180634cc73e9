-- A client and a control plane joined by a stream (this project's own): their steps, the accepted versions and the
-- recorded numbers.
use Rattle.std.specs.Prelude.{◌≡◌, ◌⊎◌, ℕ, ◌≤◌, Bool, true, false, List, [], ◌∷◌, ◌++◌, map, decimal}
use Rattle.std.specs.List.{AllByRecursion}
use Rattle.ads.specs.Config.{ConfigValue}
use Rattle.ads.specs.Answer.{first_request}
use Rattle.ads.specs.Client.{ClientValue, Feeds, IsFrameThen, new_client, stream_down, stream_up}
use Rattle.ads.specs.Control.{ControlValue, ResourceValue, ServesBytes, new_control, stream_lost}

-- both ends, whether a stream is open, and the bytes in flight on it. Also all versions that the client accepted and
-- all numbers that the control plane recorded since the start
pub record Joined : Type 0 where
  pub client : ClientValue
  pub control : ControlValue
  pub is_open : Bool
  pub to_control : List ℕ
  pub to_client : List ℕ
  pub accepted : List (List ℕ)
  pub recorded : List ℕ

-- a new client and a new control plane, without a stream
abbrev pub new_joined : ConfigValue → List (List ResourceValue) → Joined
new_joined c snapshots = record {
  client = new_client c;
  control = new_control snapshots;
  is_open = false;
  to_control = [];
  to_client = [];
  accepted = [];
  recorded = [];
}

-- a stream opens: the client's first request, these bytes, is in flight
abbrev pub opened : Joined → List ℕ → Joined
opened j bytes = record {
  client = stream_up j.client;
  control = j.control;
  is_open = true;
  to_control = bytes;
  to_client = [];
  accepted = j.accepted;
  recorded = j.recorded;
}

-- the client has read some bytes: the others stay in flight, and its replies are added to the bytes in flight to the
-- control plane
abbrev pub client_got : Joined → List ℕ → ClientValue → List ℕ → List (List ℕ) → Joined
client_got j others client replies versions = record {
  client = client;
  control = j.control;
  is_open = true;
  to_control = j.to_control ++ replies;
  to_client = others;
  accepted = j.accepted ++ versions;
  recorded = j.recorded;
}

-- the control plane has read some bytes: the others stay in flight, and its replies are added to the bytes in flight to
-- the client
abbrev pub control_got : Joined → List ℕ → ControlValue → List ℕ → List ℕ → Joined
control_got j others control replies numbers = record {
  client = j.client;
  control = control;
  is_open = true;
  to_control = others;
  to_client = j.to_client ++ replies;
  accepted = j.accepted;
  recorded = j.recorded ++ numbers;
}

-- the stream is lost at both ends, and all bytes in flight are lost with it
abbrev pub lost : Joined → Joined
lost j = record {
  client = stream_down j.client;
  control = stream_lost j.control;
  is_open = false;
  to_control = [];
  to_client = [];
  accepted = j.accepted;
  recorded = j.recorded;
}

-- one step: a stream opens if none is open, the next bytes in flight reach an end, or the stream is lost. A call that
-- fails since it is out of memory changes nothing, and is no step.
pub data Moves (old new : Joined) : Type 0 where
  opens : (bytes : List ℕ) → old.is_open ≡ false
      → IsFrameThen (first_request old.client.config old.client.accepted) bytes []
      → new ≡ opened old bytes → Moves old new
  client_gets : (piece others replies : List ℕ) (is_broken : Bool) (versions : List (List ℕ)) (client : ClientValue)
      → old.is_open ≡ true → old.to_client ≡ piece ++ others
      → Feeds old.client piece replies is_broken versions client
      → new ≡ client_got old others client replies versions → Moves old new
  control_gets : (piece others replies numbers : List ℕ) (is_broken : Bool) (control : ControlValue)
      → old.is_open ≡ true → old.to_control ≡ piece ++ others
      → ServesBytes old.control piece replies is_broken numbers control
      → new ≡ control_got old others control replies numbers → Moves old new
  is_lost : old.is_open ≡ true → new ≡ lost old → Moves old new

-- steps in order, with the state after each of them
abbrev pub Runs : Joined → List Joined → Joined → Type 0
Runs old [] new = new ≡ old
Runs old (next ∷ states) new = Moves old next × Runs next states new

-- the numbers never fall: none is greater than a later one
abbrev pub NeverFalls : List ℕ → Type 0
NeverFalls [] = Unit {0}
NeverFalls (n ∷ ns) = AllByRecursion (λ m. n ≤ m) ns × NeverFalls ns

-- the elements of the first list are among those of the second, in the same order
abbrev pub IsPart : {A : Type 0} → List A → List A → Type 0
IsPart [] ys = Unit {0}
IsPart (x ∷ xs) [] = ⊥
IsPart (x ∷ xs) (y ∷ ys) = ((x ≡ y) × IsPart xs ys) ⊎ IsPart (x ∷ xs) ys

-- the number is the last one of the list
abbrev pub IsLast : ℕ → List ℕ → Type 0
IsLast n ns = (before : List ℕ) × (ns ≡ before ++ n ∷ [])

-- both ends after any steps: the recorded numbers never fall, and are among the accepted versions, in the same order.
-- The client's version is the last recorded number or a later one
pub record AreInStep (j : Joined) : Type 0 where
  pub rises : NeverFalls j.recorded
  pub part : IsPart (map decimal j.recorded) j.accepted
  pub later : (n : ℕ) → IsLast n j.recorded
      → (k : ℕ) × (n ≤ k) × (j.client.accepted.version ≡ decimal k)
