-- What a reader of frames keeps of a stream, and what each call on it does.
use Rattle.std.specs.Prelude.{◌≡◌, ◌≤◌, ℕ, Option, Some, None, List, [], ◌∷◌, ◌++◌, length}
use Rattle.xds_wire.specs.Frames.{IsBeginning, Tail, unfinished, broken, Cut, error_of}
use Rattle.xds_wire.specs.declared.fault.FrameError.{FrameError}

-- the limit of a message's length, the messages that were not taken yet, and the bytes after them
pub record Kept : Type 0 where
  pub max : ℕ
  pub messages : List (List ℕ)
  pub tail : Tail

-- what a new reader keeps
abbrev pub start : ℕ → Kept
start max = record { max = max; messages = []; tail = unfinished [] }

-- more bytes after a tail: they are cut together with the rest; a broken tail stays broken
abbrev pub Resumes : ℕ → Tail → List ℕ → List (List ℕ) → Tail → Type 0
Resumes max (unfinished rest) bytes messages tail = Cut (rest ++ bytes) max messages tail
Resumes max (broken fault) bytes messages tail = (messages ≡ []) × (tail ≡ broken fault)

-- a call feeds bytes: their messages are added after the kept ones
abbrev pub Feeds : Kept → List ℕ → Kept → Type 0
Feeds old bytes new =
    (messages : List (List ℕ)) × Resumes old.max old.tail bytes messages new.tail
    × (new ≡ record { max = old.max; messages = old.messages ++ messages; tail = new.tail })

-- a call asks for the next message: it gets the first kept one, if there is any
abbrev pub Takes : Kept → Option (List ℕ) → Kept → Type 0
Takes old (Some message) new =
    old ≡ record { max = new.max; messages = message ∷ new.messages; tail = new.tail }
Takes old None new = (old.messages ≡ []) × (new ≡ old)

-- the tail is not broken
abbrev pub IsUnfinished : Tail → Type 0
IsUnfinished (unfinished rest) = Unit {0}
IsUnfinished (broken fault) = ⊥

-- the tail is broken, with this error
abbrev pub IsBrokenBy : Tail → FrameError → Type 0
IsBrokenBy (unfinished rest) e = ⊥
IsBrokenBy (broken fault) e = e ≡ error_of fault

-- with these bytes after the tail, no frame is complete and none is broken
abbrev pub StaysPartial : ℕ → Tail → List ℕ → Type 0
StaysPartial max (unfinished rest) bytes = IsBeginning max (rest ++ bytes)
StaysPartial max (broken fault) bytes = ⊥

-- with these bytes after the tail, at most one frame is complete
abbrev pub CompletesOne : ℕ → Tail → List ℕ → Type 0
CompletesOne max tail bytes =
    (messages : List (List ℕ)) (after : Tail) → Resumes max tail bytes messages after → length messages ≤ 1

-- a call on a reader: it feeds bytes, or asks for the next message, with this answer
pub data Call : Type 0 where
  fed : List ℕ → Call
  taken : Option (List ℕ) → Call

-- the call changes what is kept like this
abbrev pub Steps : Kept → Call → Kept → Type 0
Steps old (fed bytes) new = Feeds old bytes new
Steps old (taken answer) new = Takes old answer new

-- calls in order
abbrev pub Runs : Kept → List Call → Kept → Type 0
Runs old [] new = new ≡ old
Runs old (call ∷ calls) new = (next : Kept) × Steps old call next × Runs next calls new

-- all bytes that the calls fed
abbrev pub bytes_fed : List Call → List ℕ
bytes_fed [] = []
bytes_fed (fed bytes ∷ calls) = bytes ++ bytes_fed calls
bytes_fed (taken answer ∷ calls) = bytes_fed calls

-- all messages that the calls gave
abbrev pub messages_taken : List Call → List (List ℕ)
messages_taken [] = []
messages_taken (fed bytes ∷ calls) = messages_taken calls
messages_taken (taken (Some message) ∷ calls) = message ∷ messages_taken calls
messages_taken (taken None ∷ calls) = messages_taken calls
