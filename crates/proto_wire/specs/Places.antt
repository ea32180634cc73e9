-- Where in a message a fault is. Steps through fields lead from a message to a part of it: Protocol
-- Buffers encoding guide, "Message Structure" and "Repeated Elements".
use Rattle.std.specs.Prelude.{◌≡◌, ◌≢◌, ℕ, ◌==◌, ◌%◌, ◌/◌, ◌<◌, ◌≤◌, Bool, true, false, cond, Option, None, Some, List, [], ◌∷◌, length, take, IsSomeAnd}
use Rattle.proto_wire.specs.Fields.{Wire}
use Rattle.proto_wire.specs.Keys.{first_unknown}
use Rattle.proto_wire.specs.Merge.{Merges}
use Rattle.proto_wire.specs.Refusal.{MemoryOr}
use Rattle.proto_wire.specs.declared.key.Key.{Key}
use Rattle.proto_wire.specs.declared.place.Place.{Place}
use Rattle.proto_wire.specs.declared.place.Step.{Step}
use Rattle.proto_wire.specs.declared.placed.Fault.{Fault}
use Rattle.proto_wire.specs.declared.refusal.Refusal.{Refusal}
use Rattle.proto_wire.specs.declared.refusal.Refusal.TheVariants.{UnknownField}

-- ---- paths

-- what a path names at its end: the part to which its steps lead, or a field of that part. A path that was
-- cut short means a part further in
pub data End : Type 0 where
  itself : End
  of_field : ℕ → End
  cut_short : End

-- the field that an end names
abbrev pub named_field : End → Option ℕ
named_field (of_field n) = Some n
named_field end = None

-- whether a path does not lead to the part that has the fault
abbrev pub is_cut_short : End → Bool
is_cut_short cut_short = true
is_cut_short end = false

-- the steps to a part of a message, the outermost first, and what is named there
pub record Path : Type 0 where
  pub steps : List Step
  pub end : End

-- the step in a word: the low eight bits are the field's number, the others its position
abbrev pub step_in : ℕ → Step
step_in word = record { number = word % 256; position = word / 256 }

-- the steps in words; a word of 0 ends them
abbrev pub steps_in : List ℕ → List Step
steps_in [] = []
steps_in (word ∷ words) = cond (word == 0) [] (step_in word ∷ steps_in words)

-- what a number names: 0 the part itself, the number of a field that field; 2^29 is no field's number
abbrev pub end_in : ℕ → End
end_in n = cond (n == 0) itself (cond (n == 536870912) cut_short (of_field n))

-- the path of the code's place
abbrev pub path_of : Place → Path
path_of place = record { steps = steps_in place.steps; end = end_in place.end }

-- the path to the message itself, or to the field of it that the number names
abbrev pub path_at : ℕ → Path
path_at n = record { steps = []; end = end_in n }

-- a place has room for a step with this field and position
abbrev pub HasRoom : ℕ → ℕ → Type 0
HasRoom number position = (0 < number) × (number < 256) × (position < 16777216)

-- the outer path begins with this step, and goes on as the inner one. It has the first six steps; if there
-- is no room for the first, it has none
pub data BeginsWith (number position : ℕ) (inner outer : Path) : Type 0 where
  longer : HasRoom number position → length inner.steps < 6
      → outer ≡ record { steps = record { number = number; position = position } ∷ inner.steps; end = inner.end }
      → BeginsWith number position inner outer
  shortened : HasRoom number position → 6 ≤ length inner.steps
      → outer ≡ record { steps = take 6 (record { number = number; position = position } ∷ inner.steps); end = cut_short }
      → BeginsWith number position inner outer
  emptied : ¬ HasRoom number position → outer ≡ record { steps = []; end = cut_short }
      → BeginsWith number position inner outer

-- ---- faults

-- out of memory, or this fault
abbrev pub FaultOr : (Refusal → Type 0) → Fault → Type 0
FaultOr F fault = MemoryOr F fault.refusal

-- the fault of the message itself, or of the field of it that the number names
abbrev pub IsAt : ℕ → Refusal → Fault → Type 0
IsAt number e fault = (fault.refusal ≡ e) × (path_of fault.place ≡ path_at number)

-- the same fault, of the message that has the inner one in the field of this number at this position
abbrev pub IsInside : ℕ → ℕ → Fault → Fault → Type 0
IsInside number position inner outer = (outer.refusal ≡ inner.refusal)
    × BeginsWith number position (path_of inner.place) (path_of outer.place)

-- the part to which the steps lead has the fault. `Leads` says which part a step leads to, `Has` which faults
-- a part has
abbrev pub FaultAt : {Part : Type 0} → (Part → Step → Part → Type 0) → (Part → Refusal → Type 0)
    → List Step → Part → Refusal → Type 0
FaultAt Leads Has [] p e = Has p e
FaultAt {Part} Leads Has (s ∷ steps) p e = (q : Part) × Leads p s q × FaultAt Leads Has steps q e

-- the first field that has none of the keys is named
abbrev pub NamesUnknown : List Key → List Wire → Fault → Type 0
NamesUnknown keys fs fault = IsSomeAnd (first_unknown keys fs) (λ n. path_of fault.place ≡ path_at n)

-- where the fault of a message is: `UnknownField` names the first such field, any other the message itself
pub data MessagePlace (keys : List Key) (parts : List (List ℕ)) (fault : Fault) : Type 0 where
  whole_message : fault.refusal ≢ UnknownField → path_of fault.place ≡ path_at 0
      → MessagePlace keys parts fault
  unknown_field : (fs : List Wire) → Merges parts fs → fault.refusal ≡ UnknownField
      → NamesUnknown keys fs fault → MessagePlace keys parts fault
