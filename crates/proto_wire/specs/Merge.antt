-- A message in several payloads: Protocol Buffers encoding guide, "Last One Wins" (embedded message
-- fields merge).
use Rattle.std.specs.Prelude.{◌≡◌, ℕ, ◌⊎◌, List, [], ◌∷◌, ◌++◌, map}
use Rattle.std.specs.Borrow.{Bor}
use Rattle.proto_wire.specs.Fields.{Wire, Fields, Broken, IsBroken}
use Rattle.proto_wire.specs.declared.fault.WireError.{WireError}

-- the bytes of each slice
abbrev pub parts_view : List (Bor (List ℕ)) → List (List ℕ)
parts_view slices = map (λ s. s.now) slices

-- the fields of a message in several payloads: those of each payload in order; each payload is a
-- list of whole fields
abbrev pub Merges : List (List ℕ) → List Wire → Type 0
Merges [] fs = fs ≡ []
Merges (part ∷ parts) fs =
    (own others : List Wire) × Fields part own × Merges parts others × (fs ≡ own ++ others)

-- some element has this property
abbrev pub SomeOf : {A : Type 0} → (A → Type 0) → List A → Type 0
SomeOf P [] = ⊥
SomeOf P (x ∷ xs) = P x ⊎ SomeOf P xs

-- some payload of the message is not a list of whole fields
abbrev pub Breaks : List (List ℕ) → Type 0
Breaks parts = SomeOf IsBroken parts

-- the first payload begins with no field, so its fault is found before any field is kept
abbrev pub FirstBreaks : List (List ℕ) → Type 0
FirstBreaks [] = ⊥
FirstBreaks (part ∷ parts) = (e : WireError) × Broken part [] e
