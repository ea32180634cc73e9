-- How the code keeps a draft: all its texts are parts of one text, which begins with known names.
use Rattle.std.specs.Prelude.{◌≡◌, ℕ, List, [], ◌∷◌, ◌++◌, codes}
use Rattle.attributes.specs.Draft.{DraftValue}
use Rattle.attributes.specs.Headers.{Entry}
use Rattle.attributes.specs.declared.headers.Field.{Field}
use Rattle.attributes.specs.declared.part.Part.{Part}
use Rattle.attributes.specs.private.Parts.{AreFields, Begins, IsField, IsPart, entries_in, entry_in, part_of}

-- the names of the headers that are no field lines, in a row
abbrev pub own_names : List ℕ
own_names = codes ":authority:method:path:scheme"

-- the entries of the pseudo-headers
abbrev pub own_entries : (method target scheme : List ℕ) → List Entry
own_entries method target scheme =
    (codes ":method", method) ∷ (codes ":path", target) ∷ (codes ":scheme", scheme) ∷ []

-- the draft with these fields, method and target
abbrev pub draft_in : (text : List ℕ) → List Field → (m t : Part) → DraftValue
draft_in text fs m t = record {
  method = part_of text m;
  target = part_of text t;
  entries = entries_in text fs;
}

-- the text begins with the known names, and all parts lie in it
pub record IsDraft (text : List ℕ) (fs : List Field) (m t : Part) : Type 0 where
  pub names : Begins own_names text
  pub fields : AreFields text fs
  pub method : IsPart text m
  pub target : IsPart text t

-- the fields are one more than before, and the last one is this entry
abbrev pub IsAdded : (text : List ℕ) → (before after : List Field) → Entry → Type 0
IsAdded text before after e =
    (f : Field) × (after ≡ before ++ f ∷ []) × IsField text f × (entry_in text f ≡ e)
