-- A request in the making.
use Rattle.std.specs.Prelude.{ℕ, List, [], ◌∷◌, ◌++◌}
use Rattle.attributes.specs.Headers.{Entry}

-- the method, the target, and the entries of the field lines so far, each under its header's name
pub record DraftValue : Type 0 where
  pub method : List ℕ
  pub target : List ℕ
  pub entries : List Entry

-- a draft of this method and target, without field lines
abbrev pub first_draft : (method target : List ℕ) → DraftValue
first_draft method target = record { method = method; target = target; entries = [] }

-- the draft with more entries after the others
abbrev pub with_entries : DraftValue → List Entry → DraftValue
with_entries d es = record { method = d.method; target = d.target; entries = d.entries ++ es }

-- the draft with one entry more
abbrev pub with_entry : DraftValue → Entry → DraftValue
with_entry d e = with_entries d (e ∷ [])
