-- Header field representations: RFC 7541, 6.
use Rattle.std.specs.Prelude.{ℕ, Bool, true, false, List, slice_index, Result, Ok, nat_le, ◌==◌, if◌then◌else◌}
use Rattle.hpack.specs.Outcome.{◌>>=◌}
use Rattle.hpack.specs.Integer.{integer_at}
use Rattle.hpack.specs.Strings.{string_at}
use Rattle.hpack.specs.declared.fault.Fault.{Fault}
use Rattle.hpack.specs.declared.representation.Name.{Name}
use Rattle.hpack.specs.declared.representation.Name.TheVariants as names
use Rattle.hpack.specs.declared.representation.Representation.{Representation}
use Rattle.hpack.specs.declared.representation.Representation.TheVariants as representations

-- a name: that of the entry at an index, or a text
pub data NameForm : Type 0 where
  entry : ℕ → NameForm
  text : List ℕ → NameForm

-- a representation: an index (6.1), a literal that is added to the table or not (6.2), or a change of the table's size
-- (6.3)
pub data Form : Type 0 where
  indexed : ℕ → Form
  literal : Bool → NameForm → List ℕ → Form
  resize : ℕ → Form

-- the name that a name of the code means
abbrev pub name_form : Name → NameForm
name_form (names.Entry i) = entry i
name_form (names.Text t) = text t.items

-- the representation that one of the code means
abbrev pub form_of : Representation → Form
form_of (representations.Indexed i) = indexed i
form_of (representations.Literal add name value) = literal add (name_form name) value.items
form_of (representations.Resize n) = resize n

-- an index whose prefix holds at most `most`; after the index 0 a string
unfoldable pub name_at : ℕ → List ℕ → Result (NameForm × List ℕ) Fault
name_at most bytes =
    integer_at most bytes >>= λ i.
    if i.0 == 0 then (string_at i.1 >>= λ s. Ok (text s.0, s.1)) else Ok (entry i.0, i.1)

-- a name and a value
unfoldable pub literal_at : Bool → ℕ → List ℕ → Result (Form × List ℕ) Fault
literal_at add most bytes =
    name_at most bytes >>= λ name.
    string_at name.1 >>= λ value.
    Ok (literal add name.0 value.0, value.1)

-- the representation at the front, told by the high bits of the first octet, and what follows
unfoldable pub representation_at : List ℕ → Result (Form × List ℕ) Fault
representation_at bytes =
    let first = slice_index bytes 0 in
    if nat_le 128 first then (integer_at 127 bytes >>= λ i. Ok (indexed i.0, i.1))
    else (if nat_le 64 first then literal_at true 63 bytes
    else (if nat_le 32 first then (integer_at 31 bytes >>= λ n. Ok (resize n.0, n.1))
    else literal_at false 15 bytes))
