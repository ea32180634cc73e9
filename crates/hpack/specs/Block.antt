-- What a header block means: RFC 7541, 3.
use Rattle.std.specs.Prelude.{◌≡◌, ◌≢◌, ℕ, Bool, true, false, List, [], ◌∷◌, ◌++◌, Option, Some, None, is_some, Result, Ok, Err, nat_lt, if◌then◌else◌}
use Rattle.std.specs.Option.{option_to_list}
use Rattle.hpack.specs.Grammar.{IsForm, Starts}
use Rattle.hpack.specs.Outcome.{◌>>=◌}
use Rattle.hpack.specs.Field.{Line, line, lines_size}
use Rattle.hpack.specs.Table.{Table, entry_at, with_entry, with_limit}
use Rattle.hpack.specs.Representation.{Form, NameForm, indexed, literal, resize, entry, text, representation_at}
use Rattle.hpack.specs.declared.fault.HpackError.{HpackError}
use Rattle.hpack.specs.declared.fault.HpackError.TheVariants as errors
use Rattle.hpack.specs.declared.fault.Fault.{Fault}
use Rattle.hpack.specs.declared.fault.Fault.TheVariants.{LateResize, LargeTable}

-- the name of a literal: that of the entry at an index, or the text itself (6.2)
abbrev pub name_of : Table → NameForm → Result (List ℕ) Fault
name_of t (entry i) = entry_at t i >>= λ f. Ok f.name
name_of t (text bytes) = Ok bytes

-- What a representation does: the field that it gives, if any, and the table after it. A size update
-- comes before all fields (4.2), and asks for no more than `most` octets (6.3).
unfoldable pub step : ℕ → Bool → Table → Form → Result (Option Line × Table) Fault
step most began t (indexed i) = entry_at t i >>= λ f. Ok (Some f, t)
step most began t (literal add name value) =
    name_of t name >>= λ n.
    Ok (Some (line n value), if add then with_entry (line n value) t else t)
step most began t (resize limit) =
    if began then Err LateResize
    else (if nat_lt most limit then Err LargeTable else Ok (None, with_limit limit t))

-- the representation at the front of the octets, and what it does
unfoldable pub step_at : ℕ → Bool → Table → List ℕ → Result (Option Line × Table × List ℕ) Fault
step_at most began t bytes =
    representation_at bytes >>= λ r.
    step most began t r.0 >>= λ s.
    Ok (s.0, s.1, r.1)

-- the fields that representations give in order, and the table after them
unfoldable pub run : ℕ → Bool → Table → List Form → Result (List Line × Table) Fault
run most began t [] = Ok ([], t)
run most began t (r ∷ rs) =
    step most began t r >>= λ s.
    run most (is_some s.0) s.1 rs >>= λ more.
    Ok (option_to_list s.0 ++ more.0, more.1)

-- the octets spell these representations, in order
abbrev pub Spells : List ℕ → List Form → Type 0
Spells bytes [] = bytes ≡ []
Spells bytes (r ∷ rs) = (rest : List ℕ) × Starts IsForm bytes r rest × Spells rest rs

-- from a table on, the block means these fields and leaves that table
pub record Means (most : ℕ) (began : Bool) (before : Table) (block : List ℕ) (fields : List Line) (after : Table) : Type 0 where
  pub forms : List Form
  pub spells : Spells block forms
  pub runs : run most began before forms ≡ Ok (fields, after)

-- a field list that is larger than the limit is not passed on (RFC 9113, 10.5.1)
abbrev pub within : ℕ → List Line → Option (List Line)
within limit fields = if nat_lt limit (lines_size fields) then None else Some fields

-- a field came: before, or among these
abbrev pub begun : Bool → List Line → Bool
begun before [] = before
begun before (f ∷ fs) = true

-- The first fault of a block, from a table on: representations that have none, and then octets with this one. They spell no
-- representation (5, 6), or it may not be there (2.3.3, 4.2, 6.3).
pub record HasFault (most : ℕ) (began : Bool) (before : Table) (block : List ℕ) (f : Fault) : Type 0 where
  pub forms : List Form
  pub front : List ℕ
  pub rest : List ℕ
  pub fields : List Line
  pub after : Table
  pub whole : block ≡ front ++ rest
  pub spells : Spells front forms
  pub runs : run most began before forms ≡ Ok (fields, after)
  pub more : rest ≢ []
  pub fails : step_at most (begun began fields) after rest ≡ Err f

-- a block is refused for its first fault, or because memory ran out
abbrev pub Refuses : HpackError → ℕ → Table → List ℕ → Type 0
Refuses errors.Memory most before block = Unit {0}
Refuses errors.Closed most before block = ⊥
Refuses (errors.Compression f) most before block = HasFault most false before block f
