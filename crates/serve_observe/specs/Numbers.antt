-- The numbers of the connections that are open (this project's own; docs/OPERATING.md, "The logs of a server").
use Rattle.std.specs.Prelude.{◌≡◌, ℕ, List, Option, None, get_or, map, option_map}
use Rattle.serve_observe.specs.declared.connections.Connection.{Connection}

-- the number of the connection in each place; none where none is open
abbrev pub numbers : List (Option Connection) → List (Option ℕ)
numbers places = map (option_map (λ c. c.number)) places

-- the number of the connection in a place; none if none is open there, or if there is no such place
abbrev pub number_at : ℕ → List (Option ℕ) → Option ℕ
number_at k found = get_or found k None

-- none is open in any place
abbrev pub AreEmpty : List (Option ℕ) → Type 0
AreEmpty found = (k : ℕ) → number_at k found ≡ None
