-- What the code's entries of a map from names to payloads mean.
use Rattle.std.specs.Prelude.{ℕ, List}
use Rattle.std.specs.Borrow.{Bor}
use Rattle.smallvec.specs.SmallVec.{SmallVec}
use Rattle.proto_wire.specs.Maps.{Entry, text, entries_view}

-- the names, each with its payloads, in order
abbrev pub names_view : List (Bor (List ℕ) × SmallVec (Bor (List ℕ))) → List (Entry text)
names_view = entries_view text (λ name. name.now)
