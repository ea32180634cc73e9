-- Why lines have no one value of a name.
use Rattle.std.specs.Prelude.{◌≡◌, ℕ, ◌<◌, List, [], length}
use Rattle.attributes.specs.Headers.{Entry, values_of}
use Rattle.head_map.specs.declared.fact.MapFault.{MapFault}
use Rattle.head_map.specs.declared.fact.MapFault.TheVariants.{Doubled, Missing, Unreadable}

-- there is no value of this name, or there are several
abbrev pub LacksOneValue : List ℕ → List Entry → MapFault → Type 0
LacksOneValue name lines Missing = values_of name lines ≡ []
LacksOneValue name lines Doubled = 1 < length (values_of name lines)
LacksOneValue name lines Unreadable = ⊥
