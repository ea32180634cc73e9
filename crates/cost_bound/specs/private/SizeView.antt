-- The sizes that values of the code mean.
use Rattle.std.specs.Prelude.{◌≡◌, ℕ, zero, suc, List, [], ◌∷◌, map, Option, Some, None}
use Rattle.cel_costs.specs.Costs.{join_all, keys_of, masses, values_of}
use Rattle.cel_costs.specs.Sizes.{Size, Flat, Text, Many, Table, join, least}
use Rattle.cel_value.specs.Types.{type_view}
use Rattle.cost_bound.specs.private.Numbers.{capped}
use Rattle.cost_bound.specs.declared.made.Entries.{Entries}
use Rattle.cost_bound.specs.declared.wider.Wider.{Wider}
use Rattle.cost_bound.specs.declared.wider.Wider.TheVariants as widers
use Rattle.cost_bound.specs.declared.size.ValueSize.{ValueSize, fold-ValueSize}
use Rattle.cost_bound.specs.declared.size.ValueSize.TheOpen.{ValueSize-F, TableParts-F}
use Rattle.cost_bound.specs.declared.variables.VariableSizes.{VariableSizes}

-- the sizes of a map's keys and of its values
pub record PartSizes : Type 0 where
  pub keys : Size
  pub values : Size

-- the least size of keys by their number: of texts, unless it is 0
abbrev pub least_of_keys : ℕ → Size
least_of_keys zero = Flat
least_of_keys (suc n) = Text 0

-- one level of a size, whose inner sizes are already translated
abbrev pub size_level : ValueSize-F Size PartSizes → Size
size_level ValueSize-F.Flat = Flat
size_level (ValueSize-F.Text n) = Text n
size_level (ValueSize-F.Many n e) = Many n e.value
size_level (ValueSize-F.Table n p) = Table n p.value.keys p.value.values
size_level (ValueSize-F.NoItems t) = Many 0 (least (type_view t.value))
size_level (ValueSize-F.NoEntries k t) = Table 0 (least_of_keys k) (least (type_view t.value))

-- one level of a map's parts, whose sizes are already translated
abbrev pub parts_level : TableParts-F Size PartSizes → PartSizes
parts_level p = record { keys = p.keys; values = p.values }

-- the size that a `ValueSize` means
abbrev pub size_view : ValueSize → Size
size_view = fold-ValueSize Size PartSizes size_level parts_level

-- the sizes that `ValueSize`s mean, in order
abbrev pub sizes_view : List ValueSize → List Size
sizes_view ss = map size_view ss

-- the size of the first of two variables, if there are two
abbrev pub key_view : Option ValueSize → List Size
key_view None = []
key_view (Some k) = size_view k ∷ []

-- the sizes of a loop's variables, the innermost first
abbrev pub variables_view : VariableSizes → List Size
variables_view v = size_view v.value ∷ key_view v.key

-- which of two sizes has room for both; if neither has, their join
abbrev pub IsWider : Wider → Size → Size → Type 0
IsWider widers.Both s t = (join s t ≡ s) × (join s t ≡ t)
IsWider widers.Left s t = join s t ≡ s
IsWider widers.Right s t = join s t ≡ t
IsWider (widers.Neither u) s t = size_view u ≡ join s t

-- what was found of a map literal's keys and values, which have these sizes and begin with a key
abbrev pub IsEntries : Entries → List Size → Type 0
IsEntries e ss = (size_view e.keys ≡ join_all (keys_of ss)) × (size_view e.values ≡ join_all (values_of ss))
    × (e.key_mass ≡ capped (masses (keys_of ss))) × (e.value_mass ≡ capped (masses (values_of ss)))
