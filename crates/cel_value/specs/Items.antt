-- Items of lists, and the keys of maps as items.
use Rattle.std.specs.Prelude.{ℕ, suc, zero, Option, Some, None}
use Rattle.cel_value.specs.Values.{CelValue, CelValues, no_items, item, CelEntries, no_entries, entry, value_of_key}

-- the item at an index, none past the end
abbrev pub item_at : CelValues → ℕ → Option CelValue
item_at no_items i = None
item_at (item v vs) zero = Some v
item_at (item v vs) (suc i) = item_at vs i

-- the items of both, in order
abbrev pub joined_items : CelValues → CelValues → CelValues
joined_items no_items ws = ws
joined_items (item v vs) ws = item v (joined_items vs ws)

-- the keys of entries as values, in the order of the entries
abbrev pub key_items : CelEntries → CelValues
key_items no_entries = no_items
key_items (entry k v es) = item (value_of_key k) (key_items es)
