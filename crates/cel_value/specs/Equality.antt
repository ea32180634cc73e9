-- Equality of keys and values as a test: CEL language definition, "Equality".
use Rattle.std.specs.Prelude.{Bool, true, false, ◌&&◌, nat_eq}
use Rattle.std.specs.Bool.{beq}
use Rattle.std.specs.Ordering.{int_eq}
use Rattle.std.specs.Cmp.Lexicographic.{pointwise}
use Rattle.cel_value.specs.Values.{CelKey, bool_key, int_key, uint_key, text_key, CelValue, bool, int, uint, text, bytes, list, map_of, CelValues, no_items, item, CelEntries, no_entries, entry}

-- whether two keys are the same
abbrev pub key_eq : CelKey → CelKey → Bool
key_eq (bool_key a) (bool_key b) = beq a b
key_eq (int_key a) (int_key b) = int_eq a b
key_eq (uint_key a) (uint_key b) = nat_eq a b
key_eq (text_key a) (text_key b) = pointwise nat_eq a b
key_eq _ _ = false

abbrev mutual
  -- whether two values are the same
  pub value_eq : CelValue → CelValue → Bool
  value_eq (bool a) (bool b) = beq a b
  value_eq (int a) (int b) = int_eq a b
  value_eq (uint a) (uint b) = nat_eq a b
  value_eq (text a) (text b) = pointwise nat_eq a b
  value_eq (bytes a) (bytes b) = pointwise nat_eq a b
  value_eq (list a) (list b) = values_eq a b
  value_eq (map_of a) (map_of b) = entries_eq a b
  value_eq _ _ = false

  -- whether both have as many values, each the same as the one at its place
  pub values_eq : CelValues → CelValues → Bool
  values_eq no_items no_items = true
  values_eq (item v vs) (item w ws) = value_eq v w && values_eq vs ws
  values_eq _ _ = false

  -- whether both have as many entries, each the same as the one at its place
  pub entries_eq : CelEntries → CelEntries → Bool
  entries_eq no_entries no_entries = true
  entries_eq (entry j v es) (entry k w fs) = key_eq j k && value_eq v w && entries_eq es fs
  entries_eq _ _ = false
