-- Values of CEL, with no memory in them: CEL language definition, "Values".
use Rattle.std.specs.Prelude.{ℕ, ℤ, Bool, List}
use Rattle.cel_value.specs.declared.error.CelError.{CelError}

-- the key of a map: a bool, an int, a uint or a text
pub data CelKey : Type 0 where
  bool_key : Bool → CelKey
  int_key : ℤ → CelKey
  uint_key : ℕ → CelKey
  text_key : List ℕ → CelKey

mutual
  -- a value: a text is a list of code points, bytes are a list of numbers
  pub data CelValue : Type 0 where
    bool : Bool → CelValue
    int : ℤ → CelValue
    uint : ℕ → CelValue
    text : List ℕ → CelValue
    bytes : List ℕ → CelValue
    list : CelValues → CelValue
    map_of : CelEntries → CelValue

  -- values in order
  pub data CelValues : Type 0 where
    no_items : CelValues
    item : CelValue → CelValues → CelValues

  -- the entries of a map, by ascending key (`IsAscending` of Keys)
  pub data CelEntries : Type 0 where
    no_entries : CelEntries
    entry : CelKey → CelValue → CelEntries → CelEntries

-- the result of an expression: a value, or an error
pub data CelAnswer : Type 0 where
  value : CelValue → CelAnswer
  fails : CelError → CelAnswer

-- a key as a value
abbrev pub value_of_key : CelKey → CelValue
value_of_key (bool_key b) = bool b
value_of_key (int_key i) = int i
value_of_key (uint_key n) = uint n
value_of_key (text_key cs) = text cs
