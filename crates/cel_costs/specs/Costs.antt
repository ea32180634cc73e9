-- The size and the cost of an elaborated expression, from the limits of requests and the sizes of the
-- locals in scope (this project's measure). A size bounds the value, a cost bounds the number of steps.
-- Costs are sums of the instructions' charges at the sizes of their operands, in whole numbers without
-- limit. There is one equation for each kind of node. A loop's body counts once for each element that its
-- range has room for, each time at the size that the accumulator may have reached. Both are meant for
-- well typed expressions only.
use Rattle.std.specs.Prelude.{ℕ, zero, suc, ◌+◌, ◌*◌, max, List, [], ◌∷◌, ◌++◌, length, Option, Some, None}
use Rattle.attributes.specs.Limits.{LimitsValue}
use Rattle.attributes.specs.declared.attribute.AttrId.{AttrId}
use Rattle.cel_value.specs.Masses.{length_of}
use Rattle.cel_value.specs.Texts.{utf8_of}
use Rattle.cel_value.specs.Types.{ValueType, text_type, bytes_type}
use Rattle.cel_value.specs.Values.{CelValue, text, bytes}
use Rattle.cel_overload.specs.declared.overload.Overload.{Overload}
use Rattle.cel_ops.specs.declared.conversion.Conversion.{Conversion}
use Rattle.cel_ops.specs.declared.conversion.Conversion.TheVariants as conversions
use Rattle.cel_ops.specs.declared.operation.Operation.TheVariants as operations
use Rattle.cel_overload.specs.declared.overload.Overload.TheVariants as overloads
use Rattle.cel_types.specs.Elaborated.{TypedTree, typed_constant, typed_local, typed_attribute, typed_field, typed_has, typed_call, typed_list, typed_map, typed_loop, TypedTrees, no_typed, typed, kinds}
use Rattle.cel_types.specs.TypedMeaning.{local_at}
use Rattle.cel_types.specs.declared.typed.Variables.{Variables}
use Rattle.cel_types.specs.declared.typed.Variables.TheVariants as variables
use Rattle.cel_costs.specs.Sizes.{Size, Flat, Text, Many, Table, join, least, mass_of, most_of}

-- ---- sizes

-- the size of a constant: exactly its length, or Flat; no constant is a list or a map
abbrev pub constant_size : CelValue → Size
constant_size (text cs) = Text (length_of (text cs))
constant_size (bytes bs) = Text (length_of (bytes bs))
constant_size _ = Flat

-- the size of an attribute: the greatest within the limits
abbrev pub attribute_size : LimitsValue → AttrId → Size
attribute_size l AttrId.RequestHeaders = Table l.fields (Text l.name) (Text l.value)
attribute_size l AttrId.SourcePort = Flat
attribute_size l AttrId.DestinationPort = Flat
attribute_size l AttrId.ConnectionMtls = Flat
attribute_size l AttrId.ConnectionId = Flat
attribute_size l AttrId.RequestMethod = Text l.method
attribute_size l AttrId.RequestPath = Text l.target
attribute_size l AttrId.RequestUrlPath = Text l.target
attribute_size l AttrId.RequestQuery = Text l.target
attribute_size l AttrId.RequestHost = Text l.value
attribute_size l AttrId.RequestReferer = Text l.value
attribute_size l AttrId.RequestUseragent = Text l.value
attribute_size l AttrId.RequestId = Text l.value
attribute_size l _ = Text l.text

-- the size of a local; Flat if it is not in scope
abbrev pub known : Option Size → Size
known None = Flat
known (Some s) = s

-- the size of the one variable of a loop: of the range's items or keys
abbrev pub element_size : Size → Size
element_size (Many n e) = e
element_size (Table n k v) = k
element_size _ = Flat

-- the size of the first of two variables: of an index or of a key
abbrev pub key_size : Size → Size
key_size (Table n k v) = k
key_size _ = Flat

-- the size of the answer of an index or a Select, and of the second of two variables. It is that of an item or of a
-- map's value
abbrev pub value_size : Size → Size
value_size (Many n e) = e
value_size (Table n k v) = v
value_size _ = Flat

-- the sizes of a loop's variables, the innermost first, by the size of the range
abbrev pub variable_sizes : Variables → Size → List Size
variable_sizes variables.One s = element_size s ∷ []
variable_sizes variables.Two s = value_size s ∷ key_size s ∷ []

-- a size with another number of bytes, items or entries
abbrev pub resized : ℕ → Size → Size
resized n Flat = Flat
resized n (Text m) = Text n
resized n (Many m e) = Many n e
resized n (Table m k v) = Table n k v

-- the size of two texts, bytes or lists joined: both lengths are added
abbrev pub concat_size : Size → Size → Size
concat_size s t = resized (most_of s + most_of t) (join s t)

-- the size of a conversion's answer: Flat for a number, 20 bytes for a number's text, otherwise as many bytes
-- as the operand
abbrev pub conversion_size : Conversion → Size → Size
conversion_size conversions.UintToInt s = Flat
conversion_size conversions.IntToUint s = Flat
conversion_size conversions.IntToText s = Text 20
conversion_size conversions.UintToText s = Text 20
conversion_size conversions.BytesToText s = Text (most_of s)
conversion_size conversions.TextToBytes s = Text (most_of s)

-- the size of a call's answer, by the sizes of its operands
abbrev pub call_size : Overload → List Size → Size
call_size overloads.Conditional (c ∷ a ∷ b ∷ []) = join a b
call_size (overloads.Operate operations.Concat) (s ∷ t ∷ []) = concat_size s t
call_size (overloads.Operate operations.ListIndex) (s ∷ t ∷ []) = value_size s
call_size (overloads.Operate operations.MapIndex) (s ∷ t ∷ []) = value_size s
call_size (overloads.Operate (operations.Convert kind)) (s ∷ []) = conversion_size kind s
call_size _ _ = Flat

-- all these sizes joined
abbrev pub join_all : List Size → Size
join_all [] = Flat
join_all (s ∷ ss) = join s (join_all ss)

-- the keys' sizes, among those of keys and values in turn
abbrev pub keys_of : List Size → List Size
keys_of [] = []
keys_of (k ∷ []) = k ∷ []
keys_of (k ∷ v ∷ ss) = k ∷ keys_of ss

-- the values' sizes, among those of keys and values in turn
abbrev pub values_of : List Size → List Size
values_of [] = []
values_of (k ∷ []) = []
values_of (k ∷ v ∷ ss) = v ∷ values_of ss

-- the size of a list literal: its number of items, and their sizes joined. If it is empty, the least of
-- its type
abbrev pub list_size : ValueType → List Size → Size
list_size t [] = least t
list_size t (s ∷ ss) = Many (length (s ∷ ss)) (join_all (s ∷ ss))

-- the size of a map literal: its number of entries, and the sizes of keys and of values joined. If it is
-- empty, the least of its type
abbrev pub map_size : ValueType → List Size → Size
map_size t [] = least t
map_size t (s ∷ ss) = Table (length (keys_of (s ∷ ss))) (join_all (keys_of (s ∷ ss))) (join_all (values_of (s ∷ ss)))

-- the accumulator's size after so many turns; each turn joins the size before it and the step's
abbrev pub grown : (next : Size → Size) → ℕ → Size → Size
grown next zero s = s
grown next (suc n) s = grown next n (join s (next s))

abbrev mutual
  -- the size of an expression's answer
  pub size_of : TypedTree → LimitsValue → List Size → Size
  size_of (typed_constant t v) l sizes = constant_size v
  size_of (typed_local t outside) l sizes = known (local_at outside sizes)
  size_of (typed_attribute t a) l sizes = attribute_size l a
  size_of (typed_field t on name) l sizes = value_size (size_of on l sizes)
  size_of (typed_has t on name) l sizes = Flat
  size_of (typed_call t o operands) l sizes = call_size o (sizes_of operands l sizes)
  size_of (typed_list t elements) l sizes = list_size t (sizes_of elements l sizes)
  size_of (typed_map t pairs) l sizes = map_size t (sizes_of pairs l sizes)
  size_of (typed_loop t vars range init condition step result) l sizes = size_of result l
      (grown (λ s. size_of step l (variable_sizes vars (size_of range l sizes) ++ s ∷ sizes))
      (most_of (size_of range l sizes)) (size_of init l sizes) ∷ sizes)

  -- the sizes of expressions
  pub sizes_of : TypedTrees → LimitsValue → List Size → List Size
  sizes_of no_typed l sizes = []
  sizes_of (typed e es) l sizes = size_of e l sizes ∷ sizes_of es l sizes

-- ---- costs

-- the sum of costs
abbrev pub total : List ℕ → ℕ
total [] = 0
total (n ∷ ns) = n + total ns

-- the length of a text or bytes, which `size` counts; 0 for other types
abbrev pub counted_cost : ValueType → Size → ℕ
counted_cost text_type s = most_of s
counted_cost bytes_type s = most_of s
counted_cost _ s = 0

-- the greatest charge of a conversion beyond 1
abbrev pub conversion_cost : Conversion → Size → ℕ
conversion_cost conversions.UintToInt s = 0
conversion_cost conversions.IntToUint s = 0
conversion_cost conversions.IntToText s = 20
conversion_cost conversions.UintToText s = 20
conversion_cost conversions.BytesToText s = most_of s
conversion_cost conversions.TextToBytes s = most_of s

-- the greatest charge of a call's instruction, by the types and sizes of its operands
abbrev pub charge_at : Overload → List ValueType → List Size → ℕ
charge_at (overloads.Operate (operations.Compare op)) ts (s ∷ t ∷ []) = 1 + (mass_of s + mass_of t)
charge_at (overloads.Operate (operations.TestText test)) ts (s ∷ t ∷ []) = 1 + (mass_of s + mass_of t)
charge_at (overloads.Operate operations.Concat) ts (s ∷ t ∷ []) = 1 + (most_of s + most_of t)
charge_at (overloads.Operate operations.MapIndex) ts (m ∷ k ∷ []) = 1 + mass_of k * most_of m
charge_at (overloads.Operate operations.InMap) ts (k ∷ m ∷ []) = 1 + mass_of k * most_of m
charge_at (overloads.Operate operations.InList) ts (v ∷ s ∷ []) = 1 + (mass_of s + most_of s * mass_of v)
charge_at (overloads.Operate operations.Size) (t ∷ []) (s ∷ []) = 1 + counted_cost t s
charge_at (overloads.Operate (operations.Convert kind)) ts (s ∷ []) = 1 + conversion_cost kind s
charge_at _ ts sizes = 1

-- the cost of a call: its operands, and its instruction or jumps; of a conditional's branches the greater
-- cost counts
abbrev pub call_cost : Overload → List ValueType → (costs : List ℕ) → List Size → ℕ
call_cost (overloads.Operate operations.And) ts (a ∷ b ∷ []) sizes = a + 1 + b + 1
call_cost (overloads.Operate operations.Or) ts (a ∷ b ∷ []) sizes = a + 1 + b + 1
call_cost overloads.Conditional ts (c ∷ a ∷ b ∷ []) sizes = c + 1 + max a b + 1
call_cost o ts costs sizes = total costs + charge_at o ts sizes

-- the charge of a look-up of a name in a map of this size
abbrev pub field_cost : List ℕ → Size → ℕ
field_cost name s = 1 + (1 + length (utf8_of name)) * most_of s

-- the sum of the masses
abbrev pub masses : List Size → ℕ
masses [] = 0
masses (s ∷ ss) = mass_of s + masses ss

-- the charge of a map literal's instruction: 1, and the sum of its keys' masses times its number of
-- entries
abbrev pub map_cost : List Size → ℕ
map_cost sizes = 1 + masses (keys_of sizes) * length (keys_of sizes)

-- the cost of so many turns, each at the accumulator's size before it
abbrev pub turns_cost : (next : Size → Size) → (turn : Size → ℕ) → ℕ → Size → ℕ
turns_cost next turn zero s = 0
turns_cost next turn (suc n) s = turn s + turns_cost next turn n (join s (next s))

abbrev mutual
  -- the number of steps that an expression takes at most
  pub cost_of : TypedTree → LimitsValue → List Size → ℕ
  cost_of (typed_constant t v) l sizes = 1
  cost_of (typed_local t outside) l sizes = 1
  cost_of (typed_attribute t a) l sizes = 1
  cost_of (typed_field t on name) l sizes = cost_of on l sizes + field_cost name (size_of on l sizes)
  cost_of (typed_has t on name) l sizes = cost_of on l sizes + field_cost name (size_of on l sizes)
  cost_of (typed_call t o operands) l sizes =
      call_cost o (kinds operands) (costs_of operands l sizes) (sizes_of operands l sizes)
  cost_of (typed_list t elements) l sizes =
      total (costs_of elements l sizes) + (1 + length (costs_of elements l sizes))
  cost_of (typed_map t pairs) l sizes =
      total (costs_of pairs l sizes) + map_cost (sizes_of pairs l sizes)
  cost_of (typed_loop t vars range init condition step result) l sizes =
      let n = most_of (size_of range l sizes) in
      let turn_sizes : Size → List Size = λ s. variable_sizes vars (size_of range l sizes) ++ s ∷ sizes in
      let next : Size → Size = λ s. size_of step l (turn_sizes s) in
      cost_of range l sizes + (1 + n) + cost_of init l sizes + 1
      + turns_cost next (λ s. cost_of condition l (turn_sizes s) + cost_of step l (turn_sizes s) + 4)
      n (size_of init l sizes)
      + 1 + cost_of result l (grown next n (size_of init l sizes) ∷ sizes)

  -- the costs of expressions
  pub costs_of : TypedTrees → LimitsValue → List Size → List ℕ
  costs_of no_typed l sizes = []
  costs_of (typed e es) l sizes = cost_of e l sizes ∷ costs_of es l sizes
