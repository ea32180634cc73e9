-- The instructions of an elaborated expression (this project's code forms). Targets are positions in the
-- whole code, so the code of a part depends on where it begins. A local's number is how many locals are
-- outside of it.
use Rattle.std.specs.Prelude.{ℕ, ◌+◌, List, [], ◌∷◌, ◌++◌, length}
use Rattle.cel_value.specs.Types.{ValueType, list_type, map_type}
use Rattle.cel_overload.specs.declared.overload.Overload.{Overload}
use Rattle.cel_ops.specs.declared.operation.Operation.TheVariants as operations
use Rattle.cel_overload.specs.declared.overload.Overload.TheVariants as overloads
use Rattle.cel_types.specs.Elaborated.{TypedTree, typed_constant, typed_local, typed_attribute, typed_field, typed_has, typed_call, typed_list, typed_map, typed_loop, TypedTrees, no_typed, typed}
use Rattle.cel_types.specs.Names.{variable_count}
use Rattle.cel_types.specs.declared.typed.Variables.{Variables}
use Rattle.cel_types.specs.declared.typed.Variables.TheVariants as variables
use Rattle.machine_code.specs.Instructions.{Instruction, Const, Attr, Load, Store, Operate, Field, HasField, MakeList, EmptyList, MakeMap, EmptyMap, Jump, IfFalse, IfTrue, Test, LoopStart, LoopNext, LoopNext2, LoopTest}

-- the instruction of a call on its operands' answers. No well typed expression uses the one of a conditional,
-- since a conditional has three operands and jumps
abbrev pub instruction_of : Overload → Instruction
instruction_of overloads.Conditional = Operate operations.Not
instruction_of (overloads.Operate op) = Operate op

-- the number of expressions
abbrev pub count : TypedTrees → ℕ
count no_typed = 0
count (typed e es) = 1 + count es

-- the number of pairs, of which keys and values come in turn
abbrev pub pairs : TypedTrees → ℕ
pairs no_typed = 0
pairs (typed e no_typed) = 0
pairs (typed k (typed v es)) = 1 + pairs es

-- the instruction of a list literal of this type. It has the items' type if the list is empty, else the number of
-- elements
abbrev pub list_instruction : ValueType → TypedTrees → Instruction
list_instruction (list_type t) no_typed = EmptyList t
list_instruction t es = MakeList (count es)

-- the instruction of a map literal of this type. It has the types of keys and values if the map is empty, else
-- the number of pairs
abbrev pub map_instruction : ValueType → TypedTrees → Instruction
map_instruction (map_type k t) no_typed = EmptyMap k t
map_instruction t es = MakeMap (pairs es)

-- the instruction that begins a turn: it sets this local, and for two variables also the next. After the last
-- turn it goes to `done`
abbrev pub turn_instruction : Variables → (local done : ℕ) → Instruction
turn_instruction variables.One local done = LoopNext local done
turn_instruction variables.Two local done = LoopNext2 local (local + 1) done

abbrev mutual
  -- the instructions of an expression whose code begins at `begin`, with `scope` locals in scope
  pub code_of : (begin scope : ℕ) → TypedTree → List Instruction
  code_of p d (typed_constant t v) = Const v ∷ []
  code_of p d (typed_local t outside) = Load outside ∷ []
  code_of p d (typed_attribute t a) = Attr a ∷ []
  code_of p d (typed_field t on name) = code_of p d on ++ Field name ∷ []
  code_of p d (typed_has t on name) = code_of p d on ++ HasField name ∷ []
  code_of p d (typed_call t (overloads.Operate operations.And) (typed a (typed b no_typed))) =
      let left = code_of p d a in
      let right = code_of (p + length left + 1) d b in
      left ++ IfFalse (p + length left + 1 + length right + 1) ∷ (right ++ Operate operations.And ∷ [])
  code_of p d (typed_call t (overloads.Operate operations.Or) (typed a (typed b no_typed))) =
      let left = code_of p d a in
      let right = code_of (p + length left + 1) d b in
      left ++ IfTrue (p + length left + 1 + length right + 1) ∷ (right ++ Operate operations.Or ∷ [])
  code_of p d (typed_call t overloads.Conditional (typed c (typed a (typed b no_typed)))) =
      let tested = code_of p d c in
      let chosen = code_of (p + length tested + 1) d a in
      let otherwise = p + length tested + 1 + length chosen + 1 in
      let other = code_of otherwise d b in
      let end = otherwise + length other in
      tested ++ Test otherwise end ∷ (chosen ++ Jump end ∷ other)
  code_of p d (typed_call t o operands) = codes_of p d operands ++ instruction_of o ∷ []
  code_of p d (typed_list t elements) = codes_of p d elements ++ list_instruction t elements ∷ []
  code_of p d (typed_map t entries) = codes_of p d entries ++ map_instruction t entries ∷ []
  code_of p d (typed_loop t vars range init condition step result) =
      let inside = d + 1 + variable_count vars in
      let ranged = code_of p d range in
      let begun = code_of (p + length ranged + 1) d init in
      let turn = p + length ranged + 1 + length begun + 1 in
      let tested = code_of (turn + 1) inside condition in
      let stepped = code_of (turn + 1 + length tested + 1) inside step in
      let after = turn + 1 + length tested + 1 + length stepped + 1 + 1 in
      let ended = code_of after (d + 1) result in
      let end = after + length ended in
      ranged ++ LoopStart end ∷ (begun ++ Store d ∷ (turn_instruction vars (d + 1) after
      ∷ (tested ++ LoopTest after end ∷ (stepped ++ Store d ∷ (Jump turn ∷ ended)))))

  -- the instructions of expressions in order
  pub codes_of : (begin scope : ℕ) → TypedTrees → List Instruction
  codes_of p d no_typed = []
  codes_of p d (typed e es) =
      let first = code_of p d e in first ++ codes_of (p + length first) d es
