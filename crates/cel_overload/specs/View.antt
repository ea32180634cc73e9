-- Types that the code finds or lends, without their places in memory.
use Rattle.std.specs.Prelude.{List, map}
use denote.Ref.{Bor}
use Rattle.cel_value.specs.Types.{ValueType, bool_type, int_type, uint_type, text_type, bytes_type, type_view}
use Rattle.cel_value.specs.declared.cel_type.CelType.{CelType}
use Rattle.cel_overload.specs.declared.overload.ResultType.{ResultType}
use Rattle.cel_overload.specs.declared.overload.ResultType.TheVariants as results

-- the type of a result
abbrev pub result_view : ResultType → ValueType
result_view results.Bool = bool_type
result_view results.Int = int_type
result_view results.Uint = uint_type
result_view results.Text = text_type
result_view results.Bytes = bytes_type
result_view (results.Same t) = type_view t.now

-- the types of operands
abbrev pub types_of : List (Bor CelType) → List ValueType
types_of operands = map (λ t. type_view t.now) operands
