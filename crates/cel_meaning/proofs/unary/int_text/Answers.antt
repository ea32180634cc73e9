use Rattle.std.proofs.Common.{◌≡◌, ◌≢◌, ℤ, Some, None, sym, to_z-of_z, ◌∙◌}
use Rattle.std.specs.Fmt.{signed_decimal}
use Rattle.cel_value.specs.Types.{IsInt64}
use Rattle.cel_value.specs.Values.{text, value}
use Rattle.cel_ops.specs.Conversions.{text_of_int}
use Rattle.cel_value.proofs.Views.{view_int}
use Rattle.cel_ops.proofs.Conversions.{int_text_is}
use Rattle.cel_meaning.proofs.unary.int_text.Goals as goal

has_text : (i : ℤ) → IsInt64 i → text_of_int i ≢ None
has_text i fits none =
    let found : Some (value (text (signed_decimal i))) ≡ None = sym (int_text_is i fits) ∙ none in
    absurd cc

pub convert-requires : goal.convert-requires
convert-requires c = record { kinds = rw (to_z-of_z c.ranges.i, view_int c.args.i) (has_text c.args.i c.ranges.i) }
