use Rattle.std.proofs.Common.{◌≡◌, ◌≢◌, ℕ, Some, None, sym, ◌∙◌}
use Rattle.std.specs.Fmt.{decimal}
use Rattle.cel_value.specs.Types.{IsUint64}
use Rattle.cel_value.specs.Values.{text, value}
use Rattle.cel_ops.specs.Conversions.{text_of_uint}
use Rattle.cel_value.proofs.Views.{view_uint}
use Rattle.cel_ops.proofs.Conversions.{uint_text_is}
use Rattle.cel_meaning.proofs.unary.uint_text.Goals as goal

has_text : (n : ℕ) → IsUint64 n → text_of_uint n ≢ None
has_text n fits none =
    let found : Some (value (text (decimal n))) ≡ None = sym (uint_text_is n fits) ∙ none in
    absurd cc

pub convert-requires : goal.convert-requires
convert-requires c = record { kinds = rw (view_uint c.args.n) (has_text c.args.n c.ranges.n.fits) }
