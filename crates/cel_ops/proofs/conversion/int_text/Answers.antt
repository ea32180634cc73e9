use Rattle.std.proofs.Common.{◌≡◌, Some, to_z-of_z, ap, sym, ◌∙◌}
use Rattle.std.specs.Fmt.{signed_decimal}
use Rattle.std.specs.Str.{chars}
use Rattle.std.proofs.lemmas.Str.{chars-IsAscii}
use Rattle.cel_value.specs.Texts.{text_view}
use Rattle.cel_value.specs.Values.{text, value}
use Rattle.cel_ops.proofs.Conversions.{int_ascii, int_text_is}
use Rattle.cel_ops.proofs.conversion.int_text.Goals as goal

pub returns-clause-found : goal.returns-clause-found
returns-clause-found c =
    let written : text_view c.in_ok-from_string.field-0 ≡ signed_decimal c.args.i =
    ap chars (c.in_ok-from_string.ensures.ok ∙ c.in_ok-format.ensures.ok ∙ ap signed_decimal (to_z-of_z c.ranges.i))
    ∙ chars-IsAscii (signed_decimal c.args.i) (int_ascii c.args.i c.ranges.i) in
    ap (λ cs. Some (value (text cs))) written ∙ sym (int_text_is c.args.i c.ranges.i)
