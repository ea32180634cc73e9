use Rattle.std.proofs.Common.{◌≡◌, Some, ap, sym, ◌∙◌}
use Rattle.std.specs.Fmt.{decimal}
use Rattle.std.specs.Str.{chars}
use Rattle.std.proofs.lemmas.Fmt.{IsAscii-decimal}
use Rattle.std.proofs.lemmas.Str.{chars-IsAscii}
use Rattle.cel_value.specs.Texts.{text_view}
use Rattle.cel_value.specs.Values.{text, value}
use Rattle.cel_ops.proofs.Conversions.{uint_text_is}
use Rattle.cel_ops.proofs.conversion.uint_text.Goals as goal

pub returns-clause-found : goal.returns-clause-found
returns-clause-found c =
    let written : text_view c.in_ok-from_string.field-0 ≡ decimal c.args.n =
    ap chars (c.in_ok-from_string.ensures.ok ∙ c.in_ok-format.ensures.ok)
    ∙ chars-IsAscii (decimal c.args.n) (IsAscii-decimal c.args.n c.ranges.n.fits) in
    ap (λ cs. Some (value (text cs))) written ∙ sym (uint_text_is c.args.n c.ranges.n.fits)
