use Rattle.std.proofs.Common.{◌∙◌}
use Rattle.std.proofs.lemmas.Str.{IsUtf8-string_bytes}
use Rattle.cel_value.proofs.TextOrder.{chars_cmp}
use Rattle.cel_value.proofs.key.compare_texts.Goals as goal

pub returns : goal.returns
returns c =
    c.cmp.ensures ∙ chars_cmp _ _ (IsUtf8-string_bytes c.args.left.now.text.value)
    (IsUtf8-string_bytes c.args.right.now.text.value)
