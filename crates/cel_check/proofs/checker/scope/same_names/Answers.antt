use Rattle.std.proofs.Common.{◌∙◌}
use Rattle.std.proofs.lemmas.Str.{IsUtf8-string_bytes}
use Rattle.cel_value.proofs.Same.{chars_same}
use Rattle.cel_check.proofs.checker.scope.same_names.Goals as goal

pub returns : goal.returns
returns c =
    c.eq.ensures ∙ chars_same _ _ (IsUtf8-string_bytes c.args.left.now.text.value)
    (IsUtf8-string_bytes c.args.right.now.text.value)
