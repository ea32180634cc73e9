use Rattle.std.proofs.Common.{sym, ◌∙◌}
use Rattle.std.specs.Arc.{arc_str_bytes}
use Rattle.std.proofs.lemmas.Result.{IfOk-weaker}
use Rattle.std.proofs.lemmas.Str.{IsUtf8-string_bytes, encodes-chars}
use Rattle.cel_ops.proofs.conversion.text_bytes.Goals as goal

pub returns : goal.returns
returns c =
    IfOk-weaker c.from_slice.result _ _ (λ bs same. same ∙ c.as_bytes.ensures.value ∙ c.as_str.ensures.value
    ∙ sym (encodes-chars (arc_str_bytes c.args.text.now) (IsUtf8-string_bytes c.args.text.now.text.value)))
    c.from_slice.ensures.ok
