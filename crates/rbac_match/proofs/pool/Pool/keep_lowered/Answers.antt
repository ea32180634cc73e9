use Rattle.std.proofs.Common.{◌≡◌, ap, ◌∙◌}
use Rattle.std.proofs.lemmas.Result.{IfOk-weaker}
use Rattle.std.proofs.lemmas.Str.{IsUtf8-string_bytes}
use Rattle.std.specs.Str.{IsUtf8, str_to_ascii_lowercase}
use Rattle.rbac_match.proofs.pool.Pool.keep_lowered.Goals as goal

pub returns-clause-kept : goal.returns-clause-kept
returns-clause-kept c =
    let lowered : c.as_bytes.result.now ≡ str_to_ascii_lowercase c.args.text.now =
    c.as_bytes.ensures.value ∙ c.make_ascii_lowercase.ensures.bytes ∙ ap str_to_ascii_lowercase c.in_ok-lowered.ensures.ok in
    let utf8 : IsUtf8 c.as_bytes.result.now = rw c.as_bytes.ensures.value (IsUtf8-string_bytes c.make_ascii_lowercase.new.self) in
    IfOk-weaker c.keep.result _ _ (λ span kept. (kept.0, kept.1 ∙ lowered, rw kept.1 utf8)) c.keep.ensures.kept
