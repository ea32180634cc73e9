use Rattle.std.proofs.Common.{◌∙◌}
use Rattle.rbac_match.proofs.Decimals.{parse_int64}
use Rattle.rbac_match.proofs.int64_range.parse_int64.Goals as goal

pub returns : goal.returns
returns c =
    c.ok.ensures.value ∙ parse_int64 c.args.text.now c.parse.result c.parse.ensures.value.0
