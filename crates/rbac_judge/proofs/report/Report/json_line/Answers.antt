use Rattle.std.proofs.Common.{◌∙◌, ◌++◌, ap₂, arith}
use Rattle.rbac_judge.proofs.JsonLemmas.{outcome_whole}
use Rattle.rbac_judge.proofs.report.Report.json_line.Goals as goal

pub returns : goal.returns
returns c =
    let text = rw c.in_ok-value.ensures at c.in_ok-line.ensures.text in
    let line = text (outcome_whole _ _ _ c.args.self.now.outcome) in
    rw c.requires (c.in_ok-push.ensures.bytes ∙ ap₂ (λ a b. a ++ b) line (c.in_ok-push.ensures.ascii (omega arith)))
