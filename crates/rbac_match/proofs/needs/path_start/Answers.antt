use Rattle.std.proofs.Common.{◌≡◌, inl, inr, ap, ◌∙◌}
use Rattle.attributes.specs.Attributes.{url_path_of}
use Rattle.rbac_match.specs.Formula.{some_hold}
use Rattle.rbac_match.specs.Tokens.{decode}
use Rattle.rbac_match.specs.View.{rules_view}
use Rattle.rbac_match.specs.private.Nodes.{formulas_in}
use Rattle.rbac_match.proofs.NeedLemmas.{begins_more, first_or_behind}
use Rattle.rbac_match.proofs.needs.path_start.Goals as goal

pub returns : goal.returns
returns c = λ r some.
    let leaves = c.parts.result.0.now in
    let here : formulas_in leaves c.parts.result.1.now ≡ rules_view c.args.list.now c.args.rules = ap decode c.parts.ensures in
    elim (first_or_behind r leaves c.parts.result.1.now c.in-Some.behind.now c.in-Some.node.now c.in-Some.ensures.cases.0
    c.inside.result c.cut.result.0.now c.cut.result.1.now (c.inside.ensures leaves) c.cut.ensures.first c.cut.ensures.others (ap (some_hold r) here ∙ some)) [
      | inl first ↦ begins_more c.common_start.result.now c.rule_start-start.result.now (url_path_of r.target) c.common_start.ensures.start (c.rule_start-start.ensures r first)
      | inr behind ↦ c.common_start.ensures.rules r behind
    ]
