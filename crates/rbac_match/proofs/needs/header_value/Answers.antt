use Rattle.std.proofs.Common.{◌≡◌, inl, inr, ap, ◌∙◌}
use Rattle.rbac_match.specs.Formula.{some_hold}
use Rattle.rbac_match.specs.Tokens.{decode}
use Rattle.rbac_match.specs.View.{rules_view}
use Rattle.rbac_match.specs.private.Nodes.{formulas_in}
use Rattle.rbac_match.proofs.NeedLemmas.{first_or_behind}
use Rattle.rbac_match.proofs.needs.header_value.Goals as goal

pub returns-then-all_need : goal.returns-then-all_need
returns-then-all_need c = λ r some.
    let leaves = c.parts.result.0.now in
    let here : formulas_in leaves c.parts.result.1.now ≡ rules_view c.args.list.now c.args.rules = ap decode c.parts.ensures in
    elim (first_or_behind r leaves c.parts.result.1.now c.in-Some.behind.now c.in-Some.node.now c.in-Some.ensures.cases.0
    c.inside.result c.cut.result.0.now c.cut.result.1.now (c.inside.ensures leaves) c.cut.ensures.first c.cut.ensures.others (ap (some_hold r) here ∙ some)) [
      | inl first ↦ c.in-Some-rule_value.ensures r first
      | inr behind ↦ c.all_need.ensures c.if-all_need.true r behind
    ]
