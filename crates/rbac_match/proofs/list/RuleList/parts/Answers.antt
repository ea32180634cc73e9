use Rattle.std.proofs.Common.{◌≡◌, drop, ap, ◌∙◌}
use Rattle.rbac_match.proofs.NodeLists.{tokens_part}
use Rattle.rbac_match.proofs.list.RuleList.parts.Goals as goal

pub returns : goal.returns
returns c =
    let behind : c.cut.result.1.now ≡ drop c.args.rules.from c.self.inside.nodes.items =
    c.cut.ensures.others ∙ ap (drop c.args.rules.from) c.deref.ensures.value in
    tokens_part c.self.inside.leaves c.self.inside.nodes.items c.cut.result.1.now c.cut-2.result.0.now c.args.self.now
    c.args.rules.from c.args.rules.count c.self.view_is behind c.cut-2.ensures.first
