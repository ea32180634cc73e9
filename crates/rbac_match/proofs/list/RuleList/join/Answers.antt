use Rattle.std.proofs.Common.{◌≡◌, ◌<◌, ◌-◌, length, refl, ap, ◌∙◌}
use Rattle.std.proofs.lemmas.List.{length-map}
use Rattle.rbac_match.specs.private.Nodes.{token_in}
use Rattle.rbac_match.proofs.NodeLists.{has_set, tokens_join}
use Rattle.rbac_match.proofs.list.RuleList.join.Goals as goal

pub invariant_of-self : goal.invariant_of-self
invariant_of-self c = has_set (length c.self.inside.leaves) c.self.inside.nodes.items c.args.place c.args.joint c.in_ok-count.count c.self.invariant

pub returns : goal.returns
returns c =
    let nodes = c.self.inside.nodes.items in
    let size : length nodes ≡ length c.args.self.now = rw (← c.self.view_is, length-map nodes (token_in c.self.inside.leaves)) refl in
    let within : c.args.place < length nodes = rw size c.requires in
    let count : c.in_ok-count.count ≡ length nodes - c.args.place - 1 = c.in_ok-count.ensures ∙ ap (λ n. n - c.args.place - 1) (c.len.ensures ∙ c.self.inside.nodes.ok.0) in
    tokens_join c.self.inside.leaves nodes c.args.self.now c.args.place c.args.joint c.in_ok-count.count c.self.view_is within count
