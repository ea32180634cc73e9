use Rattle.std.proofs.Common.{◌≡◌, ◌+◌, ◌∷◌, ◌++◌, [], map, take, sym, ap, subst, ◌∙◌}
use Rattle.std.proofs.lemmas.List.{map_more, take_all}
use Rattle.rbac_policy.specs.Named.{policy_view}
use Rattle.rbac_policy.specs.private.PolicyIndex.{AreInOrder}
use Rattle.rbac_policy.proofs.IndexLemmas.{needed_at, needed_push}
use Rattle.rbac_policy.proofs.policy_index.needs_of.Goals as goal

pub loop-policy-preserved : goal.loop-policy-preserved
loop-policy-preserved c =
    let view = policy_view c.args.list.now in
    let ps = c.args.policies.now in
    let i = c.loop-policy.policy-index in
    let item = c.policy-item.result in
    let seen : map view (take (i + 1) ps) ≡ map view (take i ps) ++ view item ∷ [] =
    map_more view ps i item c.loop-policy-test.true ∙ ap (λ x. map view (take i ps) ++ view x ∷ []) (sym c.policy-item.is) in
    rw (c.in_ok-push.ensures.items, seen)
    (needed_push c.args.most c.args.name.now (map view (take i ps)) c.loop-policy.needs.items (view item) c.need_of.result c.loop-policy.invariant c.need_of.ensures)

pub returns : goal.returns
returns c =
    needed_at c.args.most c.args.name.now (map (policy_view c.args.list.now) c.args.policies.now) c.loop-policy.needs.items
    (subst (λ items. AreInOrder c.args.most c.args.name.now (map (policy_view c.args.list.now) items) c.loop-policy.needs.items)
    (take_all c.loop-policy.policy-index c.args.policies.now c.loop-policy-test.false) c.loop-policy.invariant)
