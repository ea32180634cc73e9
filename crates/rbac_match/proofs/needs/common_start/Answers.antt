use Rattle.std.proofs.Common.{arith, inl, inr}
use Rattle.attributes.specs.Attributes.{url_path_of}
use Rattle.rbac_match.proofs.NeedLemmas.{begins_more, first_or_behind}
use Rattle.rbac_match.proofs.needs.common_start.Goals as goal

pub loop-node-preserved : goal.loop-node-preserved
loop-node-preserved c =
    let less = c.cut.ensures.fewer.1 in
    let one = c.in-Some.ensures.cases.1 in
    let most = c.loop-node.invariant.fewer in
    record {
      start = begins_more c.shared-common.result.now c.loop-node.common.now c.args.start.now c.shared-common.ensures.one c.loop-node.invariant.start;
      rules = λ r some. elim (c.loop-node.invariant.rules r some) [
        | inl begins ↦ inl (begins_more c.shared-common.result.now c.loop-node.common.now (url_path_of r.target) c.shared-common.ensures.one begins)
        | inr left ↦ elim (first_or_behind r c.args.leaves.now c.loop-node.rest.now c.in-Some.behind.now c.in-Some.node.now c.in-Some.ensures.cases.0
            c.inside.result c.cut.result.0.now c.cut.result.1.now (c.inside.ensures c.args.leaves.now) c.cut.ensures.first c.cut.ensures.others left) [
              | inl first ↦ inl (begins_more c.shared-common.result.now c.rule_start.result.now (url_path_of r.target) c.shared-common.ensures.other (c.rule_start.ensures r first))
              | inr behind ↦ inr behind
            ]
      ];
      fewer = omega (arith, less, one, most);
    }
