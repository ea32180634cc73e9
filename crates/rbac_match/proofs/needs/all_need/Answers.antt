use Rattle.std.proofs.Common.{arith, inl, inr}
use Rattle.rbac_match.proofs.NeedLemmas.{first_or_behind}
use Rattle.rbac_match.proofs.needs.all_need.Goals as goal

pub loop-node-preserved : goal.loop-node-preserved
loop-node-preserved c =
    let less = c.cut.ensures.fewer.1 in
    let one = c.in-Some.ensures.cases.1 in
    let most = c.loop-node.invariant.fewer in
    record {
      rules = λ r some. elim (c.loop-node.invariant.rules r some) [
        | inl same ↦ inl same
        | inr left ↦ elim (first_or_behind r c.args.leaves.now c.loop-node.rest.now c.in-Some.behind.now c.in-Some.node.now c.in-Some.ensures.cases.0
            c.inside.result c.cut.result.0.now c.cut.result.1.now (c.inside.ensures c.args.leaves.now) c.cut.ensures.first c.cut.ensures.others left) [
              | inl first ↦ inl (c.needs_value.ensures c.if-not-needs_value.false r first)
              | inr behind ↦ inr behind
            ]
      ];
      fewer = omega (arith, less, one, most);
    }
