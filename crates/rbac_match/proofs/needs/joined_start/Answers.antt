use Rattle.std.proofs.Common.{arith}
use Rattle.rbac_match.proofs.NeedLemmas.{first_of_all, parts_of_all}
use Rattle.rbac_match.proofs.needs.joined_start.Goals as goal

pub returns-then-not-is_empty : goal.returns-then-not-is_empty
returns-then-not-is_empty c = λ r all.
    c.test_start-start.ensures _ r
    (first_of_all r c.args.leaves.now c.loop-node.rest.now c.in-Some.behind.now c.in-Some.node.now c.in-Some.ensures.cases.0 (c.loop-node.invariant.all r all))

pub loop-node-preserved : goal.loop-node-preserved
loop-node-preserved c =
    let less = c.cut.ensures.fewer.1 in
    let one = c.in-Some.ensures.cases.1 in
    let most = c.loop-node.invariant.fewer in
    record {
      all = λ r all. (parts_of_all r c.args.leaves.now c.loop-node.rest.now c.in-Some.behind.now c.in-Some.node.now c.in-Some.ensures.cases.0
          c.inside.result c.cut.result.0.now c.cut.result.1.now (c.inside.ensures c.args.leaves.now) c.cut.ensures.first c.cut.ensures.others
          (c.loop-node.invariant.all r all)).1;
      fewer = omega (arith, less, one, most);
    }
