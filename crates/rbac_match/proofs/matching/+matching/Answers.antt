use Rattle.std.proofs.Common.{◌≡◌, true, false, sym, ap, ◌∙◌, arith}
use Rattle.rbac_match.specs.Formula.{Formulas, formula, holds}
use Rattle.rbac_match.specs.Tokens.{first_of}
use Rattle.rbac_match.specs.private.Nodes.{formula_in, formulas_in}
use Rattle.rbac_match.proofs.Loops.{all_at, some_at}
use Rattle.rbac_match.proofs.NodeLists.{first_rule}
use Rattle.rbac_match.proofs.matching.+matching.Goals as goal

pub all_match-returns-then-not-node_matches : goal.all_match-returns-then-not-node_matches
all_match-returns-then-not-node_matches t c =
    let leaves = c.args.leaves.now in
    let fs : Formulas = formulas_in leaves c.loop-node.rest.now in
    let gs : Formulas = formulas_in leaves c.cut.result.1.now in
    let rule : fs ≡ formula (formula_in leaves c.in-Some.node.now c.cut.result.0.now) gs =
    first_rule leaves c.loop-node.rest.now c.in-Some.behind.now c.cut.result.0.now c.cut.result.1.now c.in-Some.node.now c.inside.result
    c.in-Some.ensures.cases.0 (c.inside.ensures leaves) c.cut.ensures.first c.cut.ensures.others in
    all_at c.args.request.now fs gs (formula_in leaves c.in-Some.node.now c.cut.result.0.now) false rule
    (sym c.if-not-node_matches.true ∙ c.node_matches.ensures) ∙ c.loop-node.invariant.same

pub all_match-loop-node-preserved : goal.all_match-loop-node-preserved
all_match-loop-node-preserved t c =
    let leaves = c.args.leaves.now in
    let fs : Formulas = formulas_in leaves c.loop-node.rest.now in
    let gs : Formulas = formulas_in leaves c.cut.result.1.now in
    let rule : fs ≡ formula (formula_in leaves c.in-Some.node.now c.cut.result.0.now) gs =
    first_rule leaves c.loop-node.rest.now c.in-Some.behind.now c.cut.result.0.now c.cut.result.1.now c.in-Some.node.now c.inside.result
    c.in-Some.ensures.cases.0 (c.inside.ensures leaves) c.cut.ensures.first c.cut.ensures.others in
    let less = c.cut.ensures.fewer.1 in
    let one = c.in-Some.ensures.cases.1 in
    let most = c.loop-node.invariant.fewer in
    record {
      same = all_at c.args.request.now fs gs (formula_in leaves c.in-Some.node.now c.cut.result.0.now) true rule
          (sym c.if-not-node_matches.false ∙ c.node_matches.ensures) ∙ c.loop-node.invariant.same;
      fewer = omega (arith, less, one, most);
    }

pub some_match-returns-then-node_matches : goal.some_match-returns-then-node_matches
some_match-returns-then-node_matches t c =
    let leaves = c.args.leaves.now in
    let fs : Formulas = formulas_in leaves c.loop-node.rest.now in
    let gs : Formulas = formulas_in leaves c.cut.result.1.now in
    let rule : fs ≡ formula (formula_in leaves c.in-Some.node.now c.cut.result.0.now) gs =
    first_rule leaves c.loop-node.rest.now c.in-Some.behind.now c.cut.result.0.now c.cut.result.1.now c.in-Some.node.now c.inside.result
    c.in-Some.ensures.cases.0 (c.inside.ensures leaves) c.cut.ensures.first c.cut.ensures.others in
    some_at c.args.request.now fs gs (formula_in leaves c.in-Some.node.now c.cut.result.0.now) true rule
    (sym c.if-node_matches.true ∙ c.node_matches.ensures) ∙ c.loop-node.invariant.same

pub some_match-loop-node-preserved : goal.some_match-loop-node-preserved
some_match-loop-node-preserved t c =
    let leaves = c.args.leaves.now in
    let fs : Formulas = formulas_in leaves c.loop-node.rest.now in
    let gs : Formulas = formulas_in leaves c.cut.result.1.now in
    let rule : fs ≡ formula (formula_in leaves c.in-Some.node.now c.cut.result.0.now) gs =
    first_rule leaves c.loop-node.rest.now c.in-Some.behind.now c.cut.result.0.now c.cut.result.1.now c.in-Some.node.now c.inside.result
    c.in-Some.ensures.cases.0 (c.inside.ensures leaves) c.cut.ensures.first c.cut.ensures.others in
    let less = c.cut.ensures.fewer.1 in
    let one = c.in-Some.ensures.cases.1 in
    let most = c.loop-node.invariant.fewer in
    record {
      same = some_at c.args.request.now fs gs (formula_in leaves c.in-Some.node.now c.cut.result.0.now) false rule
          (sym c.if-node_matches.false ∙ c.node_matches.ensures) ∙ c.loop-node.invariant.same;
      fewer = omega (arith, less, one, most);
    }

pub first_matches-returns : goal.first_matches-returns
first_matches-returns t c =
    let leaves = c.args.leaves.now in
    let fs : Formulas = formulas_in leaves c.args.nodes.now in
    let gs : Formulas = formulas_in leaves c.cut.result.1.now in
    let rule : fs ≡ formula (formula_in leaves c.in-Some.node.now c.cut.result.0.now) gs =
    first_rule leaves c.args.nodes.now c.in-Some.behind.now c.cut.result.0.now c.cut.result.1.now c.in-Some.node.now c.inside.result
    c.in-Some.ensures.cases.0 (c.inside.ensures leaves) c.cut.ensures.first c.cut.ensures.others in
    c.node_matches.ensures ∙ ap (λ gs. holds c.args.request.now (first_of gs)) (sym rule)
