use Rattle.std.proofs.Common.{◌≡◌, ◌+◌, ◌++◌, ◌∷◌, [], List, true, false, map, take, sym, ap, ◌∙◌, arith}
use Rattle.std.proofs.lemmas.Result.{MatchResult-weaker}
use Rattle.rbac_match.specs.Causes.{all_causes, causes, decides, first_causes, within}
use Rattle.rbac_match.specs.Formula.{Formulas, formula, holds}
use Rattle.rbac_match.specs.Tokens.{first_of}
use Rattle.rbac_match.specs.declared.causes.Cause.{Cause}
use Rattle.rbac_match.specs.declared.list.Joint.TheVariants.{Not}
use Rattle.rbac_match.specs.private.Causes.{Finds, below, causes_in}
use Rattle.rbac_match.specs.private.Nodes.{formula_in, formulas_in}
use Rattle.rbac_match.proofs.CauseLists.{all_here, finds_deeper, finds_more, first_here, first_later, found_few, step_to}
use Rattle.rbac_match.proofs.NodeLists.{first_rule}
use Rattle.rbac_match.proofs.causes.+causes.Goals as goal

pub all_causes-loop-node-preserved : goal.all_causes-loop-node-preserved
all_causes-loop-node-preserved t c =
    let r = c.args.search.now.request.now in
    let leaves = c.args.search.now.leaves.now in
    let limit = c.args.search.now.limit in
    let path = c.args.path.now in
    let n = c.loop-node.index in
    let before : List Cause = c.loop-node.found.items in
    let after : List Cause = c.node_causes.new.found.items in
    let fs : Formulas = formulas_in leaves c.loop-node.rest.now in
    let gs : Formulas = formulas_in leaves c.cut.result.1.now in
    let f = formula_in leaves c.in-Some.node.now c.cut.result.0.now in
    let rule : fs ≡ formula f gs =
    first_rule leaves c.loop-node.rest.now c.in-Some.behind.now c.cut.result.0.now c.cut.result.1.now c.in-Some.node.now c.inside.result
    c.in-Some.ensures.cases.0 (c.inside.ensures leaves) c.cut.ensures.first c.cut.ensures.others in
    let deeper : c.deref.result.now ≡ path ++ step_to c.args.joint n ∷ [] = c.deref.ensures.value ∙ c.in_ok-deeper.ensures in
    let one : Finds leaves limit path before after (map (within c.args.joint n) (causes r f)) =
    finds_deeper leaves limit path c.args.joint n c.deref.result.now before after (causes r f) deeper c.in_ok-node_causes.ensures in
    let less = c.cut.ensures.fewer.1 in
    let first = c.in-Some.ensures.cases.1 in
    let most = c.loop-node.invariant.fewer in
    record {
      same = finds_more leaves limit path before after (map (within c.args.joint n) (causes r f)) (all_causes r c.args.joint (n + 1) gs) one
          ∙ ap (λ cs. take limit (causes_in leaves before ++ map (below path) cs)) (all_here r c.args.joint n fs gs f rule)
          ∙ c.loop-node.invariant.same;
      few = found_few leaves limit path before after (map (within c.args.joint n) (causes r f)) one;
      fewer = omega (arith, less, first, most);
    }

pub first_causes-returns-then-decides : goal.first_causes-returns-then-decides
first_causes-returns-then-decides t c =
    let r = c.args.search.now.request.now in
    let leaves = c.args.search.now.leaves.now in
    let limit = c.args.search.now.limit in
    let path = c.args.path.now in
    let n = c.loop-node.index in
    let fs : Formulas = formulas_in leaves c.loop-node.rest.now in
    let gs : Formulas = formulas_in leaves c.cut.result.1.now in
    let f = formula_in leaves c.in-Some.node.now c.cut.result.0.now in
    let rule : fs ≡ formula f gs =
    first_rule leaves c.loop-node.rest.now c.in-Some.behind.now c.cut.result.0.now c.cut.result.1.now c.in-Some.node.now c.inside.result
    c.in-Some.ensures.cases.0 (c.inside.ensures leaves) c.cut.ensures.first c.cut.ensures.others in
    let deeper : c.deref.result.now ≡ path ++ step_to c.args.joint n ∷ [] = c.deref.ensures.value ∙ c.in_ok-deeper.ensures in
    let here : decides c.args.joint (holds r f) ≡ true = sym (c.decides.ensures ∙ ap (decides c.args.joint) c.node_matches.ensures) ∙ c.if-decides.true in
    MatchResult-weaker c.node_causes.result c.node_causes.ensures
    (λ u finds.
    finds_deeper leaves limit path c.args.joint n c.deref.result.now c.loop-node.found.items c.node_causes.new.found.items (causes r f) deeper finds
    ∙ ap (λ cs. take limit (causes_in leaves c.loop-node.found.items ++ map (below path) cs)) (first_here r c.args.joint n fs gs f rule here ∙ c.loop-node.invariant.same)
    ∙ ap (λ (l : List Cause). take limit (causes_in leaves l ++ map (below path) (first_causes r c.args.joint 0 (formulas_in leaves c.args.nodes.now)))) c.loop-node.invariant.kept)
    (λ e h. h)

pub first_causes-loop-node-preserved : goal.first_causes-loop-node-preserved
first_causes-loop-node-preserved t c =
    let r = c.args.search.now.request.now in
    let leaves = c.args.search.now.leaves.now in
    let n = c.loop-node.index in
    let fs : Formulas = formulas_in leaves c.loop-node.rest.now in
    let gs : Formulas = formulas_in leaves c.cut.result.1.now in
    let f = formula_in leaves c.in-Some.node.now c.cut.result.0.now in
    let rule : fs ≡ formula f gs =
    first_rule leaves c.loop-node.rest.now c.in-Some.behind.now c.cut.result.0.now c.cut.result.1.now c.in-Some.node.now c.inside.result
    c.in-Some.ensures.cases.0 (c.inside.ensures leaves) c.cut.ensures.first c.cut.ensures.others in
    let later : decides c.args.joint (holds r f) ≡ false = sym (c.decides.ensures ∙ ap (decides c.args.joint) c.node_matches.ensures) ∙ c.if-decides.false in
    let less = c.cut.ensures.fewer.1 in
    let first = c.in-Some.ensures.cases.1 in
    let most = c.loop-node.invariant.fewer in
    record {
      same = first_later r c.args.joint n fs gs f rule later ∙ c.loop-node.invariant.same;
      kept = c.loop-node.invariant.kept;
      few = c.loop-node.invariant.few;
      fewer = omega (arith, less, first, most);
    }

pub negated_causes-returns : goal.negated_causes-returns
negated_causes-returns t c =
    let r = c.args.search.now.request.now in
    let leaves = c.args.search.now.leaves.now in
    let limit = c.args.search.now.limit in
    let path = c.args.path.now in
    let fs : Formulas = formulas_in leaves c.args.nodes.now in
    let gs : Formulas = formulas_in leaves c.cut.result.1.now in
    let f = formula_in leaves c.in-Some.node.now c.cut.result.0.now in
    let rule : fs ≡ formula f gs =
    first_rule leaves c.args.nodes.now c.in-Some.behind.now c.cut.result.0.now c.cut.result.1.now c.in-Some.node.now c.inside.result
    c.in-Some.ensures.cases.0 (c.inside.ensures leaves) c.cut.ensures.first c.cut.ensures.others in
    let deeper : c.deref-2.result.now ≡ path ++ step_to Not 0 ∷ [] = c.deref-2.ensures.value ∙ c.in_ok-deeper.ensures in
    MatchResult-weaker c.node_causes.result c.node_causes.ensures
    (λ u finds.
    finds_deeper leaves limit path Not 0 c.deref-2.result.now c.args.found.now.items c.node_causes.new.found.items (causes r f) deeper finds
    ∙ ap (λ fs. take limit (causes_in leaves c.args.found.now.items ++ map (below path) (map (within Not 0) (causes r (first_of fs))))) (sym rule))
    (λ e h. h)
