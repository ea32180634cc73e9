use Rattle.std.proofs.Common.{◌≡◌, sym, ◌∙◌}
use Rattle.cel_value.specs.private.EqualityLaws.{type_eq_decides}
use Rattle.cel_value.specs.Types.{type_view}
use Rattle.cel_costs.specs.Sizes.{least}
use Rattle.cost_bound.proofs.JoinedParts.{join_self}
use Rattle.cost_bound.proofs.empty.is_same_least.Goals as goal

pub returns-clause-before : goal.returns-clause-before
returns-clause-before c = λ test.
    let same : type_view c.args.left.now ≡ type_view c.args.right.now = (type_eq_decides _ _).0 (sym c.eq.ensures ∙ test) in
    rw same (join_self (least (type_view c.args.right.now)))

pub returns-clause-behind : goal.returns-clause-behind
returns-clause-behind c = λ test.
    let same : type_view c.args.left.now ≡ type_view c.args.right.now = (type_eq_decides _ _).0 (sym c.eq.ensures ∙ test) in
    rw same (join_self (least (type_view c.args.right.now)))
