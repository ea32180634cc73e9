use Rattle.std.proofs.Common.{◌≡◌, ◌≢◌, refl}
use Rattle.std.proofs.lemmas.Result.{MatchResult-weaker}
use Rattle.cel_tree.proofs.PairFacts.{kept_found, kept_fault}
use Rattle.cel_value.specs.Types.{type_view}
use Rattle.cel_types.specs.Elaborated.{kind}
use Rattle.cel_types.specs.View.{expr_view}
use Rattle.proto_wire.specs.declared.refusal.Refusal.TheVariants.{NoOverload}
use Rattle.cel_check.proofs.checker.kinds.expr_of.Goals as goal

pub returns-clause-found : goal.returns-clause-found
returns-clause-found c =
    kept_found c.args.found c.require_same-is_wanted.result c.kept.result
    (λ e. (expr_view e ≡ expr_view c.args.found) × (kind (expr_view e) ≡ type_view c.args.wanted.now))
    c.kept.ensures.found c.kept.ensures.refused
    (MatchResult-weaker c.require_same-is_wanted.result (rw c.cel_type.ensures at c.require_same-is_wanted.ensures.found)
    (λ _ is. (refl, is)) (λ _ _. tt))

pub returns-clause-fault : goal.returns-clause-fault
returns-clause-fault c =
    kept_fault c.args.found c.require_same-is_wanted.result c.kept.result
    (λ e. (kind (expr_view c.args.found) ≢ type_view c.args.wanted.now) × (e ≡ NoOverload)) c.kept.ensures.fault
    (rw c.cel_type.ensures at c.require_same-is_wanted.ensures.fault)
