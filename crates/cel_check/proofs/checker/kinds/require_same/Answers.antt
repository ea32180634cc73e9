use Rattle.std.proofs.Common.{◌≡◌, sym, ◌∙◌, true, refl}
use Rattle.cel_value.specs.private.EqualityLaws.{type_eq_decides}
use Rattle.cel_value.specs.Types.{type_eq, type_view}
use Rattle.cel_check.proofs.checker.kinds.require_same.Goals as goal

pub returns-then-eq-clause-found : goal.returns-then-eq-clause-found
returns-then-eq-clause-found c = (type_eq_decides _ _).0 (sym c.eq.ensures ∙ c.if-eq.true)

pub returns-clause-fault : goal.returns-clause-fault
returns-clause-fault c = (
  λ k. let same : type_eq (type_view c.args.found.now) (type_view c.args.wanted.now) ≡ true =
      (type_eq_decides _ _).1 k in
      let eq = c.eq.ensures in let differs = c.if-eq.false in cc,
  refl,
)
