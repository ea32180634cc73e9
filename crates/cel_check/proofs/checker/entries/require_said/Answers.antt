use Rattle.std.proofs.Common.{◌≡◌, sym, ◌∙◌, true, refl}
use Rattle.cel_value.specs.private.EqualityLaws.{type_eq_decides}
use Rattle.cel_value.specs.Types.{type_eq, type_view}
use Rattle.cel_types.specs.TypingFaults.{another_type}
use Rattle.cel_check.proofs.checker.entries.require_said.Goals as goal

pub returns-then-eq-clause-found : goal.returns-then-eq-clause-found
returns-then-eq-clause-found c =
    rw c.in-Type.is ((type_eq_decides _ _).0 (sym c.eq.ensures ∙ c.if-eq.true))

pub returns-else-eq-clause-fault : goal.returns-else-eq-clause-fault
returns-else-eq-clause-fault c =
    rw c.in-Type.is (another_type (type_view c.in-Type.said) (type_view c.args.found.now) refl refl
    (λ k. let same : type_eq (type_view c.in-Type.said) (type_view c.args.found.now) ≡ true =
    (type_eq_decides _ _).1 k in
    let eq = c.eq.ensures in let differs = c.if-eq.false in cc) refl)
