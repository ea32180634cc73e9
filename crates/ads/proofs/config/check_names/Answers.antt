use Rattle.std.proofs.Common.{inl, inr, refl}
use Rattle.ads.specs.Config.{HasName, Repeats}
use Rattle.ads.specs.Views.{filters_view}
use Rattle.proto_wire.specs.Merge.{SomeOf}
use Rattle.ads.proofs.config.check_names.Goals as goal

pub returns-then-has_name-clause-fault : goal.returns-then-has_name-clause-fault
returns-then-has_name-clause-fault c =
    let some : SomeOf (HasName c.in-Some.first.now.name.bytes.items) (filters_view c.in-Some.behind.now) =
    rw c.deref.ensures at c.if-has_name.ensures in
    let rest : Repeats (filters_view c.loop-first.rest.now) = rw c.in-Some.ensures.cases.0 (inl some) in
    (c.loop-first.invariant.1 rest, refl)

pub loop-first-preserved : goal.loop-first-preserved
loop-first-preserved c =
    let none = rw c.deref.ensures at c.if-has_name.ensures in (
      (λ all. elim (rw c.in-Some.ensures.cases.0 at c.loop-first.invariant.0 all) [
        | inl some ↦ absurd (none some)
        | inr later ↦ later
      ]),
      λ later. c.loop-first.invariant.1 (rw c.in-Some.ensures.cases.0 (inr later)),
    )
