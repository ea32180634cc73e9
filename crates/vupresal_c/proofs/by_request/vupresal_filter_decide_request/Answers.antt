use Rattle.std.proofs.Common.{rules, ◌≡◌, ◌∙◌, refl, sym, arith, to_z, of_z, to_z-of_z, w32}
use Rattle.std.specs.Arc.{arc_value}
use Rattle.vupresal_c.specs.Handles.{request_in}
use Rattle.vupresal_c.specs.Kept.{AsksForHeld, HeldFailsFor}
use Rattle.vupresal_c.specs.declared.fault.Fault.TheVariants.{Empty}
use Rattle.vupresal_c.proofs.Deciding.{decided, no_decision}
use Rattle.vupresal_c.proofs.by_request.vupresal_filter_decide_request.Goals as goal

pub returns-in-None-clause-fault : goal.returns-in-None-clause-fault
returns-in-None-clause-fault c =
    let same : to_z w32 (of_z w32 c.answered-in-None.result) ≡ c.answered-in-None.result = grind (arith, to_z-of_z) in
    λ _. (Empty, rw c.in-None.ensures.taken refl, same ∙ c.answered-in-None.ensures.fault.0)

pub returns-in-Some-clause-found : goal.returns-in-Some-clause-found
returns-in-Some-clause-found c =
    let same : to_z w32 (of_z w32 c.answered.result) ≡ c.answered.result = search rules in
    λ is. rw c.in-Some.ensures.taken (decided c.decide_held-answer.result
    (AsksForHeld (request_in c.args.made.now)) (arc_value c.in-Some.owner.value) _ _
    c.answered.ensures.found c.answered.ensures.fault (rw (c.deref-in-Some.ensures, c.deref.ensures) at c.decide_held-answer.ensures.found)
    (sym same ∙ is))

pub returns-in-Some-clause-fault : goal.returns-in-Some-clause-fault
returns-in-Some-clause-fault c =
    let same : to_z w32 (of_z w32 c.answered.result) ≡ c.answered.result = search rules in
    λ fails. rw c.in-Some.ensures.taken (
    let found = no_decision c.decide_held-answer.result
    (HeldFailsFor (request_in c.args.made.now) (arc_value c.in-Some.owner.value)) _ _ c.answered.ensures.found
    c.answered.ensures.fault (rw (c.deref-in-Some.ensures, c.deref.ensures) at c.decide_held-answer.ensures.fault)
    (λ is. fails (same ∙ is)) in
    (found.0, found.1, same ∙ found.2)
    )
