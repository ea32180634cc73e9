use Rattle.std.proofs.Common.{◌≡◌, ◌∙◌, refl, sym, arith, to_z, of_z, to_z-of_z, w32}
use Rattle.std.specs.Arc.{arc_value}
use Rattle.vupresal_c.specs.Decisions.{AsksByHead}
use Rattle.vupresal_c.specs.declared.fault.Fault.TheVariants.{Empty}
use Rattle.vupresal_c.proofs.Deciding.{decided}
use Rattle.vupresal_c.proofs.by_head.vupresal_filter_decide_head.Goals as goal

pub returns-in-None-clause-fault : goal.returns-in-None-clause-fault
returns-in-None-clause-fault c =
    λ _. (Empty, rw c.in-None.ensures.taken refl, rw c.answered-in-None.ensures.fault.0 refl)

pub returns-in-Some-clause-found : goal.returns-in-Some-clause-found
returns-in-Some-clause-found c =
    let same : to_z w32 (of_z w32 c.answered.result) ≡ c.answered.result = grind (arith, to_z-of_z) in
    λ is. rw c.in-Some.ensures.taken (decided c.decide_head-answer.result
    (AsksByHead c.args.head.now c.args.facts.now) (arc_value c.in-Some.owner.value) _ _
    c.answered.ensures.found c.answered.ensures.fault (rw (c.deref-in-Some.ensures, c.deref.ensures) at c.decide_head-answer.ensures.found)
    (sym same ∙ is))
