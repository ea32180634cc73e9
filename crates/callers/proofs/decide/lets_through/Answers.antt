use Rattle.std.proofs.Common.{Err, inl, inr, refl, ap}
use Rattle.callers.proofs.decide.lets_through.Goals as goal

pub returns-in-Err-Memory-clause-undecided : goal.returns-in-Err-Memory-clause-undecided
returns-in-Err-Memory-clause-undecided c written admitted =
    elim (c.in-Err-Memory.ensures.unasked written admitted) [
      | inl asked ↦ inr (refl, asked)
      | inr ok ↦ absurd cc
    ]

pub returns-in-Err-OutOfSteps-clause-undecided : goal.returns-in-Err-OutOfSteps-clause-undecided
returns-in-Err-OutOfSteps-clause-undecided c written admitted =
    let fits = c.if-not-fits.ensures.0 refl in
    absurd (c.in-Err-OutOfSteps.ensures.within written admitted (rw c.limits.ensures at fits)
    (ap Err c.in-Err-OutOfSteps.field-0-is))
