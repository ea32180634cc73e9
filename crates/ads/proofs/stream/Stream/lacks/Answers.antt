use Rattle.ads.proofs.StreamLemmas.{one_known}
use Rattle.ads.proofs.stream.Stream.lacks.Goals as goal

pub returns-clause-one : goal.returns-clause-one
returns-clause-one c = λ bytes messages tail few cut.
    one_known c.self.inside.frames.tail bytes messages tail c.self.invariant.whole
    (rw c.self.invariant.max at (c.lacks.ensures.one bytes few)) (rw (← c.self.view_is) at cut)
