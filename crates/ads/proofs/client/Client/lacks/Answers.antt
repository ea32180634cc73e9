use Rattle.std.proofs.Common.{◌≡◌}
use Rattle.ads.proofs.client.Client.lacks.Goals as goal

pub returns-in-Some-clause-one : goal.returns-in-Some-clause-one
returns-in-Some-clause-one c = λ bytes few rest messages tail up cut.
    let same : rest ≡ c.in-Some.stream = cc in
    c.lacks.ensures.one bytes messages tail few (rw same at cut)
