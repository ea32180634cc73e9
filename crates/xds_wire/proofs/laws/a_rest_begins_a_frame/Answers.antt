use Rattle.xds_wire.proofs.Beginnings.{rest_begins}
use Rattle.xds_wire.proofs.laws.a_rest_begins_a_frame.Goals as goal

pub returns : goal.returns
returns c = λ max rest small begins.
    let left = rest_begins max rest small begins in
    (left.message, left.more, left.some, left.frame)
