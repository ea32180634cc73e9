use Rattle.xds_wire.proofs.Beginnings.{part_cut}
use Rattle.xds_wire.proofs.laws.part_of_frames_is_cut.Goals as goal

pub returns : goal.returns
returns c = λ max messages bytes more allowed whole.
    let found = part_cut messages max bytes more allowed whole in
    (found.first, found.others, found.rest, found.whole, found.cut)
