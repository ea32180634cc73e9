use Rattle.xds_wire.proofs.frames.Frames.copy.Goals as goal

pub invariant_of-result : goal.invariant_of-result
invariant_of-result c = c.in_ok-state.ensures.sound c.self.inside.max c.self.invariant
