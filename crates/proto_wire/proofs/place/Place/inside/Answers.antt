use Rattle.proto_wire.specs.Places.{emptied}
use Rattle.proto_wire.proofs.Places.{path_longer, path_shortened}
use Rattle.proto_wire.proofs.place.Place.inside.Goals as goal

pub returns-in_default : goal.returns-in_default
returns-in_default c = emptied c.in_default.ensures c.at.ensures

pub returns-then-is_full : goal.returns-then-is_full
returns-then-is_full c =
    let fits = c.in-Some.ensures in
    rw c.with_first-steps.ensures
    (path_shortened c.args.number c.args.position c.in-Some.word c.args.self.steps fits.0 fits.1 fits.2 c.args.self.end
    (rw c.if-is_full.true at c.is_full.ensures))

pub returns : goal.returns
returns c =
    let fits = c.in-Some.ensures in
    rw c.with_first-steps.ensures
    (path_longer c.args.number c.args.position c.in-Some.word c.args.self.steps fits.0 fits.1 fits.2 c.args.self.end
    (rw c.if-is_full.false at c.is_full.ensures))
