-- By the law that its board keeps, and the turns that its service keeps.
use Rattle.std.proofs.Math.Logic.{∥∥₁_elim, ∥∥₁_prop}
use Rattle.serve_core.proofs.MappedWire.{served_headline}
use Rattle.serve_core.proofs.laws.a_served_wire_has_the_headline.Goals as goal

pub returns : goal.returns
returns g c = ∥∥₁_elim c.args.server.now.board.belongs ∥∥₁_prop
    (served_headline c.args.server.now.board.parties.service _ _)
