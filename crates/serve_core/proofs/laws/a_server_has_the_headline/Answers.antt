-- By the law that its board keeps, and the turns that its service keeps.
use Rattle.std.proofs.Math.Logic.{∥∥₁_elim, ∥∥₁_map, ∥∥₁_prop}
use Rattle.serve_core.proofs.Wire.{wire_headline}
use Rattle.serve_core.proofs.laws.a_server_has_the_headline.Goals as goal

pub returns : goal.returns
returns g c = ∥∥₁_elim c.args.server.now.board.belongs ∥∥₁_prop
    (λ belongs. ∥∥₁_map c.args.server.now.board.parties.service.driven (wire_headline _ _ _ _ belongs))
