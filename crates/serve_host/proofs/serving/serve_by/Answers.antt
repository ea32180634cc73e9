-- By the setup of the service, which stays, and what happened on the wire.
use Rattle.std.proofs.Common.{◌≡◌, refl, ◌∙◌}
use Rattle.serve_core.specs.Served.{served_setup, served_turns}
use Rattle.serve_loop.proofs.Histories.{opening_stays, placed_on, setup_stays}
use Rattle.serve_host.proofs.ServingLemmas.{headline_of}
use Rattle.serve_host.proofs.serving.serve_by.Goals as goal

pub returns-clause-headline : goal.returns-clause-headline
returns-clause-headline g c =
    let first = c.in_ok-server.server.board.parties in
    let last = c.run-server.result.0.board.parties in
    let begun : served_setup first.service ≡ served_setup c.in_ok-service.service =
    rw (c.in_ok-server.ensures, c.in_ok-board.ensures.1) refl in
    rw (c.ended_of.ensures.network, c.into_network.ensures) (headline_of c.args.config.now c.args.settings.now
    c.in_ok-service.service last.service _ _ c.in_ok-service.ensures.setup
    (setup_stays g.N.Network.setup served_turns served_setup first last c.run-server.ensures.goes_on ∙ begun)
    c.run-server.result.0.board.belongs
    (placed_on _ _ _ _ _ c.run-server.result.0.board.counted c.run-server.result.0.board.kept))

pub returns-clause-setup : goal.returns-clause-setup
returns-clause-setup g c =
    let first = c.in_ok-server.server.board.parties in
    let last = c.run-server.result.0.board.parties in
    let begun : g.N.Network.setup first.network ≡ g.N.Network.setup c.args.surroundings.network =
    rw (c.in_ok-server.ensures, c.in_ok-board.ensures.0) refl in
    rw (c.ended_of.ensures.network, c.into_network.ensures)
    (opening_stays g.N.Network.setup served_turns served_setup first last c.run-server.ensures.goes_on ∙ begun)

pub ended_of-requires : goal.ended_of-requires
ended_of-requires g c = rw c.into_network.ensures c.run-server.ensures.told
