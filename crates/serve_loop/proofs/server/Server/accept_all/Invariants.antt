-- What happened stays.
use Rattle.serve_loop.specs.Law.{Grows}
use Rattle.serve_loop.proofs.server.Server.accept_all.Given as goal

abbrev pub invariant-loop : goal.invariant-loop
invariant-loop g l = Grows (g.S.Service.turns l.fn.self.board.parties.service) (g.S.Service.turns l.self.board.parties.service)
