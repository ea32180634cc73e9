-- What happened stays.
use Rattle.serve_loop.specs.Law.{Grows}
use Rattle.serve_loop.proofs.updates.Updates.turn.Given as goal

abbrev pub invariant-loop : goal.invariant-loop
invariant-loop g l = Grows (g.S.Service.turns l.fn.board.parties.service) (g.S.Service.turns l.board.parties.service)
