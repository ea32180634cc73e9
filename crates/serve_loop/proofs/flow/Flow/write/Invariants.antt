-- What happened stays.
use Rattle.serve_loop.specs.Law.{GoesOn}
use Rattle.serve_loop.proofs.flow.Flow.write.Given as goal

abbrev pub invariant-loop : goal.invariant-loop
invariant-loop g l = GoesOn g.N.Network.setup g.S.Service.turns g.S.Service.setup l.fn.board.parties l.board.parties
