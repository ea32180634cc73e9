-- The earliest of the times so far.
use Rattle.std.proofs.Common.{take}
use Rattle.serve_loop.specs.Earliest.{IsLeast}
use Rattle.serve_loop.proofs.times.earliest.Given as goal

abbrev pub invariant-loop-k : goal.invariant-loop-k
invariant-loop-k l = IsLeast (take l.k l.times) l.found
