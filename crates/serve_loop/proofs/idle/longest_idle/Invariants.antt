-- The earliest of the times so far.
use Rattle.std.proofs.Common.{map, take}
use Rattle.serve_loop.specs.Earliest.{IsLeast}
use Rattle.serve_loop.specs.Idle.{idle_since}
use Rattle.serve_loop.proofs.idle.longest_idle.Given as goal

abbrev pub invariant-loop-k : goal.invariant-loop-k
invariant-loop-k l = IsLeast (map idle_since (take l.k l.connections)) l.found
