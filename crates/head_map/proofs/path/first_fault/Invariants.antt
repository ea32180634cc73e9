use Rattle.std.proofs.Common.{All, take}
use Rattle.head_map.specs.Paths.{HasPathFault}
use Rattle.head_map.proofs.path.first_fault.Given as goal

abbrev pub invariant-loop-fault : goal.invariant-loop-fault
invariant-loop-fault l =
    All (λ fault. ¬ (HasPathFault fault l.path)) (take l.fault-index l.faults)
