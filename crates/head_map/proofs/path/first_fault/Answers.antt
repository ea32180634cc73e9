use Rattle.std.proofs.Common.{◌≡◌, true}
use Rattle.std.proofs.lemmas.List.{take_all}
use Rattle.std.proofs.lemmas.List.Elements.{All-more}
use Rattle.head_map.specs.Paths.{HasPathFault}
use Rattle.head_map.proofs.path.first_fault.Goals as goal

pub loop-fault-preserved : goal.loop-fault-preserved
loop-fault-preserved c =
    All-more (λ fault. ¬ (HasPathFault fault c.args.path.now)) c.args.faults.now
    c.loop-fault.fault-index _ c.loop-fault-test.true c.loop-fault.invariant
    (λ has. let claim : c.is_in.result ≡ true = c.is_in.ensures.1 has in absurd cc)

pub returns : goal.returns
returns c =
    let all = take_all c.loop-fault.fault-index c.args.faults.now c.loop-fault-test.false in
    rw all at c.loop-fault.invariant
