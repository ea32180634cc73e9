use Rattle.std.proofs.Common.{inr}
use Rattle.proto_wire.specs.Values.{Utf8Fault}
use Rattle.xds_wire.proofs.ReadExits.{exit_each}
use Rattle.xds_wire.proofs.texts.read_each.Goals as goal

pub returns-in_err-text_of-clause-fault : goal.returns-in_err-text_of-clause-fault
returns-in_err-text_of-clause-fault c =
    exit_each Utf8Fault c.args.parts.now c.loop-part.part-index _ c.loop-part-test.true
    c.from_residual-in_err-text_of.result _ c.from_residual-in_err-text_of.ensures.1 (inr c.in_err-text_of.ensures.fault)
