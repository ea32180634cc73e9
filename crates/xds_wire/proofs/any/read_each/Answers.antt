use Rattle.std.proofs.Common.{[], ◌∷◌}
use Rattle.xds_wire.specs.Discovery.{IsAny, AnyFault}
use Rattle.xds_wire.specs.View.{any_view}
use Rattle.xds_wire.proofs.Each.{zip_more}
use Rattle.xds_wire.proofs.ReadExits.{exit_each}
use Rattle.xds_wire.proofs.any.read_each.Goals as goal

pub returns-in_err-read_any-clause-fault : goal.returns-in_err-read_any-clause-fault
returns-in_err-read_any-clause-fault c =
    exit_each (λ part e. AnyFault (part ∷ []) e) c.args.parts.now c.loop-part.part-index _
    c.loop-part-test.true c.from_residual-in_err-read_any.result _ c.from_residual-in_err-read_any.ensures.1
    c.in_err-read_any.ensures.fault

pub loop-part-preserved : goal.loop-part-preserved
loop-part-preserved c =
    zip_more (λ part m. IsAny (part ∷ []) m) any_view c.args.parts.now c.loop-part.part-index _
    c.loop-part.messages.items _ _ c.loop-part-test.true c.loop-part.invariant
    c.in_ok-read_any.ensures.found c.in_ok-push.ensures.items
