use Rattle.std.proofs.Common.{inl, refl}
use Rattle.xds_wire.specs.View.{any_view, extension_view}
use Rattle.ads.specs.Answer.{IsResource}
use Rattle.ads.specs.private.Taking.{ReadFault}
use Rattle.ads.proofs.Lists.{exit_first, zip_more}
use Rattle.ads.proofs.judging.read_resources.Goals as goal

pub returns-in_err-read_resource-clause-fault : goal.returns-in_err-read_resource-clause-fault
returns-in_err-read_resource-clause-fault c =
    exit_first IsResource ReadFault any_view extension_view c.args.resources.now c.loop-resource.resource-index _
    c.loop-resource.extensions.items c.loop-resource-test.true c.loop-resource.invariant
    c.from_residual.result _ c.from_residual.ensures.1 c.in_err-read_resource.ensures.fault

pub returns-in_err-push-clause-fault : goal.returns-in_err-push-clause-fault
returns-in_err-push-clause-fault c =
    exit_first IsResource ReadFault any_view extension_view c.args.resources.now c.loop-resource.resource-index _
    c.loop-resource.extensions.items c.loop-resource-test.true c.loop-resource.invariant
    c.from_residual-in_err-push.result _ c.from_residual-in_err-push.ensures.1
    (inl (refl, c.in_ok-read_resource.ensures.found.type_url))

pub loop-resource-preserved : goal.loop-resource-preserved
loop-resource-preserved c =
    zip_more IsResource any_view extension_view c.args.resources.now c.loop-resource.resource-index _
    c.loop-resource.extensions.items _ _ c.loop-resource-test.true c.loop-resource.invariant
    c.in_ok-read_resource.ensures.found c.in_ok-push.ensures.items
