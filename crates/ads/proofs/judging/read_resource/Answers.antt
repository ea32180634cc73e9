use Rattle.std.proofs.Common.{◌≡◌, [], inr}
use Rattle.proto_wire.specs.declared.refusal.Refusal.TheVariants.{Missing}
use Rattle.xds_wire.specs.Discovery.{ExtensionFault}
use Rattle.xds_wire.specs.View.{any_view, extension_view}
use Rattle.ads.specs.Answer.{unreadable, nameless}
use Rattle.ads.proofs.ReadingLemmas.{exit_read}
use Rattle.ads.proofs.judging.read_resource.Goals as goal

pub returns-in_err-extension-clause-fault : goal.returns-in_err-extension-clause-fault
returns-in_err-extension-clause-fault c =
    exit_read (any_view c.args.resource.now) (ExtensionFault (any_view c.args.resource.now).value)
    c.from_residual-in_err-extension.result _ c.in_ok-check_type.ensures.found
    c.from_residual-in_err-extension.ensures.1 c.in_err-extension.ensures.fault
    (λ e bad. unreadable c.in_ok-check_type.ensures.found bad)

pub returns-in_err-require_name-clause-fault : goal.returns-in_err-require_name-clause-fault
returns-in_err-require_name-clause-fault c =
    exit_read (any_view c.args.resource.now) (λ e. (c.in_ok-extension.extension.name.now ≡ []) × (e ≡ Missing))
    c.from_residual-in_err-require_name.result _ c.in_ok-check_type.ensures.found
    c.from_residual-in_err-require_name.ensures.1 (inr c.in_err-require_name.ensures.fault)
    (λ e bad. nameless (extension_view c.in_ok-extension.extension) c.in_ok-check_type.ensures.found
    c.in_ok-extension.ensures.found bad.0 bad.1)
