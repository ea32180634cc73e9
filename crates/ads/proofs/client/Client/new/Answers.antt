use Rattle.std.proofs.Common.{ap}
use Rattle.ads.specs.Answer.{Accepted}
use Rattle.ads.specs.Views.{policies_view}
use Rattle.ads.proofs.AdmittedLemmas.{merely_none}
use Rattle.ads.proofs.client.Client.new.Goals as goal

pub invariant_of-result-clause-admitted : goal.invariant_of-result-clause-admitted
invariant_of-result-clause-admitted c =
    merely_none c.args.config.now c.in_ok-config.config (policies_view c.in_ok-accepted.accepted.policies.items)
    c.in_ok-config.ensures (ap (λ (a : Accepted). a.policies) c.in_ok-accepted.ensures)
