use Rattle.std.proofs.Common.{refl}
use Rattle.ads.proofs.NamedLemmas.{doubled_found, not_false}
use Rattle.ads.proofs.judging.find.Goals as goal

pub returns-then-is_some-clause-fault : goal.returns-then-is_some-clause-fault
returns-then-is_some-clause-fault c = (
  doubled_found c.args.name.now c.args.extensions.now c.loop-extension.extension-index _
      c.loop-extension.found c.loop-extension-test.true c.loop-extension.invariant c.if-is_some.ensures
      (not_false _ c.if-ne.ensures),
  refl,
)
