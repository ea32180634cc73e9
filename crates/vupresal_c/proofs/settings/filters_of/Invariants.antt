-- The filters so far are those of the resources so far.
use Rattle.std.proofs.Common.{◌≡◌, take}
use Rattle.ads.specs.Views.{filters_view}
use Rattle.vupresal_c.specs.Settings.{resources_given}
use Rattle.vupresal_c.proofs.settings.filters_of.Given as goal

abbrev pub invariant-loop-resource : goal.invariant-loop-resource
invariant-loop-resource l = filters_view l.filters.items ≡ resources_given l.bounds (take l.resource-index l.resources)
