use Rattle.std.proofs.Common.{◌≡◌, map, take}
use Rattle.std.specs.Prelude.{is_some}
use Rattle.ads.proofs.answer.filters_given.Given as goal

abbrev pub invariant-loop-policies : goal.invariant-loop-policies
invariant-loop-policies l = l.filters.items ≡ map is_some (take l.policies-index l.given)
