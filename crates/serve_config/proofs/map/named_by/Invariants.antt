-- The fields so far are those that the members so far name.
use Rattle.std.proofs.Common.{take}
use Rattle.std.specs.List.{AllZip}
use Rattle.serve_config.specs.Maps.{IsNamedBy, present}
use Rattle.serve_config.specs.Members.{data_of}
use Rattle.serve_config.proofs.map.named_by.Given as goal

abbrev pub invariant-loop-member : goal.invariant-loop-member
invariant-loop-member l = AllZip IsNamedBy (present (data_of l.map) (take l.member-index l.members)) l.named.items
