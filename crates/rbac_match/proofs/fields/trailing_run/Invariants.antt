use Rattle.std.proofs.Common.{map, take}
use Rattle.proto_wire.specs.Fields.{field_view}
use Rattle.rbac_match.proofs.Runs.{BeginsAt}
use Rattle.rbac_match.proofs.fields.trailing_run.Given as goal

abbrev pub invariant-loop-place : goal.invariant-loop-place
invariant-loop-place l = BeginsAt l.start (map field_view (take l.place l.fields))
