-- The fields so far are those of the items so far.
use Rattle.std.proofs.Common.{map, take}
use Rattle.std.specs.List.{AllZip}
use Rattle.serde_json.specs.View.{view}
use Rattle.serve_config.specs.Calls.{IsMetadata}
use Rattle.serve_config.proofs.grpc.fields_of.Given as goal

abbrev pub invariant-loop-item : goal.invariant-loop-item
invariant-loop-item l = AllZip IsMetadata (map view (take l.item-index l.items)) l.fields.items
