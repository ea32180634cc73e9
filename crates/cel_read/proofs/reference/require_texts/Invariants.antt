use Rattle.std.proofs.Common.{take}
use Rattle.std.specs.List.{AllByRecursion}
use Rattle.std.specs.Str.{IsUtf8}
use Rattle.proto_wire.specs.Merge.{parts_view}
use Rattle.cel_read.proofs.reference.require_texts.Given as goal

abbrev pub invariant-loop-payload : goal.invariant-loop-payload
invariant-loop-payload l = AllByRecursion IsUtf8 (parts_view (take l.payload-index l.payloads))
