use Rattle.std.proofs.Common.{List, map, take}
use Rattle.proto_wire.specs.Fields.{Wire}
use Rattle.xds_wire.specs.View.{any_view}
use Rattle.xds_wire.specs.Written.{AnyWritten, AreEach}
use Rattle.xds_wire.specs.private.Writing.{Adds}
use Rattle.xds_wire.proofs.any.put_each_any.Given as goal

abbrev pub invariant-loop-message : goal.invariant-loop-message
invariant-loop-message l =
    (fs : List Wire) × AreEach AnyWritten l.number (map any_view (take l.message-index l.messages)) fs
    × Adds l.initial.writer fs l.writer
