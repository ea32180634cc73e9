use Rattle.std.proofs.Common.{List, map, take}
use Rattle.proto_wire.specs.Fields.{Wire}
use Rattle.xds_wire.specs.Written.{AreEach}
use Rattle.xds_wire.specs.private.Writing.{Adds}
use Rattle.check_request.specs.Answers.{OptionWritten}
use Rattle.check_request.specs.View.{set_view}
use Rattle.check_request.proofs.answer.put_options.Given as goal

abbrev pub invariant-loop-header : goal.invariant-loop-header
invariant-loop-header l =
    (fs : List Wire) × AreEach OptionWritten 2 (map set_view (take l.header-index l.set)) fs
    × Adds l.initial.writer fs l.writer
