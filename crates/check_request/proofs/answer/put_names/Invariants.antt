use Rattle.std.proofs.Common.{take}
use Rattle.xds_wire.specs.View.{texts_view}
use Rattle.xds_wire.specs.Written.{strings_fields}
use Rattle.xds_wire.specs.private.Writing.{Adds}
use Rattle.check_request.proofs.answer.put_names.Given as goal

abbrev pub invariant-loop-name : goal.invariant-loop-name
invariant-loop-name l =
    Adds l.initial.writer (strings_fields 5 (texts_view (take l.name-index l.names))) l.writer
