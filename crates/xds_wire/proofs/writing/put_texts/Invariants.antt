use Rattle.std.proofs.Common.{take}
use Rattle.xds_wire.specs.View.{texts_view}
use Rattle.xds_wire.specs.Written.{strings_fields}
use Rattle.xds_wire.specs.private.Writing.{Adds}
use Rattle.xds_wire.proofs.writing.put_texts.Given as goal

abbrev pub invariant-loop-text : goal.invariant-loop-text
invariant-loop-text l =
    Adds l.initial.writer (strings_fields l.number (texts_view (take l.text-index l.texts))) l.writer
