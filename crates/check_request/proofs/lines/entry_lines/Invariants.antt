use Rattle.std.proofs.Common.{◌≡◌, map, take}
use Rattle.http_front.specs.Parts.{field_view as line_view}
use Rattle.proto_wire.specs.Maps.{entries_view, text}
use Rattle.check_request.specs.Lines.{entry_line}
use Rattle.check_request.proofs.lines.entry_lines.Given as goal

abbrev pub invariant-loop-entry : goal.invariant-loop-entry
invariant-loop-entry l =
    map line_view l.lines.items
    ≡ map entry_line (entries_view text (λ key. key.now) (take l.entry-index l.entries))
