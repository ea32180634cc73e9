use Rattle.std.proofs.Common.{◌≡◌, drop, map}
use Rattle.std.specs.List.{list_all}
use Rattle.std.specs.String.{string_bytes}
use Rattle.attributes.specs.Headers.{lines_view}
use Rattle.head_map.specs.Mapped.{is_present}
use Rattle.head_map.proofs.lines.are_present.Given as goal

abbrev pub invariant-loop-name : goal.invariant-loop-name
invariant-loop-name l =
    list_all (is_present (lines_view l.lines)) (map string_bytes l.names)
    ≡ list_all (is_present (lines_view l.lines)) (map string_bytes (drop l.name-index l.names))
