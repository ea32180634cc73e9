use Rattle.std.proofs.Common.{◌≡◌, ◌++◌, length}
use Rattle.std.specs.String.{string_bytes}
use Rattle.attributes.specs.Headers.{lines_view}
use Rattle.head_map.specs.Heads.{field_lines}
use Rattle.head_map.proofs.head.push_lines.Given as goal

abbrev pub invariant-loop-rest : goal.invariant-loop-rest
invariant-loop-rest l =
    string_bytes l.text ++ field_lines (lines_view l.rest)
    ≡ string_bytes l.initial.text ++ field_lines (lines_view l.lines)

abbrev pub decreases-loop-rest : goal.decreases-loop-rest
decreases-loop-rest l = length l.rest
