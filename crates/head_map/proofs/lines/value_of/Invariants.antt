use Rattle.std.proofs.Common.{◌≡◌, ◌++◌, drop}
use Rattle.attributes.specs.Headers.{lines_view, values_of}
use Rattle.head_map.proofs.Values.{list_of}
use Rattle.head_map.proofs.lines.value_of.Given as goal

abbrev pub invariant-loop-line : goal.invariant-loop-line
invariant-loop-line l =
    values_of l.name (lines_view l.lines)
    ≡ list_of l.found ++ values_of l.name (lines_view (drop l.line-index l.lines))
