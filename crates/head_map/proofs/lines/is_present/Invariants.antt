use Rattle.std.proofs.Common.{◌≡◌, drop}
use Rattle.attributes.specs.Headers.{lines_view}
use Rattle.head_map.specs.Mapped.{is_present}
use Rattle.head_map.proofs.lines.is_present.Given as goal

abbrev pub invariant-loop-line : goal.invariant-loop-line
invariant-loop-line l = is_present (lines_view l.lines) l.name ≡ is_present (lines_view (drop l.line-index l.lines)) l.name
