use Rattle.std.proofs.Common.{◌≡◌, map, take}
use Rattle.attributes.specs.Draft.{with_entries}
use Rattle.attributes.specs.Headers.{line_entry, lines_view}
use Rattle.attributes.proofs.draft.add_lines.Given as goal

abbrev pub invariant-loop-line : goal.invariant-loop-line
invariant-loop-line l =
    l.draft ≡ with_entries l.fn.draft (map line_entry (lines_view (take l.line-index l.lines)))
