use Rattle.std.proofs.Common.{◌≡◌, map, take}
use Rattle.attributes.specs.Draft.{with_entries}
use Rattle.attributes.specs.Headers.{line_entry}
use Rattle.http_front.specs.Parts.{field_view}
use Rattle.http_front.specs.Rules.{lowered}
use Rattle.http_front.specs.private.Parts.{head_fields}
use Rattle.http_front.proofs.spelled_ask.draft_lines.Given as goal

abbrev pub invariant-loop-line : goal.invariant-loop-line
invariant-loop-line l =
    l.draft ≡ with_entries l.fn.draft
    (map line_entry (map lowered (head_fields (map field_view (take l.line-index l.lines)))))
