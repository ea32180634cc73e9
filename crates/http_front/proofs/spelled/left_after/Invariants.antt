use Rattle.std.proofs.Common.{◌≡◌, ◌+◌, drop, length, map}
use Rattle.http_front.specs.Parts.{field_view}
use Rattle.http_front.proofs.Spelling.{lines_text}
use Rattle.http_front.proofs.spelled.left_after.Given as goal

abbrev pub invariant-loop-line : goal.invariant-loop-line
invariant-loop-line l =
    length (lines_text (map field_view l.lines)) + l.left
    ≡ l.fn.room + length (lines_text (map field_view (drop l.line-index l.lines)))
