use Rattle.std.proofs.Common.{List, ◌++◌, map, take}
use Rattle.attributes.specs.Headers.{Entry}
use Rattle.http_front.specs.Parts.{field_view}
use Rattle.http_front.specs.Rules.{lowered}
use Rattle.http_front.specs.private.Parsed.{IsFraming}
use Rattle.http_front.specs.private.Parts.{head_fields}
use Rattle.http_front.proofs.spelled_ask.add_lines.Given as goal

abbrev pub invariant-loop-line : goal.invariant-loop-line
invariant-loop-line l =
    (before : List Entry) → IsFraming before l.fn.framing
    → IsFraming (before ++ map lowered (head_fields (map field_view (take l.line-index l.lines)))) l.framing
