use Rattle.std.proofs.Common.{All, map, take}
use Rattle.http_front.specs.Parts.{field_view}
use Rattle.http_front.specs.private.Parts.{HasTextValue, head_fields}
use Rattle.http_front.proofs.spelled_ask.are_texts.Given as goal

abbrev pub invariant-loop-line : goal.invariant-loop-line
invariant-loop-line l = All HasTextValue (head_fields (map field_view (take l.line-index l.lines)))
