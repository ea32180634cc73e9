use Rattle.std.proofs.Common.{All, map, take}
use Rattle.httparse.specs.Grammar.{IsField}
use Rattle.http_front.specs.Parts.{field_view, line_of}
use Rattle.http_front.proofs.spelled.malformed_line.Given as goal

abbrev pub invariant-loop-line : goal.invariant-loop-line
invariant-loop-line l = All IsField (map line_of (map field_view (take l.line-index l.lines)))
