use Rattle.std.proofs.Common.{◌≡◌, map, drop}
use Rattle.c_inputs.specs.Requests.{has_long_line}
use Rattle.http_front.specs.Parts.{field_view}
use Rattle.c_inputs.proofs.request.has_long_line.Given as goal

abbrev pub invariant-loop-line : goal.invariant-loop-line
invariant-loop-line l =
    has_long_line l.most (map field_view l.lines) ≡ has_long_line l.most (map field_view (drop l.line-index l.lines))
