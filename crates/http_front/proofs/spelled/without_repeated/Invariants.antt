use Rattle.std.proofs.Common.{◌≡◌, drop, map}
use Rattle.http_front.specs.Parts.{field_view, without_repeated}
use Rattle.http_front.proofs.spelled.without_repeated.Given as goal

abbrev pub invariant-loop-line : goal.invariant-loop-line
invariant-loop-line l =
    without_repeated (map field_view l.lines) (map field_view l.lines)
    ≡ without_repeated (map field_view (drop l.line-index l.lines)) (map field_view l.lines)
