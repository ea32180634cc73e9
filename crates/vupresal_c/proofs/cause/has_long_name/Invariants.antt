use Rattle.std.proofs.Common.{◌≡◌, map, drop}
use Rattle.http_front.specs.Parts.{field_view}
use Rattle.vupresal_c.specs.Causes.{has_long_name}
use Rattle.vupresal_c.proofs.cause.has_long_name.Given as goal

abbrev pub invariant-loop-line : goal.invariant-loop-line
invariant-loop-line l =
    has_long_name l.most (map field_view l.lines) ≡ has_long_name l.most (map field_view (drop l.line-index l.lines))
