use Rattle.std.proofs.Common.{◌≡◌, ◌++◌, drop, map, take}
use Rattle.http_front.specs.Parts.{field_view, without_host}
use Rattle.http_front.proofs.spelled.without_host.Given as goal

abbrev pub invariant-loop-at : goal.invariant-loop-at
invariant-loop-at l =
    without_host l.value (map field_view l.lines)
    ≡ map field_view (take l.at l.lines) ++ without_host l.value (map field_view (drop l.at l.lines))
