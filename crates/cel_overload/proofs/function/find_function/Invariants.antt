use Rattle.std.proofs.Common.{◌≡◌, drop}
use Rattle.cel_overload.specs.Functions.{function_at}
use Rattle.cel_overload.specs.private.View.{names_view}
use Rattle.cel_overload.proofs.function.find_function.Given as goal

-- the function is that of the entries that are left
abbrev pub invariant-loop-own : goal.invariant-loop-own
invariant-loop-own l = function_at l.name (names_view (drop l.own-index l.entries))
    ≡ function_at l.name (names_view l.entries)
