use Rattle.std.proofs.Common.{◌≤◌, ◌<◌, ℕ, List, length}
use Rattle.std.specs.Char.{to_ascii_lowercase}
use Rattle.std.specs.Str.{str_to_ascii_lowercase}
use Rattle.rbac_match.specs.private.Search.{EndsWithMost}
use Rattle.rbac_match.proofs.Borders.{MayGrow}
use Rattle.rbac_match.proofs.search.advance.Given as goal

abbrev pub invariant-loop-matched : goal.invariant-loop-matched
invariant-loop-matched l = record {
  below : l.kept < length l.part;
  known : l.kept ≤ length l.borders;
  may : (bytes : List ℕ) → EndsWithMost (str_to_ascii_lowercase l.part) bytes l.matched
      → MayGrow (str_to_ascii_lowercase l.part) bytes (to_ascii_lowercase l.fn.byte) l.kept;
}

abbrev pub decreases-loop-matched : goal.decreases-loop-matched
decreases-loop-matched l = l.kept
