use Rattle.std.proofs.Common.{◌≡◌, ◌+◌, length, take, drop}
use Rattle.std.specs.Str.{str_to_ascii_lowercase}
use Rattle.rbac_match.specs.private.Search.{EndsWithMost, AreBorders}
use Rattle.rbac_match.proofs.search.borders_of.Given as goal

abbrev pub invariant-loop-byte : goal.invariant-loop-byte
invariant-loop-byte l = record {
  so_far : length l.borders.items ≡ l.byte-index + 1;
  are : AreBorders (str_to_ascii_lowercase l.part) l.borders.items;
  last : EndsWithMost (str_to_ascii_lowercase l.part)
      (drop 1 (take (l.byte-index + 1) (str_to_ascii_lowercase l.part))) l.border;
}
