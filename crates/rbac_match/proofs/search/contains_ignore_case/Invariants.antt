use Rattle.std.proofs.Common.{◌<◌, ◌≤◌, ℕ, length, take}
use Rattle.std.specs.Str.{str_to_ascii_lowercase}
use Rattle.rbac_match.specs.private.Search.{EndsWithFirst, EndsWithMost}
use Rattle.rbac_match.proofs.search.contains_ignore_case.Given as goal

abbrev pub invariant-loop-byte : goal.invariant-loop-byte
invariant-loop-byte l = record {
  below : l.matched < length l.part;
  most : EndsWithMost (str_to_ascii_lowercase l.part)
      (take l.byte-index (str_to_ascii_lowercase l.text)) l.matched;
  none : (i : ℕ) → i ≤ l.byte-index → EndsWithFirst (str_to_ascii_lowercase l.part)
      (take i (str_to_ascii_lowercase l.text)) (length (str_to_ascii_lowercase l.part)) → ⊥;
}
