-- What was written, and what the rest of the name comes to, is the whole.
use Rattle.std.proofs.Common.{◌≡◌, ◌++◌, ◌∷◌, IsUtf8, chars, string_bytes}
use Rattle.std.specs.List.{flat_map}
use Rattle.std.specs.Str.Iter.{chars_rest}
use Rattle.rbac_judge.specs.Explain.{escaped}
use Rattle.rbac_judge.proofs.explain.quoted.Given as goal

abbrev pub invariant-loop-c : goal.invariant-loop-c
invariant-loop-c l = IsUtf8 (chars_rest l.c-iterator)
    × (string_bytes l.text ++ flat_map escaped (chars (chars_rest l.c-iterator))
    ≡ 34 ∷ flat_map escaped (chars l.fn.name))
