-- What was written, and how the rest of the text is printed, is the whole.
use Rattle.std.proofs.Common.{◌≡◌, ◌++◌, IsUtf8, chars, string_bytes}
use Rattle.std.specs.List.{flat_map}
use Rattle.std.specs.Str.Iter.{chars_rest}
use Rattle.program_texts.specs.Shown.{shown, shown_character}
use Rattle.program_texts.proofs.shown.shown.Given as goal

abbrev pub invariant-loop-c : goal.invariant-loop-c
invariant-loop-c l = IsUtf8 (chars_rest l.c-iterator)
    × (string_bytes l.shown ++ flat_map shown_character (chars (chars_rest l.c-iterator))
    ≡ shown l.fn.text)
