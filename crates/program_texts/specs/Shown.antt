-- A text of the command line as messages print it.
use Rattle.std.specs.Prelude.{ℕ, Bool, false, ◌==◌, ◌||◌, ◌&&◌, nat_le, if◌then◌else◌, List, [], ◌∷◌, ◌++◌}
use Rattle.std.specs.Char.{encode_utf8}
use Rattle.std.specs.Fmt.{digits}
use Rattle.std.specs.List.{flat_map}
use Rattle.std.specs.Str.{chars}

-- the character is invisible, or moves its neighbours: a control, a character without width, or one that changes the
-- direction of text
abbrev pub is_hidden : ℕ → Bool
is_hidden c = nat_le c 0x1f || (nat_le 0x7f c && nat_le c 0x9f) || (c == 0x61c)
    || (nat_le 0x200b c && nat_le c 0x200f) || (nat_le 0x2028 c && nat_le c 0x202e)
    || (nat_le 0x2060 c && nat_le c 0x206f) || (c == 0xfeff)

-- a character as it is printed: as `\u{1b}` if it is hidden, otherwise as itself
abbrev pub shown_character : ℕ → List ℕ
shown_character c = if is_hidden c then 92 ∷ 117 ∷ 123 ∷ (digits 16 false c ++ 125 ∷ []) else encode_utf8 c

-- the text as it is printed
abbrev pub shown : List ℕ → List ℕ
shown text = flat_map shown_character (chars text)
