-- The definitions of values on examples of the standards.
use Rattle.std.proofs.Common.{◌≡◌, pos, negsuc, true, false, [], ◌∷◌, Some, None, refl}
use Rattle.std.specs.Prelude.{codes}
use Rattle.std.specs.declared.cmp.Ordering.TheVariants.{Less}
use Rattle.std.specs.Cmp.Lexicographic.{slice_cmp}
use Rattle.std.specs.Ordering.{nat_cmp}
use Rattle.std.specs.Char.{encode_utf8}
use Rattle.cel_value.specs.Values.{bool_key, int_key, uint_key, text_key, bool, int, uint, text, bytes, list, map_of, no_items, item, CelEntries, no_entries, entry}
use Rattle.cel_value.specs.Equality.{value_eq}
use Rattle.cel_value.specs.Items.{key_items}
use Rattle.cel_value.specs.Keys.{get, is_ascending, key_cmp, put}
use Rattle.cel_value.specs.Masses.{length_of, mass}
use Rattle.cel_value.specs.Texts.{utf8_of}

-- RFC 3629, section 7: A, not identical to, Alpha, full stop; and a Chinese character of four bytes
utf8_of_1_to_3_bytes : utf8_of (65 ∷ 8802 ∷ 913 ∷ 46 ∷ [])
    ≡ 65 ∷ 226 ∷ 137 ∷ 162 ∷ 206 ∷ 145 ∷ 46 ∷ []
unfolding encode_utf8
utf8_of_1_to_3_bytes = refl

utf8_of_4_bytes : utf8_of (65279 ∷ 144308 ∷ []) ≡ 239 ∷ 187 ∷ 191 ∷ 240 ∷ 163 ∷ 142 ∷ 180 ∷ []
unfolding encode_utf8
utf8_of_4_bytes = refl

-- texts stand by code point: U+FFFF is below U+10000, which UTF-16 would turn round
text_beyond_the_basic_plane : key_cmp (text_key (65535 ∷ [])) (text_key (65536 ∷ [])) ≡ Less
text_beyond_the_basic_plane = refl

text_prefix_first : key_cmp (text_key (codes "ab")) (text_key (codes "abc")) ≡ Less
text_prefix_first = refl

text_empty_first : key_cmp (text_key []) (text_key (codes "a")) ≡ Less
text_empty_first = refl

-- false is before true, and ints stand by their sign
false_before_true : key_cmp (bool_key false) (bool_key true) ≡ Less
false_before_true = refl

negative_before_zero : key_cmp (int_key (negsuc 0)) (int_key (pos 0)) ≡ Less
negative_before_zero = refl

-- kinds of keys stand one after the other: a great int is before the least uint
int_before_uint : key_cmp (int_key (pos 9)) (uint_key 0) ≡ Less
int_before_uint = refl

-- bytes stand by their first that differs
bytes_by_the_first : slice_cmp nat_cmp (1 ∷ 255 ∷ []) (2 ∷ 0 ∷ []) ≡ Less
bytes_by_the_first = refl

-- an int is not the uint of its number, and a text is not its bytes
int_is_no_uint : value_eq (int (pos 1)) (uint 1) ≡ false
int_is_no_uint = refl

text_is_no_bytes : value_eq (text (codes "a")) (bytes (codes "a")) ≡ false
text_is_no_bytes = refl

-- a composed letter is not the letter and its mark: texts are compared without normalisation
no_normalisation : value_eq (text (233 ∷ [])) (text (101 ∷ 769 ∷ [])) ≡ false
no_normalisation = refl

-- the map {3: true, 1: false}, whose entries were put in turn
abbrev two : CelEntries
two = put (int_key (pos 1)) (bool false) (put (int_key (pos 3)) (bool true) no_entries)

two_rises : is_ascending two ≡ true
two_rises = refl

two_is_walked_upwards : key_items two ≡ item (int (pos 1)) (item (int (pos 3)) no_items)
two_is_walked_upwards = refl

two_has_its_value : get two (int_key (pos 3)) ≡ Some (bool true)
two_has_its_value = refl

two_has_no_other : get two (uint_key 3) ≡ None
two_has_no_other = refl

-- equal maps are equal whatever order they were written in
order_does_not_count : value_eq (map_of two)
    (map_of (put (int_key (pos 3)) (bool true) (put (int_key (pos 1)) (bool false) no_entries)))
    ≡ true
order_does_not_count = refl

-- entries whose keys fall, or stand twice, are no map
falling_is_no_map : is_ascending (entry (int_key (pos 3)) (bool true) (entry (int_key (pos 1))
    (bool true) no_entries)) ≡ false
falling_is_no_map = refl

twice_is_no_map : is_ascending (entry (int_key (pos 1)) (bool true) (entry (int_key (pos 1))
    (bool true) no_entries)) ≡ false
twice_is_no_map = refl

-- ["a€", b"ab", 7] has three items; its mass is 1, and 1 + 4, 1 + 2 and 1 for them
masses_add_up : mass (list (item (text (97 ∷ 8364 ∷ [])) (item (bytes (codes "ab")) (item (int
    (pos 7)) no_items)))) ≡ 10
unfolding encode_utf8
masses_add_up = refl

-- {1: true, 3: false} has mass 1 and four of its keys and values
map_mass : mass (map_of two) ≡ 5
map_mass = refl

text_length_in_bytes : length_of (text (97 ∷ 233 ∷ 8364 ∷ 119070 ∷ [])) ≡ 10
unfolding encode_utf8
text_length_in_bytes = refl
