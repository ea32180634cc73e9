-- The text of a JSON value is UTF-8, and has no line feed.
use Rattle.std.proofs.Common.{◌≡◌, ◌<◌, ◌≤◌, ◌^◌, ◌==◌, ◌||◌, ◌&&◌, ℕ, zero, suc, Bool, true, false, cond, List, [], ◌∷◌, ◌++◌, length, not, IsUtf8, inl, inr, refl, sym, ap, ap₂, ◌∙◌, arith, decimal}
use Rattle.std.proofs.lemmas.Bool.{and_parts, cases_eq, cases_lt, ne_eqb, or_parts}
use Rattle.std.proofs.lemmas.Fmt.{IsAscii-decimal, decimal_is_IsNumeral}
use Rattle.std.proofs.lemmas.Str.{IsUtf8-append, IsUtf8-from_ascii, IsUtf8-nil}
use Rattle.std.specs.List.{list_any}
use Rattle.std.specs.Char.{digit_value}
use Rattle.std.specs.Io.BufRead.{drop_through, take_through}
use Rattle.std.specs.Str.Parse.{AllDigits}
use Rattle.json.specs.Print.{escape, escape_byte, quoted, token_text}
use Rattle.json.specs.Token as json
use Rattle.json.proofs.Printed.Strings.{escape_byte_plain}
use Rattle.json.proofs.Printed.Utf8.{IsUtf8-are_ascii, IsUtf8-boolean, IsUtf8-quoted}
use Rattle.serde_json.specs.Data.{Num, unsigned, negative, float, Data, null, boolean, number, string, array, object, Members, no_members, member}
use Rattle.serde_json.specs.Written.{compact_text, members_text, comma_if}
use Rattle.program_texts.proofs.JsonLines.{IsPlain, ArePlain}

-- ---- UTF-8

comma_utf8 : (later : Bool) → IsUtf8 (comma_if later)
comma_utf8 true = IsUtf8-are_ascii (44 ∷ []) refl
comma_utf8 false = IsUtf8-nil

mutual
  pub text_utf8 : (n : ℕ) (d : Data) → IsPlain n d → IsUtf8 (compact_text d)
  text_utf8 n null h = IsUtf8-are_ascii (token_text json.null) refl
  text_utf8 n (boolean b) h = IsUtf8-boolean b
  text_utf8 n (number (unsigned m)) h = IsUtf8-from_ascii (decimal m) (IsAscii-decimal m h)
  text_utf8 n (number (negative z)) h = absurd h
  text_utf8 n (number (float x)) h = absurd h
  text_utf8 n (string s) h = IsUtf8-quoted s h
  text_utf8 n (array ds) h = absurd h
  text_utf8 zero (object ms) h = absurd h
  text_utf8 (suc n) (object ms) h =
      IsUtf8-append (123 ∷ []) (members_text false ms) (IsUtf8-are_ascii (123 ∷ []) refl) (members_utf8 n false ms h)

  members_utf8 : (n : ℕ) (later : Bool) (ms : Members) → ArePlain n ms → IsUtf8 (members_text later ms)
  members_utf8 n later no_members h = IsUtf8-are_ascii (125 ∷ []) refl
  members_utf8 n later (member k d ms) h =
      IsUtf8-append (comma_if later) _ (comma_utf8 later)
      (IsUtf8-append (quoted k) _ (IsUtf8-quoted k h.0)
      (IsUtf8-append (58 ∷ []) _ (IsUtf8-are_ascii (58 ∷ []) refl)
      (IsUtf8-append (compact_text d) _ (text_utf8 n d h.1) (members_utf8 n true ms h.3))))

-- ---- no line feed

-- the text has a line feed (10)
abbrev pub has_feed : List ℕ → Bool
has_feed text = list_any (λ b. b == 10) text

pub feed_append : (xs ys : List ℕ) → has_feed xs ≡ false → has_feed ys ≡ false → has_feed (xs ++ ys) ≡ false
feed_append [] ys h k = k
feed_append (x ∷ xs) ys h k = let p = or_parts (x == 10) (has_feed xs) h in rw p.0 (feed_append xs ys p.1 k)

-- the escapes of the bytes below n have none
abbrev no_feeds_below : ℕ → Bool
no_feeds_below zero = true
no_feeds_below (suc n) = not (has_feed (escape_byte n)) && no_feeds_below n

not_false : (b : Bool) → not b ≡ true → b ≡ false
not_false true h = absurd cc
not_false false h = refl

no_feed_below : (n : ℕ) → no_feeds_below n ≡ true → (x : ℕ) → x < n → has_feed (escape_byte x) ≡ false
no_feed_below zero e x h = absurd (omega arith)
no_feed_below (suc n) e x h =
    let p = and_parts _ _ e in
    elim (cases_eq x n) [ inl same ↦ rw same (not_false _ p.0) | inr other ↦ no_feed_below n p.1 x (omega arith) ]

small_bytes : no_feeds_below 128 ≡ true
unfolding escape_byte
small_bytes = refl

byte_no_feed : (x : ℕ) → has_feed (escape_byte x) ≡ false
byte_no_feed x = elim (cases_lt x 128) [
  | inl small ↦ no_feed_below 128 small_bytes x small
  | inr large ↦
      rw (escape_byte_plain x (λ e. omega arith) (λ e. omega arith) (omega arith)) (rw (ne_eqb x 10 (λ e. omega arith)) refl)
]

escape_no_feed : (s : List ℕ) → has_feed (escape s) ≡ false
escape_no_feed [] = refl
escape_no_feed (x ∷ s) = feed_append (escape_byte x) (escape s) (byte_no_feed x) (escape_no_feed s)

quoted_no_feed : (s : List ℕ) → has_feed (quoted s) ≡ false
quoted_no_feed s = feed_append (34 ∷ []) (escape s ++ 34 ∷ []) refl (feed_append (escape s) (34 ∷ []) (escape_no_feed s) refl)

digits_no_feed : (ds : List ℕ) → AllDigits 10 ds → has_feed ds ≡ false
digits_no_feed [] h = refl
digits_no_feed (d ∷ ds) h =
    let other : (d == 10) ≡ false = ne_eqb d 10 (λ e. let digit = rw e at h.0 in omega arith) in
    rw other (digits_no_feed ds h.1)

comma_no_feed : (later : Bool) → has_feed (comma_if later) ≡ false
comma_no_feed true = refl
comma_no_feed false = refl

mutual
  pub text_no_feed : (n : ℕ) (d : Data) → IsPlain n d → has_feed (compact_text d) ≡ false
  text_no_feed n null h = refl
  text_no_feed n (boolean true) h = refl
  text_no_feed n (boolean false) h = refl
  text_no_feed n (number (unsigned m)) h = digits_no_feed (decimal m) (decimal_is_IsNumeral m h).0.1
  text_no_feed n (number (negative z)) h = absurd h
  text_no_feed n (number (float x)) h = absurd h
  text_no_feed n (string s) h = quoted_no_feed s
  text_no_feed n (array ds) h = absurd h
  text_no_feed zero (object ms) h = absurd h
  text_no_feed (suc n) (object ms) h = feed_append (123 ∷ []) (members_text false ms) refl (members_no_feed n false ms h)

  members_no_feed : (n : ℕ) (later : Bool) (ms : Members) → ArePlain n ms → has_feed (members_text later ms) ≡ false
  members_no_feed n later no_members h = refl
  members_no_feed n later (member k d ms) h =
      let value = compact_text d ++ members_text true ms in
      feed_append (comma_if later) (quoted k ++ 58 ∷ value) (comma_no_feed later)
      (feed_append (quoted k) (58 ∷ value) (quoted_no_feed k)
      (feed_append (58 ∷ []) value refl
      (feed_append (compact_text d) (members_text true ms) (text_no_feed n d h.1) (members_no_feed n true ms h.3))))

-- a text without a line feed, and one after it, is the first line, and the rest follows
pub first_line : (text rest : List ℕ) → has_feed text ≡ false
    → (take_through 10 (text ++ 10 ∷ rest) ≡ text ++ 10 ∷ []) × (drop_through 10 (text ++ 10 ∷ rest) ≡ rest)
first_line [] rest h = (refl, refl)
first_line (x ∷ xs) rest h =
    let p = or_parts (x == 10) (has_feed xs) h in
    let more = first_line xs rest p.1 in
    (rw p.0 (ap (λ l. x ∷ l) more.0), rw p.0 more.1)
