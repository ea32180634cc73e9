-- What a head asks is a request, where the facts of its connection are facts.
use Rattle.std.proofs.Common.{◌≡◌, ℕ, ◌+◌, ◌<◌, ◌≤◌, ◌^◌, Bool, true, false, Option, Some, None, List, [], ◌∷◌, ◌++◌, map, codes, length, get_or, refl, arith, append_assoc, append-nil, length-append, cond, if◌then◌else◌, All}
use Rattle.std.specs.Prelude.{IfSome, IsTrue, IsUtf8}
use Rattle.std.specs.Char.{to_ascii_lowercase}
use Rattle.std.specs.FinMap.{entries, find, len, len-entries}
use Rattle.std.specs.FinMap.Entries.{by_order, put}
use Rattle.std.specs.List.{flat_map}
use Rattle.std.specs.Ordering.{eq_by_cmp}
use Rattle.std.specs.Str.{bytes_eq}
use Rattle.std.specs.declared.cmp.Ordering.{Ordering}
use Rattle.std.specs.declared.cmp.Ordering.TheVariants.{Less, Equal, Greater}
use Rattle.std.proofs.lemmas.List.{length-map}
use Rattle.std.proofs.lemmas.List.Elements.{All-append, All-cons, All-head, All-map, All-nil, All-tail, All-weaker}
use Rattle.std.proofs.lemmas.Str.{IsUtf8-append}
use Rattle.attributes.specs.Conn.{AreFacts, Facts}
use Rattle.attributes.specs.Headers.{Entry, all_entries, headers_of, line_entry, name_cmp}
use Rattle.attributes.specs.Limits.{LimitsValue}
use Rattle.attributes.specs.Request.{IsRequest, IsTextEntry, RequestValue}
use Rattle.attributes.proofs.Joining.{added, entries_more, len_headers_of}
use Rattle.http_header.specs.Token as header
use Rattle.http_header.proofs.TokenLemmas.{IsUtf8-from_token, is_token_byte-to_ascii_lowercase}
use Rattle.httparse.specs.Ascii.{colon}
use Rattle.httparse.specs.Grammar.{Field, RequestHead, print_end, print_field}
use Rattle.httparse.specs.Spans.{name_and_value}
use Rattle.http_front.specs.declared.ask.Ask.TheVariants.{Judge}
use Rattle.http_front.specs.declared.fault.HeadFault.TheVariants.{BadText}
use Rattle.http_front.specs.Asks.{HeadAsks}
use Rattle.http_front.specs.Head.{HeadValue, head_of}
use Rattle.http_front.specs.Heads.{Kept, Takes, closed, reading}
use Rattle.http_front.specs.Rules.{RuleFault, lines_of, lowered}
use Rattle.http_front.specs.private.Parsed.{AreTexts}
use Rattle.http_front.proofs.FieldNames.{lines_in_head, token_byte}
use Rattle.http_front.proofs.HeadTexts.{kept_texts}
use Rattle.http_front.proofs.Texts.{utf8_of_literal}

-- ---- headers of texts are texts

-- what is found among texts is one
found_text : (name : List ℕ) (es : List Entry) → All IsTextEntry es → IfSome (find name_cmp name es) IsUtf8
found_text name [] texts = tt
found_text name (e ∷ es) texts =
    by (eq_by_cmp name_cmp name e.0) (found_text name es (All-tail IsTextEntry e es texts))
  where
    by : (b : Bool) → IfSome (find name_cmp name es) IsUtf8
        → IfSome (cond b (Some e.1) (find name_cmp name es)) IsUtf8
    by true rest = (All-head IsTextEntry e es texts).1
    by false rest = rest

-- a text is put among texts
put_text : (name value : List ℕ) (es : List Entry) → IsUtf8 name → IsUtf8 value → All IsTextEntry es
    → All IsTextEntry (put name_cmp name value es)
put_text name value [] named valued texts = All-cons IsTextEntry (name, value) [] (named, valued) texts
put_text name value (e ∷ es) named valued texts =
    let others = All-tail IsTextEntry e es texts in
    by (name_cmp name e.0) others (put_text name value es named valued others)
  where
    by : (o : Ordering) → All IsTextEntry es → All IsTextEntry (put name_cmp name value es)
        → All IsTextEntry (by_order o ((name, value) ∷ e ∷ es) ((e.0, value) ∷ es) (e ∷ put name_cmp name value es))
    by Less others later = All-cons IsTextEntry (name, value) (e ∷ es) (named, valued) texts
    by Equal others later =
        All-cons IsTextEntry (e.0, value) es ((All-head IsTextEntry e es texts).0, valued) others
    by Greater others later =
        All-cons IsTextEntry e (put name_cmp name value es) (All-head IsTextEntry e es texts) later

comma_text : IsUtf8 (44 ∷ [])
comma_text = utf8_of_literal (44 ∷ []) refl

-- a value behind a text
added_text : (old : Option (List ℕ)) (value : List ℕ) → IfSome old IsUtf8 → IsUtf8 value → IsUtf8 (added old value)
added_text None value old is = is
added_text (Some w) value old is = IsUtf8-append w (44 ∷ value) old (IsUtf8-append (44 ∷ []) value comma_text is)

none_yet : All IsTextEntry (entries (headers_of []))
none_yet k d inside =
    let few = len_headers_of [] in
    let many = len-entries (headers_of []) in
    absurd (omega (arith, few, many, inside))

-- entries behind others
headers_behind : (front back : List Entry) → All IsTextEntry (entries (headers_of front)) → All IsTextEntry back
    → All IsTextEntry (entries (headers_of (front ++ back)))
headers_behind front [] texts more = rw (append-nil front) texts
headers_behind front (e ∷ back) texts more =
    let one = All-head IsTextEntry e back more in
    let value = added_text (find name_cmp e.0 (entries (headers_of front))) e.1
    (found_text e.0 (entries (headers_of front)) texts) one.1 in
    let here : All IsTextEntry (entries (headers_of (front ++ e ∷ []))) =
    rw (entries_more front e) (put_text e.0 (added (find name_cmp e.0 (entries (headers_of front))) e.1)
    (entries (headers_of front)) one.0 value texts) in
    rw (append_assoc front (e ∷ []) back) at
    (headers_behind (front ++ e ∷ []) back here (All-tail IsTextEntry e back more))

-- the name of a header is a text
line_text : (line : Entry) → IsTextEntry line → IsTextEntry (line_entry line)
line_text line (name, value) = (by (bytes_eq line.0 (codes "host")), value)
  where
    by : (b : Bool) → IsUtf8 (if b then codes ":authority" else line.0)
    by true = utf8_of_literal (codes ":authority") refl
    by false = name

-- all entries of a request whose parts are texts
entries_texts : (method target scheme : List ℕ) (lines : List Entry) → IsUtf8 method → IsUtf8 target → IsUtf8 scheme
    → All IsTextEntry lines → All IsTextEntry (all_entries method target scheme lines)
entries_texts method target scheme lines m t s texts =
    let last : List Entry = (codes ":scheme", scheme) ∷ [] in
    let later : List Entry = (codes ":path", target) ∷ last in
    All-append IsTextEntry (map line_entry lines) ((codes ":method", method) ∷ later)
    (All-map IsTextEntry line_entry lines (λ k d inside. line_text (get_or lines k d) (texts k d inside)))
    (All-cons IsTextEntry (codes ":method", method) later (utf8_of_literal (codes ":method") refl, m)
    (All-cons IsTextEntry (codes ":path", target) last (utf8_of_literal (codes ":path") refl, t)
    (All-cons IsTextEntry (codes ":scheme", scheme) [] (utf8_of_literal (codes ":scheme") refl, s)
    (All-nil IsTextEntry))))

-- ---- heads

-- a name in lower case is a text
lowered_name : (name : List ℕ) → header.IsToken name → IsUtf8 (header.lowercase name)
lowered_name name token = IsUtf8-from_token (header.lowercase name) (
  rw (length-map name to_ascii_lowercase) token.0,
  All-map (λ b. IsTrue (header.is_token_byte b)) to_ascii_lowercase name
      (λ k d inside. is_token_byte-to_ascii_lowercase (get_or name k d) (token.1 k d inside)),
)

-- there are fewer fields than bytes
pub few_fields : (fields : List Field) → length fields ≤ length (flat_map print_field fields)
few_fields [] = omega arith
few_fields (f ∷ fields) =
    let all : length (flat_map print_field (f ∷ fields))
    ≡ length (print_field f) + length (flat_map print_field fields) =
    length-append (print_field f) (flat_map print_field fields) in
    let line : length (print_field f) ≡ length (f.name ++ colon ∷ f.raw) + length (print_end f.end) =
    length-append (f.name ++ colon ∷ f.raw) (print_end f.end) in
    let name = length-append f.name (colon ∷ f.raw) in
    let others = few_fields fields in
    omega arith

module _ (bytes : List ℕ) (limits : LimitsValue) (facts : Facts) (r : RequestValue)
    (asks : HeadAsks bytes limits facts r) (sound : AreFacts facts) where
  abbrev tree : RequestHead
  tree = asks.starts.tree

  abbrev h : HeadValue
  h = head_of tree

  texts : AreTexts h
  texts = kept_texts tree asks.starts.reads.0
      (λ bad. asks.keeps_rules BadText (RuleFault.bad_text (rw asks.starts.value bad) refl))

  lines_texts : All IsTextEntry (lines_of h)
  lines_texts = All-map IsTextEntry lowered h.fields (λ k d inside. (
    lowered_name (get_or h.fields k d).0 (names k d inside),
    (texts.fields k d inside).1,
  ))
    where
      names : All (λ field. header.IsToken field.0) h.fields
      names = All-map (λ field. header.IsToken field.0) name_and_value tree.fields
          (λ k d inside.
          let token = (asks.starts.reads.0.fields k d inside).name in
          (token.0, All-weaker _ (λ b. IsTrue (header.is_token_byte b)) token_byte _ token.1))

  pub asked_request : IsRequest r
  asked_request = rw (asks.request, asks.starts.value) (record {
    method = texts.method;
    target = texts.target;
    lines = few_lines;
    headers = headers_behind [] (all_entries h.method h.target facts.scheme (lines_of h)) none_yet
        (entries_texts h.method h.target facts.scheme (lines_of h) texts.method texts.target
        sound.texts.1.1.1.1.1.1.1.0 lines_texts);
    few = few;
    facts = sound;
  })
    where
      few_lines : length (lines_of h) < 2 ^ 64
      few_lines =
          let fields = few_fields tree.fields in
          let lines = lines_in_head tree in
          let room = asks.starts.in_room in
          let same = length-map h.fields lowered in
          let also = length-map tree.fields name_and_value in
          omega arith

      few : len (headers_of (all_entries h.method h.target facts.scheme (lines_of h))) ≤ length (lines_of h) + 3
      few =
          let most = len_headers_of (all_entries h.method h.target facts.scheme (lines_of h)) in
          let pseudo : List Entry =
          (codes ":method", h.method) ∷ (codes ":path", h.target) ∷ (codes ":scheme", facts.scheme) ∷ [] in
          let long = length-append (map line_entry (lines_of h)) pseudo in
          let same = length-map (lines_of h) line_entry in
          omega (arith, most, long, same)

-- a request that is to be judged is one
pub judge_is_request : (limits : LimitsValue) (facts : Facts) (old new : Kept) (r : RequestValue) (close : Bool)
    → Takes limits facts old (Judge r close) new → AreFacts facts → IsRequest r
judge_is_request limits facts (reading skip bytes) new r close (none, asks, shut, goes) sound =
    asked_request bytes limits facts r asks sound
judge_is_request limits facts closed new r close none sound = absurd none
