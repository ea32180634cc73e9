-- One more byte of a head, where the scan knows it; and bytes that go on are no head yet.
use Rattle.std.proofs.Common.{◌≡◌, ◌∙◌, subst, ℕ, ◌+◌, ◌-◌, ◌<◌, ◌≤◌, codes, Bool, true, false, List, [], ◌∷◌, ◌++◌, drop, length, take, get_or, ap, ap₂, refl, sym, arith, append_assoc, append-nil, length-append, inl, inr}
use Rattle.std.specs.Prelude.{IsUtf8}
use Rattle.std.specs.Bool.{OnTrue}
use Rattle.std.specs.List.{flat_map}
use Rattle.std.proofs.Math.Seq.{drop-append_seam, get_or-append_seam}
use Rattle.std.proofs.lemmas.Grind.{flat_map-append}
use Rattle.std.proofs.lemmas.List.{drop_more, drop_all, drop-take, get_or_append_left, length-take, take_more}
use Rattle.std.proofs.lemmas.List.Elements.{All-append, All-cons, All-nil}
use Rattle.httparse.specs.Grammar.{AllPass, HasNoRequest, IsField, IsToken, LineEnd, MayBecomeRequest, ReadsRequest, crlf, lf, is_token_byte, is_uri_byte, is_value_byte, print_blank, print_end, print_field, print_request, print_version}
use Rattle.httparse.proofs.OpenLemmas.{letter_is_token}
use Rattle.httparse.proofs.GrammarLemmas.{ReadsRequest-append, cons-append, request_pieces, request_unique}
use Rattle.httparse.proofs.PieceLemmas.{Blank_deterministic, Method_deterministic, Stops_token}
use Rattle.http_front.specs.declared.line.LineScan.{LineScan}
use Rattle.http_front.specs.declared.line.LineScan.TheVariants as lines
use Rattle.http_front.specs.declared.scan.Scan.{Scan}
use Rattle.http_front.specs.declared.scan.Scan.TheVariants as scans
use Rattle.http_front.proofs.Texts.{utf8_of_ascii}
use Rattle.http_front.specs.private.Scans.{Ends, EndsCrLf, EndsLine, EndsName, EndsValue, EndsVersion, GoesOn, IsHead, IsInTarget, IsSeen}

-- ---- lines

pub line_end : (b : ℕ) (more : List ℕ) → b ≡ 13 → more ≡ 10 ∷ [] → EndsLine (b ∷ more)
line_end b more cr is = ([], crlf, All-nil IsField, ap₂ (λ (c : ℕ) (t : List ℕ). c ∷ t) cr is)

pub line_name : (b : ℕ) (more : List ℕ) → is_token_byte b ≡ true → EndsName more → EndsLine (b ∷ more)
line_name b more token (name, rest, tokens, (raw, end, lines, values, (fields, last, shapes, is3), is2), is1) =
    let whole : b ∷ more ≡ (b ∷ name) ++ (58 ∷ (raw ++ (print_end end ++ (flat_map print_field fields ++ print_end last)))) =
    ap (λ t. b ∷ t) is1 ∙ ap (λ t. (b ∷ name) ++ (58 ∷ t)) is2
    ∙ ap (λ t. (b ∷ name) ++ (58 ∷ (raw ++ (print_end end ++ t)))) is3 in (
      record { name = b ∷ name; raw = raw; end = end } ∷ fields,
      last,
      All-cons IsField (record { name = b ∷ name; raw = raw; end = end }) fields
          (record {
            name = (omega arith, All-cons (λ c. is_token_byte c ≡ true) b name token tokens);
            raw = values;
          }) shapes,
      whole ∙ regroup (b ∷ name) raw (print_end end) (flat_map print_field fields) (print_end last),
    )
  where
    regroup : (a r e f l : List ℕ)
        → a ++ (58 ∷ (r ++ (e ++ (f ++ l)))) ≡ ((a ++ 58 ∷ r ++ e) ++ f) ++ l
    regroup a r e f l = simp (append_assoc, cons-append)

pub value_byte : (b : ℕ) (more : List ℕ) → is_value_byte b ≡ true → EndsValue more → EndsValue (b ∷ more)
value_byte b more value (raw, end, rest, values, lines, is) =
    (b ∷ raw, end, rest, All-cons (λ c. is_value_byte c ≡ true) b raw value values, lines, ap (λ t. b ∷ t) is)

pub value_cr : (b : ℕ) (more : List ℕ) → b ≡ 13 → EndsCrLf more → EndsValue (b ∷ more)
value_cr b [] cr none = absurd none
value_cr b (c ∷ rest) cr (feed, lines) = (
  [],
  crlf,
  rest,
  All-nil (λ c. is_value_byte c ≡ true),
  lines,
  ap₂ (λ (x y : ℕ). x ∷ y ∷ rest) cr feed,
)

pub value_lf : (b : ℕ) (more : List ℕ) → b ≡ 10 → EndsLine more → EndsValue (b ∷ more)
value_lf b more feed lines =
    ([], lf, more, All-nil (λ c. is_value_byte c ≡ true), lines, ap (λ c. c ∷ more) feed)

pub name_byte : (b : ℕ) (more : List ℕ) → is_token_byte b ≡ true → EndsName more → EndsName (b ∷ more)
name_byte b more token (name, rest, tokens, value, is) =
    (b ∷ name, rest, All-cons (λ c. is_token_byte c ≡ true) b name token tokens, value, ap (λ t. b ∷ t) is)

pub name_colon : (b : ℕ) (more : List ℕ) → b ≡ 58 → EndsValue more → EndsName (b ∷ more)
name_colon b more is value =
    ([], more, All-nil (λ c. is_token_byte c ≡ true), value, ap (λ c. c ∷ more) is)

-- ---- the request line

pub version_cr : (count b : ℕ) (more : List ℕ) → 7 < count → b ≡ 13 → EndsCrLf more
    → EndsVersion count (b ∷ more)
version_cr count b [] whole cr none = absurd none
version_cr count b (c ∷ rest) whole cr (feed, lines) =
    let none : drop count (print_version 0) ≡ [] = drop_all count (print_version 0) (omega arith) in (
      0,
      crlf,
      rest,
      omega arith,
      lines,
      ap₂ (λ (x y : ℕ). x ∷ y ∷ rest) cr feed ∙ ap (λ v. v ++ (13 ∷ 10 ∷ rest)) (sym none),
    )

pub version_lf : (count b : ℕ) (more : List ℕ) → 7 < count → b ≡ 10 → EndsLine more
    → EndsVersion count (b ∷ more)
version_lf count b more whole feed lines =
    let none : drop count (print_version 0) ≡ [] = drop_all count (print_version 0) (omega arith) in
    (0, lf, more, omega arith, lines, ap (λ c. c ∷ more) feed ∙ ap (λ v. v ++ (10 ∷ more)) (sym none))

pub version_digit : (b : ℕ) (more : List ℕ) → 48 ≤ b → b ≤ 49 → EndsVersion 8 more → EndsVersion 7 (b ∷ more)
version_digit b more low high (minor, end, rest, few, lines, is) =
    let digit : b ≡ 48 + (b - 48) = omega arith in
    (b - 48, end, rest, omega arith, lines, ap₂ (λ (x : ℕ) (t : List ℕ). x ∷ t) digit is)

pub version_byte : (count b : ℕ) (more : List ℕ) → count < 7 → b ≡ get_or (codes "HTTP/1.") count 0
    → EndsVersion (count + 1) more → EndsVersion count (b ∷ more)
version_byte count b more within same (minor, end, rest, few, lines, is) =
    let first : get_or (print_version minor) count 0 ≡ b =
    get_or_append_left (codes "HTTP/1.") ((48 + minor) ∷ []) 0 count (omega arith) ∙ sym same in
    let next : drop count (print_version minor) ≡ b ∷ drop (count + 1) (print_version minor) =
    drop_more (print_version minor) count 0 (omega arith)
    ∙ ap (λ (x : ℕ). x ∷ drop (count + 1) (print_version minor)) first in
    (minor, end, rest, few, lines, ap (λ t. b ∷ t) is ∙ ap (λ v. v ++ (print_end end ++ rest)) (sym next))

-- ---- the target and what is before it

-- a whole request line up to its version, and what follows
pub head_from : (blank : List LineEnd) (method target more : List ℕ) → IsToken method → 0 < length target
    → AllPass is_uri_byte target → IsUtf8 target → EndsVersion 0 more
    → IsHead (print_blank blank ++ (method ++ 32 ∷ (target ++ 32 ∷ more)))
unfolding print_request
head_from blank method target more token some uri text (minor, end, r4, few, (fields, last, shapes, is5), is4) =
    let section = flat_map print_field fields ++ print_end last in (
      record {
        blank = blank;
        method = method;
        target = target;
        minor = minor;
        line_end = end;
        fields = fields;
        last = last;
      },
      record { method = token; target = (some, uri); target_text = text; minor = few; fields = shapes },
      ap (λ t. print_blank blank ++ (method ++ 32 ∷ (target ++ 32 ∷ t)))
          (is4 ∙ ap (λ t. print_version minor ++ (print_end end ++ t)) is5)
          ∙ regroup (print_blank blank) method target (print_version minor) (print_end end) section,
    )
  where
    regroup : (b m t v e s : List ℕ)
        → b ++ (m ++ 32 ∷ (t ++ 32 ∷ (v ++ (e ++ s)))) ≡ b ++ m ++ 32 ∷ t ++ 32 ∷ v ++ e ++ s
    regroup b m t v e s = simp (append_assoc, cons-append)

-- one empty line more
blank_more : (blank : List LineEnd) (end : LineEnd) (seen : List ℕ) → seen ≡ print_blank blank
    → seen ++ print_end end ≡ print_blank (blank ++ end ∷ [])
blank_more blank end seen is =
    ap (λ t. t ++ print_end end) is
    ∙ ap (λ t. print_blank blank ++ t) (sym (append-nil (print_end end)))
    ∙ sym (flat_map-append print_end blank (end ∷ []))

module _ (seen : List ℕ) (b : ℕ) where
  pub blank_lf : IsSeen scans.Blank seen → b ≡ 10 → IsSeen scans.Blank (seen ++ b ∷ [])
  blank_lf (blank, is) feed =
      (blank ++ lf ∷ [], ap (λ c. seen ++ c ∷ []) feed ∙ blank_more blank lf seen is)

  pub blank_cr : IsSeen scans.Blank seen → b ≡ 13 → IsSeen scans.BlankEnd (seen ++ b ∷ [])
  blank_cr (blank, is) cr = (blank, ap₂ (λ (s : List ℕ) (c : ℕ). s ++ c ∷ []) is cr)

  pub blank_crlf : IsSeen scans.BlankEnd seen → b ≡ 10 → IsSeen scans.Blank (seen ++ b ∷ [])
  blank_crlf (blank, is) feed = (
    blank ++ crlf ∷ [],
    ap₂ (λ (s : List ℕ) (c : ℕ). s ++ c ∷ []) is feed
        ∙ append_assoc (print_blank blank) (13 ∷ []) (10 ∷ [])
        ∙ blank_more blank crlf (print_blank blank) refl,
  )

  pub blank_method : IsSeen scans.Blank seen → is_token_byte b ≡ true → IsSeen scans.Method (seen ++ b ∷ [])
  blank_method (blank, is) token = (
    blank,
    b ∷ [],
    (omega arith, All-cons (λ c. is_token_byte c ≡ true) b [] token (All-nil (λ c. is_token_byte c ≡ true))),
    ap (λ s. s ++ b ∷ []) is,
  )

  pub method_byte : IsSeen scans.Method seen → is_token_byte b ≡ true → IsSeen scans.Method (seen ++ b ∷ [])
  method_byte (blank, method, all, is) token = (
    blank,
    method ++ b ∷ [],
    (
      omega (arith, length-append method (b ∷ [])),
      All-append (λ c. is_token_byte c ≡ true) method (b ∷ []) all.1
          (All-cons (λ c. is_token_byte c ≡ true) b [] token (All-nil (λ c. is_token_byte c ≡ true))),
    ),
    ap (λ s. s ++ b ∷ []) is ∙ append_assoc (print_blank blank) method (b ∷ []),
  )

  pub method_space : (at : ℕ) → length seen ≡ at → IsSeen scans.Method seen → b ≡ 32
      → IsSeen (scans.Target (at + 1)) (seen ++ b ∷ [])
  method_space at long (blank, method, all, is) space = record {
    blank = blank;
    method = method;
    target = [];
    token = all;
    uri = All-nil (λ c. is_uri_byte c ≡ true);
    begins = omega (arith, long, ap length is, length-append (print_blank blank) method);
    whole =
        ap₂ (λ (s : List ℕ) (c : ℕ). s ++ c ∷ []) is space
        ∙ append_assoc (print_blank blank) method (32 ∷ []);
  }

  pub target_byte : (start : ℕ) → IsSeen (scans.Target start) seen → is_uri_byte b ≡ true
      → IsSeen (scans.Target start) (seen ++ b ∷ [])
  target_byte start is uri = record {
    blank = is.blank;
    method = is.method;
    target = is.target ++ b ∷ [];
    token = is.token;
    uri =
        All-append (λ c. is_uri_byte c ≡ true) is.target (b ∷ []) is.uri
        (All-cons (λ c. is_uri_byte c ≡ true) b [] uri (All-nil (λ c. is_uri_byte c ≡ true)));
    begins = is.begins;
    whole =
        ap (λ s. s ++ b ∷ []) is.whole
        ∙ append_assoc (print_blank is.blank) (is.method ++ 32 ∷ is.target) (b ∷ [])
        ∙ ap (λ t. print_blank is.blank ++ t) (append_assoc is.method (32 ∷ is.target) (b ∷ []));
  }

  -- what is behind the place where a target begins
  target_is : (start : ℕ) (is : IsInTarget start seen) → drop start seen ≡ is.target
  target_is start is =
      let front = print_blank is.blank ++ (is.method ++ 32 ∷ []) in
      let whole : seen ≡ front ++ is.target =
      is.whole
      ∙ ap (λ t. print_blank is.blank ++ t) (sym (append_assoc is.method (32 ∷ []) is.target))
      ∙ sym (append_assoc (print_blank is.blank) (is.method ++ 32 ∷ []) is.target) in
      let long : start ≡ length front =
      omega (
        arith,
        is.begins,
        length-append (print_blank is.blank) (is.method ++ 32 ∷ []),
        length-append is.method (32 ∷ []),
      ) in
      ap₂ (λ (k : ℕ) (t : List ℕ). drop k t) long whole ∙ drop-append_seam front is.target

  pub target_space : (start : ℕ) (target : List ℕ) → IsSeen (scans.Target start) seen → drop start seen ≡ target
      → 0 < length target → IsUtf8 target → b ≡ 32 → IsSeen (scans.Behind (lines.Version 0)) (seen ++ b ∷ [])
  target_space start target is same some text space more version =
      let here : is.target ≡ target = sym (target_is start is) ∙ same in
      let head = head_from is.blank is.method is.target more is.token (rw here some) is.uri (rw here text) version in
      let whole : (seen ++ b ∷ []) ++ more ≡ print_blank is.blank ++ (is.method ++ 32 ∷ (is.target ++ 32 ∷ more)) =
      append_assoc seen (b ∷ []) more
      ∙ ap₂ (λ (s : List ℕ) (c : ℕ). s ++ c ∷ more) is.whole space
      ∙ append_assoc (print_blank is.blank) (is.method ++ 32 ∷ is.target) (32 ∷ more)
      ∙ ap (λ t. print_blank is.blank ++ t) (append_assoc is.method (32 ∷ is.target) (32 ∷ more)) in
      rw whole head

  -- a line goes on
  pub line_more : (now next : LineScan) → ((more : List ℕ) → Ends next more → Ends now (b ∷ more))
      → IsSeen (scans.Behind now) seen → IsSeen (scans.Behind next) (seen ++ b ∷ [])
  line_more now next step is more ends =
      rw (append_assoc seen (b ∷ []) more) (is (b ∷ more) (step more ends))

-- a target begins before the bytes end
pub target_within : (bytes : List ℕ) (start at : ℕ) → IsInTarget start (take at bytes) → start ≤ at
target_within bytes start at is = omega (
  arith,
  is.begins,
  ap length is.whole,
  length-take at bytes,
  length-append (print_blank is.blank) (is.method ++ 32 ∷ is.target),
  length-append is.method (32 ∷ is.target),
)

-- the bytes from a place up to another
pub drop_of_take : (bytes : List ℕ) (start at : ℕ) → start ≤ at
    → drop start (take at bytes) ≡ take (at - start) (drop start bytes)
drop_of_take bytes start at before =
    let sum : at ≡ start + (at - start) = omega arith in
    ap (λ k. drop start (take k bytes)) sum ∙ drop-take start (at - start) bytes

-- a test that says more
pub on_true_weaker : {A B : Type 0} (b : Bool) → OnTrue b A → (A → B) → OnTrue b B
on_true_weaker true a f = f a
on_true_weaker false a f = tt

-- the byte at a place is the last of those up to it
pub byte_at : (bytes : List ℕ) (at : ℕ) → at < length bytes
    → take (at + 1) bytes ≡ take at bytes ++ get_or bytes at 0 ∷ []
byte_at bytes at inside = take_more bytes at 0 inside

-- ---- what goes on is no head yet

-- bytes that make a head with others behind them
open_head : (bytes : List ℕ) (first : ℕ) (rest : List ℕ) → IsHead (bytes ++ first ∷ rest)
    → HasNoRequest bytes × MayBecomeRequest bytes
open_head bytes first rest head =
    let reads : ReadsRequest (bytes ++ first ∷ rest) head.0 [] =
    (head.1, head.2 ∙ sym (append-nil (print_request head.0))) in (
      λ h behind other.
          let same = request_unique (bytes ++ first ∷ rest) h head.0 (behind ++ first ∷ rest) []
          (ReadsRequest-append bytes h behind (first ∷ rest) other) reads in
          let long : length (behind ++ first ∷ rest) ≡ 0 = ap length same.1 in
          absurd (omega (arith, length-append behind (first ∷ rest))),
      inl (first ∷ rest, head.0, reads),
    )

-- bytes that end in a target begin with no head
in_target_none : (start : ℕ) (bytes : List ℕ) → IsInTarget start bytes → HasNoRequest bytes
in_target_none start bytes is h rest reads =
    let parts = (request_pieces bytes h rest reads).1 in
    let blank = Blank_deterministic.unique is.blank h.blank bytes (is.method ++ 32 ∷ is.target) parts.0
    (is.whole, Stops_token is.method (32 ∷ is.target) is.token.0 is.token.1) parts.1 in
    let method = Method_deterministic.unique is.method h.method (is.method ++ 32 ∷ is.target) is.target parts.2.0
    (is.token.0, is.token.1, refl)
    (subst (λ (t : List ℕ). (0 < length h.method) × AllPass is_token_byte h.method × (t ≡ h.method ++ 32 ∷ parts.2.0)) (sym blank.1)
    parts.2.1) in
    let target : is.target ≡ h.target ++ 32 ∷ parts.2.2.0 = method.1 ∙ parts.2.2.1.0.2 in
    let inside : length h.target < length is.target =
    omega (arith, ap length target, length-append h.target (32 ∷ parts.2.2.0)) in
    let here : get_or is.target (length h.target) 0 ≡ 32 =
    ap (λ t. get_or t (length h.target) 0) target ∙ get_or-append_seam h.target 32 parts.2.2.0 0 in
    let passes : is_uri_byte 32 ≡ true = rw here at (is.uri (length h.target) 0 inside) in
    absurd cc

-- something may follow, wherever the scan is
line_goes : EndsLine (10 ∷ [])
line_goes = ([], lf, All-nil IsField, refl)

value_goes : EndsValue (10 ∷ 10 ∷ [])
value_goes = value_lf 10 (10 ∷ []) refl line_goes

version_goes : (count : ℕ) → GoesOn (lines.Version count)
version_goes count = in_parts (drop count (print_version 1)) refl
  where
    in_parts : (text : List ℕ) → drop count (print_version 1) ≡ text → GoesOn (lines.Version count)
    in_parts [] is = (10, 10 ∷ [], (1, lf, 10 ∷ [], omega arith, line_goes, ap (λ v. v ++ (10 ∷ 10 ∷ [])) (sym is)))
    in_parts (b ∷ text) is =
        (b, text ++ (10 ∷ 10 ∷ []), (1, lf, 10 ∷ [], omega arith, line_goes, ap (λ v. v ++ (10 ∷ 10 ∷ [])) (sym is)))

version_begins : EndsVersion 0 (print_version 1 ++ (10 ∷ 10 ∷ []))
version_begins = (1, lf, 10 ∷ [], omega arith, line_goes, refl)

slash_is_uri : AllPass is_uri_byte (47 ∷ [])
slash_is_uri = All-cons (λ c. is_uri_byte c ≡ true) 47 [] refl (All-nil (λ c. is_uri_byte c ≡ true))

slash_text : IsUtf8 (47 ∷ [])
slash_text = utf8_of_ascii (47 ∷ []) (All-cons (λ c. c < 128) 47 [] (omega arith) (All-nil (λ c. c < 128)))

letter : IsToken (65 ∷ [])
letter = (omega arith, All-cons (λ c. is_token_byte c ≡ true) 65 [] letter_is_token (All-nil (λ c. is_token_byte c ≡ true)))

-- a method is followed by a slash
method_goes : (blank : List LineEnd) (method : List ℕ) → IsToken method
    → IsHead (print_blank blank ++ (method ++ 32 ∷ 47 ∷ 32 ∷ (print_version 1 ++ (10 ∷ 10 ∷ []))))
method_goes blank method token =
    head_from blank method (47 ∷ []) (print_version 1 ++ (10 ∷ 10 ∷ [])) token (omega arith) slash_is_uri slash_text version_begins

pub line_goes_on : (line : LineScan) → (line ≡ lines.Stop → ⊥) → GoesOn line
line_goes_on (lines.Version count) some = version_goes count
line_goes_on lines.LineEnd some = (10, _, (refl, line_goes))
line_goes_on lines.Line some = (10, _, line_goes)
line_goes_on lines.Name some = (58, _, name_colon 58 _ refl value_goes)
line_goes_on lines.Value some = (10, _, value_goes)
line_goes_on lines.HeadEnd some = (10, _, refl)
line_goes_on lines.Stop some = absurd (some refl)

-- what was seen before the version is no head yet
pub seen_open : (scan : Scan) (bytes : List ℕ) → ((line : LineScan) → scan ≡ scans.Behind line → ⊥) → IsSeen scan bytes
    → HasNoRequest bytes × MayBecomeRequest bytes
seen_open scans.Blank bytes before (blank, is) =
    open_head bytes 65 (32 ∷ 47 ∷ 32 ∷ (print_version 1 ++ (10 ∷ 10 ∷ []))) (rw is (method_goes blank (65 ∷ []) letter))
seen_open scans.BlankEnd bytes before (blank, is) =
    let whole : bytes ++ (10 ∷ 65 ∷ 32 ∷ 47 ∷ 32 ∷ (print_version 1 ++ (10 ∷ 10 ∷ [])))
    ≡ print_blank (blank ++ crlf ∷ []) ++ (65 ∷ 32 ∷ 47 ∷ 32 ∷ (print_version 1 ++ (10 ∷ 10 ∷ []))) =
    ap (λ s. s ++ (10 ∷ 65 ∷ 32 ∷ 47 ∷ 32 ∷ (print_version 1 ++ (10 ∷ 10 ∷ [])))) is
    ∙ append_assoc (print_blank blank) (13 ∷ []) (10 ∷ 65 ∷ 32 ∷ 47 ∷ 32 ∷ (print_version 1 ++ (10 ∷ 10 ∷ [])))
    ∙ sym (append_assoc (print_blank blank) (13 ∷ 10 ∷ []) (65 ∷ 32 ∷ 47 ∷ 32 ∷ (print_version 1 ++ (10 ∷ 10 ∷ []))))
    ∙ ap (λ s. s ++ (65 ∷ 32 ∷ 47 ∷ 32 ∷ (print_version 1 ++ (10 ∷ 10 ∷ []))))
    (blank_more blank crlf (print_blank blank) refl) in
    open_head bytes 10 (65 ∷ 32 ∷ 47 ∷ 32 ∷ (print_version 1 ++ (10 ∷ 10 ∷ []))) (rw whole (method_goes (blank ++ crlf ∷ []) (65 ∷ []) letter))
seen_open scans.Method bytes before (blank, method, token, is) =
    open_head bytes 32 (47 ∷ 32 ∷ (print_version 1 ++ (10 ∷ 10 ∷ [])))
    (rw (is, append_assoc (print_blank blank) method (32 ∷ 47 ∷ 32 ∷ (print_version 1 ++ (10 ∷ 10 ∷ []))))
    (method_goes blank method token))
seen_open (scans.Target start) bytes before is = (
  in_target_none start bytes is,
  inr (
    is.blank,
    is.method,
    is.target,
    is.token,
    is.uri,
    is.whole ∙ sym (append_assoc (print_blank is.blank) is.method (32 ∷ is.target)),
  ),
)
seen_open (scans.Behind line) bytes before is = absurd (before line refl)

-- nor is what was seen behind it, where something may follow
pub line_open : (now : LineScan) (bytes : List ℕ) → IsSeen (scans.Behind now) bytes → GoesOn now
    → HasNoRequest bytes × MayBecomeRequest bytes
line_open now bytes is (first, rest, ends) = open_head bytes first rest (is (first ∷ rest) ends)
