-- The head that parts spell: its lines, its bytes, and what they ask.
use Rattle.std.proofs.Common.{◌≡◌, ◌∙◌, ℕ, zero, suc, ◌+◌, ◌<◌, ◌≤◌, ◌==◌, Bool, true, false, List, [], ◌∷◌, ◌++◌, All, Any, ap, arith, append_assoc, append-nil, codes, cond, get_or, length, length-append, lit≤, map, refl, sym, take, true≢false}
use Rattle.std.specs.Prelude.{IfNone, Option, Some, None}
use Rattle.std.specs.List.{flat_map, list_all}
use Rattle.std.proofs.lemmas.Grind.{flat_map-append}
use Rattle.std.proofs.lemmas.Bool.{and_from, and_parts, lt-ltb, ltb-true}
use Rattle.std.proofs.lemmas.List.{get_or-map, length-map, map-append}
use Rattle.http_front.proofs.FieldLists.{map_take_more, none_has}
use Rattle.http_front.proofs.Requests.{asked_request}
use Rattle.http_front.proofs.Rooms.{asks_or_fault, one_ask}
use Rattle.std.proofs.lemmas.List.Elements.{All-append, All-push}
use Rattle.std.proofs.lemmas.List.Sums.{list_all-from_AllPass}
use Rattle.http_header.proofs.TokenLemmas.{AllPass-from_test}
use Rattle.attributes.specs.Conn.{AreFacts, Facts}
use Rattle.attributes.specs.Headers.{Entry}
use Rattle.attributes.specs.Limits.{InLimits, LimitsValue}
use Rattle.attributes.specs.Request.{IsRequest, RequestValue, head_protocol, in_protocol, protocol_of, request_of}
use Rattle.attributes.specs.declared.protocol.Protocol.{Protocol}
use Rattle.attributes.specs.declared.protocol.Protocol.TheVariants.{Http10, Http11, Http2, Http3}
use Rattle.httparse.specs.Ascii.{crlf_bytes}
use Rattle.httparse.specs.Grammar.{AllPass, Field, IsField, IsRequestHead, IsToken, ReadsRequest, RequestHead, is_token, is_token_byte, is_value_byte, print_field, print_request, print_version}
use Rattle.httparse.proofs.GrammarLemmas.{cons-append, request_unique}
use Rattle.http_front.specs.declared.fault.HeadFault.{HeadFault}
use Rattle.http_front.specs.declared.fault.HeadFault.TheVariants as faults
use Rattle.http_front.specs.declared.fault.HeadPart.{HeadPart}
use Rattle.http_front.specs.declared.fault.HeadPart.TheVariants as parts
use Rattle.http_front.specs.declared.parts.Line.{Line}
use Rattle.http_front.specs.Asks.{HasFault, request_of_head}
use Rattle.http_front.specs.Head.{HasNoHead, HeadValue, StartsHead, head_of, head_room}
use Rattle.http_front.specs.Parts.{AreMalformedIn, IsMalformedIn, IsTarget, PartsAsk, PartsFault, PartsValue, field_view, head_with, line_of, parts_text, spelled_head}
use Rattle.http_front.specs.Rules.{lines_of}
use Rattle.http_front.specs.private.Parts.{IsLineMalformedIn, IsSpellingFault}

-- what follows from what holds if there is none
pub if_none_then : {X P Q : Type 0} (o : Option X) → IfNone o P → (P → Q) → IfNone o Q
if_none_then (Some x) is gives = tt
if_none_then None is gives = gives is

-- ---- bytes

regroup : (m t v c f g e : List ℕ)
    → (((((m ++ 32 ∷ []) ++ t) ++ (32 ∷ v ++ c)) ++ f) ++ g) ++ e ≡ m ++ 32 ∷ t ++ 32 ∷ v ++ c ++ ((f ++ g) ++ e)
regroup m t v c f g e = simp (append_assoc, cons-append)

-- the lines of fields
abbrev pub lines_text : List Entry → List ℕ
lines_text fields = flat_map print_field (map line_of fields)

-- the lines of two lists of fields
lines_append : (front back : List Entry) → lines_text (front ++ back) ≡ lines_text front ++ lines_text back
lines_append front back =
    ap (flat_map print_field) (map-append line_of front back)
    ∙ flat_map-append print_field (map line_of front) (map line_of back)

-- the parts of a head in order are the head
head_written : (method target : List ℕ) (http11 : Bool) (front back : List Entry)
    → (((((method ++ 32 ∷ []) ++ target) ++ (codes " " ++ print_version (cond http11 1 0) ++ crlf_bytes))
    ++ lines_text front) ++ lines_text back) ++ crlf_bytes
    ≡ print_request (head_with method target http11 (front ++ back))
unfolding print_request
head_written method target http11 front back =
    regroup method target (print_version (cond http11 1 0)) crlf_bytes (lines_text front) (lines_text back) crlf_bytes
    ∙ ap (λ lines. method ++ 32 ∷ target ++ 32 ∷ print_version (cond http11 1 0) ++ crlf_bytes ++ (lines ++ crlf_bytes))
    (sym (lines_append front back))

-- how many bytes it has
pub head_length : (method target : List ℕ) (http11 : Bool) (front back : List Entry)
    → length (print_request (head_with method target http11 (front ++ back)))
    ≡ length method + length target + 14 + length (lines_text front)
    + length (lines_text back)
head_length method target http11 front back =
    let f = lines_text front in
    let g = lines_text back in
    let v : List ℕ = codes " " ++ print_version (cond http11 1 0) ++ crlf_bytes in
    let whole = head_written method target http11 front back in
    let a = length-append (((((method ++ 32 ∷ []) ++ target) ++ v) ++ f) ++ g) crlf_bytes in
    let b = length-append ((((method ++ 32 ∷ []) ++ target) ++ v) ++ f) g in
    let c = length-append (((method ++ 32 ∷ []) ++ target) ++ v) f in
    let d = length-append ((method ++ 32 ∷ []) ++ target) v in
    let e = length-append (method ++ 32 ∷ []) target in
    let h = length-append method (32 ∷ []) in
    let fixed : length v ≡ 11 = refl in
    omega (arith, ap length whole, a, b, c, d, e, h, fixed)

-- ---- lists

-- an element is one of a longer list
any_more : {X : Type 0} (P : X → Type 0) (x : X) (xs : List X) → Any P xs → Any P (x ∷ xs)
any_more P x xs (k, y, inside, at, p) = (suc k, y, omega arith, at, p)

-- an element of the back is one of the whole
pub any_back : {X : Type 0} (P : X → Type 0) (xs ys : List X) → Any P ys → Any P (xs ++ ys)
any_back P [] ys any = any
any_back P (x ∷ xs) ys any = any_more P x (xs ++ ys) (any_back P xs ys any)

-- if an element's image has it, one of the images has it
pub any_here : {X Y : Type 0} (P : Y → Type 0) (f : X → Y) (xs : List X) (i : ℕ) (d : X) → i < length xs
    → P (f (get_or xs i d)) → Any P (map f xs)
any_here P f [] i d inside p = absurd (omega arith)
any_here P f (x ∷ xs) zero d inside p = (0, f x, omega arith, refl, p)
any_here P f (x ∷ xs) (suc i) d inside p = any_more P (f x) (map f xs) (any_here P f xs i d (omega arith) p)

-- ---- heads of the grammar

-- the lines before a place, and the one at it
pub fields_more : (lines : List Line) (i : ℕ) (d : Line) → i < length lines
    → All IsField (map line_of (map field_view (take i lines))) → IsField (line_of (field_view (get_or lines i d)))
    → All IsField (map line_of (map field_view (take (i + 1) lines)))
fields_more lines i d inside all one =
    rw (map_take_more field_view lines i d inside, map-append line_of (map field_view (take i lines)))
    (All-push IsField (map line_of (map field_view (take i lines))) (line_of (field_view (get_or lines i d))) all one)

pub few_minor : (http11 : Bool) → cond http11 1 0 ≤ 1
few_minor true = omega arith
few_minor false = omega arith

-- parts of their classes make a head
pub head_shape : (method target : List ℕ) (http11 : Bool) (front back : List Entry) → IsToken method → IsTarget target
    → All IsField (map line_of front) → All IsField (map line_of back)
    → IsRequestHead (head_with method target http11 (front ++ back))
head_shape method target http11 front back token uri fs gs = record {
  method = token;
  target = (uri.0, uri.1);
  target_text = uri.2;
  minor = few_minor http11;
  fields = rw (map-append line_of front back) (All-append IsField (map line_of front) (map line_of back) fs gs);
}

-- ---- faults of lines

-- if a line is malformed, the lines are
pub line_malformed : (lines : List Line) (i : ℕ) (d : Line) (part : HeadPart) → i < length lines
    → IsLineMalformedIn (line_of (field_view (get_or lines i d))) part
    → AreMalformedIn (map line_of (map field_view lines)) part
line_malformed lines i d parts.FieldName inside bad =
    any_here (λ f. ¬ (IsToken f.name)) line_of (map field_view lines) i (field_view d) (rw length-map inside) (rw (get_or-map field_view lines i d (field_view d) inside) bad)
line_malformed lines i d parts.FieldValue inside bad =
    any_here (λ f. ¬ (AllPass is_value_byte f.raw)) line_of (map field_view lines) i (field_view d) (rw length-map inside) (rw (get_or-map field_view lines i d (field_view d) inside) bad)
line_malformed lines i d parts.Method inside bad = bad
line_malformed lines i d parts.Target inside bad = bad
line_malformed lines i d parts.Version inside bad = bad
line_malformed lines i d parts.LineEnd inside bad = bad
line_malformed lines i d parts.FoldedLine inside bad = bad

-- lines of a list that is malformed, after others
pub back_malformed : (front back : List Field) (part : HeadPart) → AreMalformedIn back part
    → AreMalformedIn (front ++ back) part
back_malformed front back parts.FieldName bad = any_back (λ f. ¬ (IsToken f.name)) front back bad
back_malformed front back parts.FieldValue bad = any_back (λ f. ¬ (AllPass is_value_byte f.raw)) front back bad
back_malformed front back parts.Method bad = bad
back_malformed front back parts.Target bad = bad
back_malformed front back parts.Version bad = bad
back_malformed front back parts.LineEnd bad = bad
back_malformed front back parts.FoldedLine bad = bad

-- a head whose lines are malformed is
pub lines_malformed : (h : RequestHead) (part : HeadPart) → AreMalformedIn h.fields part → IsMalformedIn h part
lines_malformed h parts.FieldName bad = bad
lines_malformed h parts.FieldValue bad = bad
lines_malformed h parts.Method bad = absurd bad
lines_malformed h parts.Target bad = absurd bad
lines_malformed h parts.Version bad = bad
lines_malformed h parts.LineEnd bad = bad
lines_malformed h parts.FoldedLine bad = bad

-- so is one with more lines before them
pub back_in_head : (method target : List ℕ) (http11 : Bool) (front back : List Entry) (part : HeadPart)
    → AreMalformedIn (map line_of back) part → IsMalformedIn (head_with method target http11 (front ++ back)) part
back_in_head method target http11 front back part bad =
    lines_malformed (head_with method target http11 (front ++ back)) part
    (rw (map-append line_of front back) (back_malformed (map line_of front) (map line_of back) part bad))

-- ---- tests

-- what fails the test of tokens is none
pub not_token : (bytes : List ℕ) → false ≡ is_token bytes → IsToken bytes → ⊥
not_token bytes fails token =
    true≢false (sym (and_from _ _ (lt-ltb _ _ token.0) (list_all-from_AllPass is_token_byte bytes token.1)) ∙ sym fails)

-- what passes it is one
pub token_from_test : (bytes : List ℕ) → true ≡ is_token bytes → IsToken bytes
token_from_test bytes passes =
    let both = and_parts _ _ (sym passes) in
    (ltb-true _ _ both.0, AllPass-from_test is_token_byte bytes both.1)

-- what fails the test of values has a byte that fails it
pub not_value : (bytes : List ℕ) → false ≡ list_all is_value_byte bytes → AllPass is_value_byte bytes → ⊥
not_value bytes fails all = true≢false (sym (list_all-from_AllPass is_value_byte bytes all) ∙ sym fails)

-- ---- what the bytes ask

module _ (p : PartsValue) (shape : IsRequestHead (spelled_head p)) where
  -- they are a head
  reads : ReadsRequest (parts_text p) (spelled_head p) []
  reads = (shape, sym (append-nil (parts_text p)))

  -- if they are too long, they begin with no head that is not
  pub parts_too_long : head_room < length (parts_text p) → HasNoHead (parts_text p)
  parts_too_long long h rest s =
      let same = (request_unique (parts_text p) s.tree (spelled_head p) rest [] s.reads reads).0 in
      let room : length (print_request (spelled_head p)) ≤ head_room = rw same at s.in_room in
      omega (arith, room, long)

  -- what they ask is the request of the parts
  pub parts_head : (h : HeadValue) (rest : List ℕ) → StartsHead (parts_text p) h rest → h ≡ head_of (spelled_head p)
  parts_head h rest s =
      s.value ∙ ap head_of (request_unique (parts_text p) s.tree (spelled_head p) rest [] s.reads reads).0

-- a head of the grammar is malformed nowhere
pub not_malformed : (h : RequestHead) → IsRequestHead h → (part : HeadPart) → IsMalformedIn h part → ⊥
not_malformed h shape parts.Method bad = bad shape.method
not_malformed h shape parts.Target bad = bad (shape.target.0, shape.target.1, shape.target_text)
not_malformed h shape parts.FieldName bad =
    none_has (λ f. ¬ (IsToken f.name)) h.fields (λ k d inside other. other (shape.fields k d inside).name) bad
not_malformed h shape parts.FieldValue bad =
    none_has (λ f. ¬ (AllPass is_value_byte f.raw)) h.fields (λ k d inside other. other (shape.fields k d inside).raw) bad
not_malformed h shape parts.Version bad = bad
not_malformed h shape parts.LineEnd bad = bad
not_malformed h shape parts.FoldedLine bad = bad

-- how long protocols are as text
head_protocol_length : (http11 : Bool) → length (protocol_of (head_protocol http11)) ≡ 8
head_protocol_length true = refl
head_protocol_length false = refl

protocol_short : (protocol : Protocol) → length (protocol_of protocol) ≤ 8
protocol_short Http10 = lit≤ tt
protocol_short Http11 = lit≤ tt
protocol_short Http2 = lit≤ tt
protocol_short Http3 = lit≤ tt

-- the number of a version says which it is
pub version_is : (http11 : Bool) → (cond http11 1 0 == 1) ≡ http11
version_is true = refl
version_is false = refl

module _ (p : PartsValue) (limits : LimitsValue) (facts : Facts) where
  -- parts that ask for a request have no fault
  pub parts_or_fault : (r : RequestValue) (fault : HeadFault) → PartsAsk p limits facts r
      → PartsFault p limits facts fault → ⊥
  parts_or_fault r fault asks x = elim x [
    | PartsFault.malformed part bad e ↦ not_malformed (spelled_head p) asks.shape part bad
    | PartsFault.spelled shape has ↦ asks_or_fault (parts_text p) limits facts asks.spelled fault asks.asks has
  ]

  -- they ask for one request at most
  pub one_by_parts : (r q : RequestValue) → PartsAsk p limits facts r → PartsAsk p limits facts q → r ≡ q
  one_by_parts r q x y =
      let spelled = one_ask (parts_text p) limits facts x.spelled y.spelled x.asks y.asks in
      x.request ∙ ap (in_protocol p.protocol) spelled ∙ sym y.request

  -- which is that of the parts
  pub request_by_parts : (r : RequestValue) → PartsAsk p limits facts r
      → r ≡ request_of p.method p.target p.protocol (lines_of (head_of (spelled_head p))) facts
  request_by_parts r x =
      x.request
      ∙ ap (in_protocol p.protocol) (x.asks.request
      ∙ ap (λ h. request_of_head h facts) (parts_head p x.shape x.asks.head x.asks.rest x.asks.starts))

  -- which is within the limits: its protocol is no longer as text than that of the head
  pub parts_in_limits : (r : RequestValue) → PartsAsk p limits facts r → InLimits r limits
  parts_in_limits r x =
      let within = x.asks.in_limits in
      let own : length (protocol_of x.spelled.protocol) ≡ 8 =
      ap (λ (q : RequestValue). length (protocol_of q.protocol)) x.asks.request ∙ head_protocol_length x.asks.head.http11 in
      let short = protocol_short p.protocol in
      rw x.request (record {
        count = within.count;
        headers = within.headers;
        method = within.method;
        target = within.target;
        protocol = omega (arith, within.protocol, own, short);
        facts = within.facts;
      })

  -- and is a request, on a connection whose facts are facts
  pub parts_request : (r : RequestValue) → PartsAsk p limits facts r → AreFacts facts → IsRequest r
  parts_request r x sound =
      let spelled = asked_request (parts_text p) limits facts x.spelled x.asks sound in
      rw x.request (record {
        method = spelled.method;
        target = spelled.target;
        lines = spelled.lines;
        headers = spelled.headers;
        few = spelled.few;
        facts = spelled.facts;
      })

  -- what the head's own tests find is a fault of the parts
  pub spelling_fault : (fault : HeadFault) → IsSpellingFault (spelled_head p) fault → PartsFault p limits facts fault
  spelling_fault (faults.Malformed part) bad = PartsFault.malformed part bad refl
  spelling_fault faults.TooLong (shape, long) =
      PartsFault.spelled shape (HasFault.endless (parts_too_long p shape long) long refl)
  spelling_fault faults.Unfinished none = absurd none
  spelling_fault faults.OtherForm none = absurd none
  spelling_fault faults.BadText none = absurd none
  spelling_fault faults.NoHost none = absurd none
  spelling_fault faults.TwoHosts none = absurd none
  spelling_fault faults.TwoLengths none = absurd none
  spelling_fault faults.BadLength none = absurd none
  spelling_fault faults.TransferCoding none = absurd none
  spelling_fault faults.OutsideLimits none = absurd none
