-- The head of a mapped request asks for this request.
use Rattle.std.proofs.Common.{◌≡◌, ◌∙◌, ℕ, ◌<◌, ◌≤◌, ◌==◌, Bool, true, false, Option, Some, None, List, [], ◌∷◌, ◌++◌, All, ap, ap₂, append-nil, arith, codes, length, map, refl, reverse, subst, sym}
use Rattle.std.specs.Prelude.{IfSome, IsTrue, IsUtf8, filter, if◌then◌else◌, not, ⊤}
use Rattle.std.specs.List.{AllZip, list_all}
use Rattle.std.specs.Str.{bytes_eq}
use Rattle.std.specs.String.{string_bytes}
use Rattle.std.proofs.lemmas.Bool.{and_parts, ltb-true}
use Rattle.std.proofs.lemmas.List.{length-map, reverse-append, reverse-reverse}
use Rattle.std.proofs.lemmas.List.Elements.{All-cons, All-head, All-nil, All-tail}
use Rattle.attributes.specs.Conn.{Facts}
use Rattle.attributes.specs.Headers.{Entry, values_of}
use Rattle.attributes.specs.Limits.{LimitsValue}
use Rattle.attributes.specs.Request.{IsTextEntry, RequestValue, head_protocol, request_of}
use Rattle.http_header.specs.Token as header
use Rattle.http_header.specs.Token.{lowercase}
use Rattle.http_header.proofs.TokenLemmas.{AllPass-from_test, is_token_byte-to_ascii_lowercase, lowercase-lowercase_lem}
use Rattle.std.specs.Char.{to_ascii_lowercase}
use Rattle.httparse.specs.Grammar.{AllPass, Field, IsField, IsRequestHead, IsToken, ReadsRequest, RequestHead, is_ows, is_token, is_token_byte, is_uri_byte, is_value_byte, print_request, skip_ows, trim_ows}
use Rattle.httparse.specs.Spans.{name_and_value}
use Rattle.httparse.proofs.GrammarLemmas.{request_unique}
use Rattle.httparse.proofs.TrimLemmas.{AllPass-trim_ows, trim_ows_space}
use Rattle.head_map.specs.Claims as claims
use Rattle.head_map.specs.Claims.{Claim, Reads, is_host, is_target}
use Rattle.head_map.specs.Heads.{head_of}
use Rattle.head_map.specs.Mapped.{ClientValue, IsMapped, MappingValue, PartsValue, Says, client_of, is_named, lines_with_host, mapped, other_lines, put, put_all, with_facts}
use Rattle.head_map.specs.declared.fact.Fact.{Fact}
use Rattle.head_map.specs.declared.fact.Fact.TheVariants as facts
use Rattle.head_map.specs.declared.fact.NamedFact.{NamedFact}
use Rattle.http_front.specs.declared.fault.HeadFault.{HeadFault}
use Rattle.http_front.specs.declared.fault.HeadFault.TheVariants.{BadText}
use Rattle.http_front.specs.Asks.{HeadAsks, request_of_head}
use Rattle.http_front.specs.Head as heads
use Rattle.http_front.specs.Head.{HeadValue, StartsHead, head_room}
use Rattle.http_front.specs.Parts.{IsTarget}
use Rattle.http_front.specs.Rules.{IsBadText, RuleFault, lines_of, lowered}
use Rattle.http_front.specs.private.Parsed.{AreTexts}
use Rattle.http_front.proofs.FieldNames.{token_byte}
use Rattle.http_front.proofs.HeadTexts.{kept_texts}
use Rattle.http_front.proofs.Spelling.{token_from_test, version_is}
use Rattle.serve_core.specs.ClientHeads.{head_of_client}
use Rattle.serve_core.specs.ClientRequests.{parts_of_head}
use Rattle.serve_core.proofs.WrittenHeads.{client_line, client_tree, head_written}

-- ---- white space at the ends

-- the bytes begin with no white space
StartsClean : List ℕ → Type 0
StartsClean [] = ⊤
StartsClean (b ∷ bytes) = is_ows b ≡ false

skipped_clean : (bytes : List ℕ) → StartsClean (skip_ows bytes)
unfolding StartsClean
skipped_clean [] = tt
skipped_clean (b ∷ bytes) = by_test (is_ows b) refl (skipped_clean bytes)
  where
    by_test : (t : Bool) → is_ows b ≡ t → StartsClean (skip_ows bytes) → StartsClean (skip_ows (b ∷ bytes))
    by_test true blank later = rw blank later
    by_test false other later = rw other other

clean_same : (bytes : List ℕ) → StartsClean bytes → skip_ows bytes ≡ bytes
unfolding StartsClean
clean_same [] clean = refl
clean_same (b ∷ bytes) clean = rw clean refl

clean_front : (front back : List ℕ) → StartsClean (front ++ back) → StartsClean front
unfolding StartsClean
clean_front [] back clean = tt
clean_front (b ∷ front) back clean = clean

-- the white space that is skipped, and what is left
skip_parts : (bytes : List ℕ) → (front : List ℕ) × (bytes ≡ front ++ skip_ows bytes)
skip_parts [] = ([], refl)
skip_parts (b ∷ bytes) = by_test (is_ows b) refl (skip_parts bytes)
  where
    by_test : (t : Bool) → is_ows b ≡ t → (front : List ℕ) × (bytes ≡ front ++ skip_ows bytes)
        → (front : List ℕ) × (b ∷ bytes ≡ front ++ skip_ows (b ∷ bytes))
    by_test true blank (front, whole) = (b ∷ front, rw blank (ap (λ (l : List ℕ). b ∷ l) whole))
    by_test false other rest = ([], rw other refl)

-- what is trimmed is trimmed
pub trim_again : (raw : List ℕ) → trim_ows (32 ∷ trim_ows raw) ≡ trim_ows raw
unfolding trim_ows
trim_again raw =
    let kept = skip_ows raw in
    let left = skip_ows (reverse kept) in
    let (front, whole) = skip_parts (reverse kept) in
    let turned : kept ≡ reverse left ++ reverse front =
    sym (reverse-reverse kept) ∙ ap reverse whole ∙ reverse-append front left in
    let first : skip_ows (reverse left) ≡ reverse left =
    clean_same (reverse left) (clean_front (reverse left) (reverse front) (subst StartsClean turned (skipped_clean raw))) in
    let last : skip_ows (reverse (reverse left)) ≡ reverse (reverse left) =
    ap skip_ows (reverse-reverse left) ∙ clean_same left (skipped_clean (reverse kept)) ∙ sym (reverse-reverse left) in
    trim_ows_space (reverse left) first last

-- ---- lines

-- the value is one that a head has, without white space at its ends
pub record CleanValue (value : List ℕ) : Type 0 where
  pub bytes : AllPass is_value_byte value
  pub trimmed : trim_ows (32 ∷ value) ≡ value
  pub text : IsUtf8 value

-- so is that of the line, and its name is a token in lower case
pub record CleanLine (line : Entry) : Type 0 where
  pub name : IsToken line.0
  pub lower : lowercase line.0 ≡ line.0
  pub value : CleanValue line.1

pub AllClean : List Entry → Type 0
AllClean [] = ⊤
AllClean (line ∷ lines) = CleanLine line × AllClean lines

back_byte : (b : ℕ) → IsTrue (header.is_token_byte b) → IsTrue (is_token_byte b)
unfolding is_token_byte header.is_token_byte
back_byte b is = is

lower_bytes : (bytes : List ℕ) → AllPass is_token_byte bytes → AllPass is_token_byte (map to_ascii_lowercase bytes)
lower_bytes [] all = All-nil (λ b. IsTrue (is_token_byte b))
lower_bytes (b ∷ bytes) all =
    let P : ℕ → Type 0 = λ c. IsTrue (is_token_byte c) in
    All-cons P (to_ascii_lowercase b) (map to_ascii_lowercase bytes)
    (back_byte (to_ascii_lowercase b) (is_token_byte-to_ascii_lowercase b (token_byte b (All-head P b bytes all))))
    (lower_bytes bytes (All-tail P b bytes all))

clean_field : (f : Field) → IsField f → IsTextEntry (name_and_value f) → CleanLine (lowered (name_and_value f))
clean_field f shape text = record {
  name = (rw length-map shape.name.0, lower_bytes f.name shape.name.1);
  lower = lowercase-lowercase_lem f.name;
  value = record {
    bytes = AllPass-trim_ows is_value_byte f.raw shape.raw;
    trimmed = trim_again f.raw;
    text = text.1;
  };
}

clean_fields : (fields : List Field) → All IsField fields → All IsTextEntry (map name_and_value fields)
    → AllClean (map lowered (map name_and_value fields))
unfolding AllClean
clean_fields [] shapes texts = tt
clean_fields (f ∷ fields) shapes texts = (
  clean_field f (All-head IsField f fields shapes)
      (All-head IsTextEntry (name_and_value f) (map name_and_value fields) texts),
  clean_fields fields (All-tail IsField f fields shapes)
      (All-tail IsTextEntry (name_and_value f) (map name_and_value fields) texts),
)

filter_clean : (p : Entry → Bool) (lines : List Entry) → AllClean lines → AllClean (filter p lines)
unfolding AllClean
filter_clean p [] clean = tt
filter_clean p (line ∷ lines) (first, others) = by_test (filter_clean p lines others) (p line) refl
  where
    by_test : AllClean (filter p lines) → (t : Bool) → p line ≡ t → AllClean (filter p (line ∷ lines))
    by_test more true is = rw is (first, more)
    by_test more false is = rw is more

append_clean : (xs ys : List Entry) → AllClean xs → AllClean ys → AllClean (xs ++ ys)
unfolding AllClean
append_clean [] ys none clean = clean
append_clean (x ∷ xs) ys (first, others) clean = (first, append_clean xs ys others clean)

-- the one value of a name
value_clean : (name value : List ℕ) (lines : List Entry) → AllClean lines → values_of name lines ≡ value ∷ []
    → CleanValue value
unfolding AllClean
value_clean name value [] clean is = absurd cc
value_clean name value (line ∷ lines) (first, others) is =
    by_test (λ more. value_clean name value lines others more) (bytes_eq line.0 name) refl
  where
    by_test : (values_of name lines ≡ value ∷ [] → CleanValue value) → (t : Bool) → bytes_eq line.0 name ≡ t
        → CleanValue value
    by_test later true same =
        let here : line.1 ∷ values_of name lines ≡ value ∷ [] = rw same at is in
        let one : line.1 ≡ value = cc in
        subst CleanValue one first.value
    by_test later false other = later (rw other at is)

-- ---- claims

SoundClaim : Claim → Type 0
SoundClaim (claims.method text) = IsToken text
SoundClaim (claims.target text) = IsTarget text
SoundClaim (claims.host text) = CleanValue text
SoundClaim _ = ⊤

target_is : (text : List ℕ) → IsTrue (is_target text) → IsUtf8 text → IsTarget text
target_is [] is text = absurd cc
target_is (b ∷ bytes) is text = (omega arith, AllPass-from_test is_uri_byte (b ∷ bytes) (and_parts _ _ is).1, text)

sound_claim : (fact : Fact) (value : List ℕ) (claim : Claim) → CleanValue value → Reads fact value claim → SoundClaim claim
unfolding SoundClaim
sound_claim facts.Method value claim clean (token, is) = rw is (token_from_test value (sym token))
sound_claim facts.Target value claim clean (target, is) = rw is (target_is value target clean.text)
sound_claim facts.Host value claim clean (host, is) = rw is clean
sound_claim facts.Scheme value claim clean (scheme, is) = rw is tt
sound_claim facts.RemoteIp value claim clean (ip, spelled, is) = rw is tt
sound_claim (facts.ForwardedFor place) value claim clean (ip, spelled, is) = rw is tt
sound_claim facts.DirectRemoteIp value claim clean (ip, spelled, is) = rw is tt
sound_claim facts.SourcePort value claim clean (port, spelled, is) = rw is tt
sound_claim (facts.Mtls mark) value claim clean is = rw is tt
sound_claim facts.RequestedServerName value claim clean is = rw is tt
sound_claim facts.SubjectPeerCertificate value claim clean is = rw is tt
sound_claim facts.DnsSanPeerCertificate value claim clean is = rw is tt
sound_claim facts.UriSanPeerCertificate value claim clean is = rw is tt

-- the client's request has parts that a head has
record SoundClient (client : ClientValue) : Type 0 where
  method : IsToken client.method
  target : IsTarget client.target
  host : IfSome client.host CleanValue

put_sound : (claim : Claim) (client : ClientValue) → SoundClaim claim → SoundClient client → SoundClient (put claim client)
unfolding SoundClaim
put_sound (claims.method text) client is sound = record { method = is; target = sound.target; host = sound.host }
put_sound (claims.target text) client is sound = record { method = sound.method; target = is; host = sound.host }
put_sound (claims.host text) client is sound = record { method = sound.method; target = sound.target; host = is }
put_sound (claims.scheme text) client is sound = record { method = sound.method; target = sound.target; host = sound.host }
put_sound (claims.remote_ip ip) client is sound = record { method = sound.method; target = sound.target; host = sound.host }
put_sound (claims.direct_remote_ip ip) client is sound = record { method = sound.method; target = sound.target; host = sound.host }
put_sound (claims.source_port port) client is sound = record { method = sound.method; target = sound.target; host = sound.host }
put_sound (claims.mtls is_mtls) client is sound = record { method = sound.method; target = sound.target; host = sound.host }
put_sound (claims.requested_server_name text) client is sound = record { method = sound.method; target = sound.target; host = sound.host }
put_sound (claims.subject_peer_certificate text) client is sound = record { method = sound.method; target = sound.target; host = sound.host }
put_sound (claims.dns_san_peer_certificate text) client is sound = record { method = sound.method; target = sound.target; host = sound.host }
put_sound (claims.uri_san_peer_certificate text) client is sound = record { method = sound.method; target = sound.target; host = sound.host }

all_sound : (lines : List Entry) (named : List NamedFact) (said : List Claim) (client : ClientValue) → AllClean lines
    → AllZip (Says lines) named said → SoundClient client → SoundClient (put_all said client)
all_sound lines [] [] client clean says sound = sound
all_sound lines [] (claim ∷ said) client clean says sound = absurd says
all_sound lines (n ∷ named) [] client clean says sound = absurd says
all_sound lines (n ∷ named) (claim ∷ said) client clean ((value, one, reads), others) sound =
    all_sound lines named said (put claim client) clean others
    (put_sound claim client
    (sound_claim n.fact value claim (value_clean (string_bytes n.field) value lines clean one) reads) sound)

host_token : IsToken (codes "host")
unfolding is_token_byte
host_token = token_from_test (codes "host") refl

with_host : (host : Option (List ℕ)) (lines : List Entry) → IfSome host CleanValue → AllClean lines
    → AllClean (lines_with_host host lines)
unfolding AllClean
with_host None lines none clean = clean
with_host (Some host) lines value clean =
    append_clean (filter (λ (l : Entry). not (bytes_eq l.0 (codes "host"))) lines) ((codes "host", host) ∷ [])
    (filter_clean (λ (l : Entry). not (bytes_eq l.0 (codes "host"))) lines clean)
    (record { name = host_token; lower = refl; value = value }, tt)

-- ---- the request

-- parts that a head has
pub record SoundParts (p : PartsValue) : Type 0 where
  pub method : IsToken p.method
  pub target : IsTarget p.target
  pub lines : AllClean p.lines

written_fields : (lines : List Entry) → AllClean lines → All IsField (map client_line lines)
unfolding AllClean
written_fields [] clean = All-nil IsField
written_fields (line ∷ lines) (first, others) =
    All-cons IsField (client_line line) (map client_line lines)
    (record { name = first.name; raw = All-cons (λ b. IsTrue (is_value_byte b)) 32 line.1 refl first.value.bytes })
    (written_fields lines others)

same_lines : (lines : List Entry) → AllClean lines → map lowered (map name_and_value (map client_line lines)) ≡ lines
unfolding AllClean
same_lines [] clean = refl
same_lines (line ∷ lines) (first, others) =
    ap (λ (e : Entry). e ∷ map lowered (map name_and_value (map client_line lines))) (same line first)
    ∙ ap (λ (more : List Entry). line ∷ more) (same_lines lines others)
  where
    same : (l : Entry) → CleanLine l → lowered (name_and_value (client_line l)) ≡ l
    same l clean =
        ap (λ (n : List ℕ). (n, trim_ows (32 ∷ l.1))) clean.lower ∙ ap (λ (v : List ℕ). (l.0, v)) clean.value.trimmed

same_fields : (lines : List Entry) → AllClean lines → map name_and_value (map client_line lines) ≡ lines
unfolding AllClean
same_fields [] clean = refl
same_fields (line ∷ lines) (first, others) =
    ap (λ (v : List ℕ). (line.0, v) ∷ map name_and_value (map client_line lines)) first.value.trimmed
    ∙ ap (λ (more : List Entry). line ∷ more) (same_fields lines others)

module _ (p : PartsValue) (http11 : Bool) (sound : SoundParts p) where
  abbrev tree : RequestHead
  tree = client_tree p http11

  few : (b : Bool) → (if b then 1 else 0) ≤ 1
  few true = omega arith
  few false = omega arith

  version : (b : Bool) → ((if b then 1 else 0) == 1) ≡ b
  version true = refl
  version false = refl

  shape : IsRequestHead tree
  shape = record {
    method = sound.method;
    target = (sound.target.0, sound.target.1);
    target_text = sound.target.2;
    minor = few http11;
    fields = written_fields p.lines sound.lines;
  }

  reads : ReadsRequest (head_of p http11) tree []
  reads = (shape, head_written p http11 ∙ sym (append-nil (print_request tree)))

  pub asks_itself : (limits : LimitsValue) (r : RequestValue) → HeadAsks (head_of p http11) limits p.facts r
      → r ≡ request_of p.method p.target (head_protocol http11) p.lines p.facts
  asks_itself limits r asks =
      let same : asks.starts.tree ≡ tree =
      (request_unique (head_of p http11) asks.starts.tree tree asks.rest [] asks.starts.reads reads).0 in
      let head : asks.head ≡ heads.head_of tree = asks.starts.value ∙ ap heads.head_of same in
      asks.request ∙ ap (λ (h : HeadValue). request_of_head h p.facts) head
      ∙ ap (λ (ls : List Entry). request_of p.method p.target (head_protocol ((heads.head_of tree).http11)) ls p.facts)
      (same_lines p.lines sound.lines)
      ∙ ap (λ (b : Bool). request_of p.method p.target (head_protocol b) p.lines p.facts) (version http11)

  -- the head with these parts
  abbrev with_fields : Bool → List Entry → HeadValue
  with_fields b fields = record { method = p.method; target = p.target; http11 = b; fields = fields }

  pub starts_itself : length (head_of p http11) ≤ head_room
      → StartsHead (head_of p http11) (head_of_client p http11) []
  starts_itself room = record {
    tree = tree;
    reads = reads;
    in_room = subst (λ (text : List ℕ). length text ≤ head_room) (head_written p http11) room;
    value = sym (ap₂ with_fields (version http11) (same_fields p.lines sound.lines));
  }

-- the parts of a front's head that breaks no rule
head_sound : (bytes : List ℕ) (h : HeadValue) (rest : List ℕ) (f : Facts) → StartsHead bytes h rest
    → ((fault : HeadFault) → RuleFault h fault → ⊥) → SoundParts (parts_of_head h f)
head_sound bytes h rest f starts keeps =
    let tree = starts.tree in
    let shape = starts.reads.0 in
    let texts : AreTexts (heads.head_of tree) =
    kept_texts tree shape
    (λ bad. subst (λ (k : HeadValue). (fault : HeadFault) → RuleFault k fault → ⊥) starts.value keeps BadText (RuleFault.bad_text bad refl)) in
    rw starts.value (record {
      method = shape.method;
      target = (shape.target.0, shape.target.1, shape.target_text);
      lines = clean_fields tree.fields shape.fields texts.fields;
    })

module _ (m : MappingValue) (bytes : List ℕ) (h : HeadValue) (rest : List ℕ) (f : Facts) (client : PartsValue)
    (starts : StartsHead bytes h rest) (keeps : (fault : HeadFault) → RuleFault h fault → ⊥)
    (is : IsMapped m (parts_of_head h f) client) where
  old : SoundParts (parts_of_head h f)
  old = head_sound bytes h rest f starts keeps

  put_to : SoundClient (put_all is.claims (client_of (parts_of_head h f)))
  put_to = all_sound (lines_of h) m.named is.claims (client_of (parts_of_head h f)) old.lines is.say
      (record { method = old.method; target = old.target; host = tt })

  made : SoundParts (mapped m is.claims (parts_of_head h f))
  made = record {
    method = put_to.method;
    target = put_to.target;
    lines = with_host _ _ put_to.host (filter_clean (λ (l : Entry). not (is_named m.named l.0)) (lines_of h) old.lines);
  }

  sound : SoundParts client
  sound = subst SoundParts (sym is.value) made

  pub mapped_asks : (http11 : Bool) (limits : LimitsValue) (r : RequestValue)
      → HeadAsks (head_of client http11) limits client.facts r
      → r ≡ request_of client.method client.target (head_protocol http11) client.lines client.facts
  mapped_asks http11 limits r asks = asks_itself client http11 sound limits r asks

  pub mapped_starts : (http11 : Bool) → length (head_of client http11) ≤ head_room
      → StartsHead (head_of client http11) (head_of_client client http11) []
  mapped_starts http11 room = starts_itself client http11 sound room
