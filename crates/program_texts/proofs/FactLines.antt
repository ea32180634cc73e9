-- The text of the object of facts is one line, and has no float.
use Rattle.std.proofs.Common.{◌≡◌, ◌<◌, ◌^◌, ◌&&◌, ℕ, zero, suc, Bool, true, false, List, [], ◌∷◌, ◌++◌, Option, Some, None, IfSome, IsUtf8, Ordering, Less, Equal, Greater, option_map, drop, length, refl, sym, ap, ◌∙◌, subst, arith, codes, decimal}
use Rattle.std.proofs.Common.{ltb-true}
use Rattle.std.proofs.lemmas.Bool.{and_parts}
use Rattle.std.proofs.lemmas.Str.Ascii.{IsAscii-cons, IsAscii-nil}
use Rattle.std.specs.Str.{IsAscii}
use Rattle.std.proofs.lemmas.Fmt.{IsAscii-decimal}
use Rattle.std.proofs.lemmas.Str.{IsUtf8-append, IsUtf8-from_ascii, IsUtf8-nil}
use Rattle.std.specs.Cmp.Lexicographic.{slice_cmp}
use Rattle.std.specs.Int.{w32, w128, byte_at, bytes_high_first, to_be_bytes}
use Rattle.std.specs.Net.Text.{dotted_text}
use Rattle.std.specs.Ordering.{is_lt, match_ordering, nat_cmp}
use Rattle.attributes.specs.Address.{IsAddress as IsInRange, unmapped}
use Rattle.attributes.specs.Conn.{AreFacts as AreSound, Facts, IsPort, server_name}
use Rattle.attributes.specs.declared.address.Ip.{Ip}
use Rattle.attributes.specs.declared.address.Ip.TheVariants.{V4, V6}
use Rattle.hex.specs.Hex.{encode_lower, lower_digits}
use Rattle.hex.proofs.HexLemmas.{IsAscii-encode_with}
use Rattle.json.proofs.Printed.Utf8.{IsUtf8-are_ascii, are_ascii}
use Rattle.serde_json.specs.Data.{Data, boolean, number, unsigned, string, object, Members, no_members, member}
use Rattle.serde_json.specs.Find.{get, get_member}
use Rattle.serde_json.specs.Written.{has_float, members_have_float}
use Rattle.program_texts.specs.Facts.{AreFacts, AreNamed, BothOrNone, IsAddress, IsAnswer, IsFactName, IsNumber, IsPortNumber, IsScheme, IsServerName, IsText, fact_row, name_of}
use Rattle.program_texts.specs.WrittenFacts.{AreInOneForm, colon_groups, fact_data, facts_by_name, facts_json, ip_text, known_members, known_then}
use Rattle.program_texts.specs.declared.fact.Fact.{Fact}
use Rattle.program_texts.proofs.JsonLines.{ArePlain, IsBelow, IsPlain}
use Rattle.program_texts.proofs.WrittenAddresses.{spells_ip}

-- ---- the text of the object is one line

ascii_of : (t : List ℕ) → are_ascii t ≡ true → IsAscii t
ascii_of [] h = IsAscii-nil
ascii_of (x ∷ xs) h = let p = and_parts _ _ h in IsAscii-cons x xs (ltb-true x 128 p.0) (ascii_of xs p.1)

-- hexadecimal digits are UTF-8
pub hex_text_utf8 : (bytes : List ℕ) → IsUtf8 (encode_lower bytes)
hex_text_utf8 bytes = IsUtf8-from_ascii (encode_lower bytes) (IsAscii-encode_with lower_digits bytes (ascii_of lower_digits refl))

groups_utf8 : (bytes : List ℕ) → IsUtf8 (colon_groups bytes)
groups_utf8 [] = IsUtf8-nil
groups_utf8 (a ∷ []) = IsUtf8-nil
groups_utf8 (a ∷ b ∷ bytes) =
    IsUtf8-append (58 ∷ []) _ (IsUtf8-are_ascii (58 ∷ []) refl)
    (IsUtf8-append (encode_lower (a ∷ b ∷ [])) (colon_groups bytes) (hex_text_utf8 (a ∷ b ∷ [])) (groups_utf8 bytes))

decimal_utf8 : (n : ℕ) → n < 256 → IsUtf8 (decimal n)
decimal_utf8 n h = IsUtf8-from_ascii (decimal n) (IsAscii-decimal n (omega arith))

dot_utf8 : IsUtf8 (codes ".")
dot_utf8 = IsUtf8-are_ascii (codes ".") refl

-- the values of facts are plain
abbrev IsPlainIf : ℕ → Option Data → Type 0
IsPlainIf n o = IfSome o (IsPlain n)

text_plain : (n : ℕ) (o : Option (List ℕ)) → IfSome o IsUtf8 → IsPlainIf n (option_map string o)
text_plain n None h = tt
text_plain n (Some s) h = h

port_plain : (n : ℕ) (o : Option ℕ) → IsPort o → IsPlainIf n (option_map (λ m. number (unsigned m)) o)
port_plain n None h = tt
port_plain n (Some m) h = omega (arith, h)

number_plain : (n : ℕ) (o : Option ℕ) → IfSome o (λ m. m < 2 ^ 64) → IsPlainIf n (option_map (λ m. number (unsigned m)) o)
number_plain n None h = tt
number_plain n (Some m) h = h

answer_plain : (n : ℕ) (o : Option Bool) → IsPlainIf n (option_map boolean o)
answer_plain n None = tt
answer_plain n (Some b) = tt

first_groups_utf8 : (bytes : List ℕ) → IsUtf8 (drop 1 (colon_groups bytes))
first_groups_utf8 [] = IsUtf8-nil
first_groups_utf8 (a ∷ []) = IsUtf8-nil
first_groups_utf8 (a ∷ b ∷ bytes) =
    IsUtf8-append (encode_lower (a ∷ b ∷ [])) (colon_groups bytes) (hex_text_utf8 (a ∷ b ∷ [])) (groups_utf8 bytes)

dotted_utf8 : (a b c d : ℕ) → a < 256 → b < 256 → c < 256 → d < 256 → IsUtf8 (dotted_text a b c d)
dotted_utf8 a b c d fits_a fits_b fits_c fits_d =
    let first = IsUtf8-append (decimal a) (codes ".") (decimal_utf8 a fits_a) dot_utf8 in
    let second = IsUtf8-append (decimal a ++ codes ".") (decimal b) first (decimal_utf8 b fits_b) in
    let second_dot = IsUtf8-append (decimal a ++ codes "." ++ decimal b) (codes ".") second dot_utf8 in
    let third = IsUtf8-append (decimal a ++ codes "." ++ decimal b ++ codes ".") (decimal c) second_dot (decimal_utf8 c fits_c) in
    let third_dot = IsUtf8-append (decimal a ++ codes "." ++ decimal b ++ codes "." ++ decimal c) (codes ".") third dot_utf8 in
    IsUtf8-append (decimal a ++ codes "." ++ decimal b ++ codes "." ++ decimal c ++ codes ".") (decimal d) third_dot (decimal_utf8 d fits_d)

ip_utf8 : (ip : Ip) → IsUtf8 (ip_text ip)
ip_utf8 (V4 n) = dotted_utf8 (byte_at 3 n) (byte_at 2 n) (byte_at 1 n) (byte_at 0 n) (omega arith) (omega arith) (omega arith) (omega arith)
ip_utf8 (V6 n) = first_groups_utf8 (to_be_bytes w128 n)

ip_plain : (n : ℕ) (o : Option Ip) → IsPlainIf n (option_map (λ ip. string (ip_text ip)) o)
ip_plain n None = tt
ip_plain n (Some ip) = ip_utf8 ip

names_are_ascii : (fact : Fact) → are_ascii (name_of fact) ≡ true
names_are_ascii Fact.SourceAddress = refl
names_are_ascii Fact.SourcePort = refl
names_are_ascii Fact.DestinationAddress = refl
names_are_ascii Fact.DestinationPort = refl
names_are_ascii Fact.ConnectionMtls = refl
names_are_ascii Fact.ConnectionId = refl
names_are_ascii Fact.ConnectionRequestedServerName = refl
names_are_ascii Fact.ConnectionTlsVersion = refl
names_are_ascii Fact.ConnectionSubjectPeerCertificate = refl
names_are_ascii Fact.ConnectionDnsSanPeerCertificate = refl
names_are_ascii Fact.ConnectionUriSanPeerCertificate = refl
names_are_ascii Fact.DirectRemoteIp = refl
names_are_ascii Fact.RemoteIp = refl
names_are_ascii Fact.DestinationIp = refl
names_are_ascii Fact.RequestScheme = refl

-- the name is below those of the facts
abbrev pub is_below : List ℕ → List Fact → Bool
is_below k [] = true
is_below k (fact ∷ facts) = is_lt (slice_cmp nat_cmp k (name_of fact)) && is_below k facts

-- the names of the facts ascend
abbrev pub ascend : List Fact → Bool
ascend [] = true
ascend (fact ∷ facts) = is_below (name_of fact) facts && ascend facts

less_from : (o : Ordering) → is_lt o ≡ true → o ≡ Less
less_from Less h = refl
less_from Equal h = absurd cc
less_from Greater h = absurd cc

module _ (f : Facts) where
  below_then : (k name : List ℕ) (o : Option Data) (ms : Members) → slice_cmp nat_cmp k name ≡ Less → IsBelow k ms
      → IsBelow k (known_then name o ms)
  below_then k name None ms less h = h
  below_then k name (Some d) ms less h = (less, h)

  pub below_known : (k : List ℕ) (facts : List Fact) → is_below k facts ≡ true → IsBelow k (known_members f facts)
  below_known k [] h = tt
  below_known k (fact ∷ facts) h =
      let p = and_parts _ _ h in
      below_then k (name_of fact) (fact_data fact f) (known_members f facts) (less_from _ p.0) (below_known k facts p.1)

  plain_then : (n : ℕ) (name : List ℕ) (o : Option Data) (ms : Members) → IsUtf8 name → IsPlainIf n o → IsBelow name ms
      → ArePlain n ms → ArePlain n (known_then name o ms)
  plain_then n name None ms utf8 plain below h = h
  plain_then n name (Some d) ms utf8 plain below h = (utf8, plain, below, h)

  module _ (sound : AreSound f) (n : ℕ) where
    value_plain : (fact : Fact) → IsPlainIf n (fact_data fact f)
    value_plain Fact.SourceAddress = text_plain n f.source_address sound.texts.0
    value_plain Fact.SourcePort = port_plain n f.source_port sound.source_port
    value_plain Fact.DestinationAddress = text_plain n f.destination_address sound.texts.1.0
    value_plain Fact.DestinationPort = port_plain n f.destination_port sound.destination_port
    value_plain Fact.ConnectionMtls = answer_plain n f.mtls
    value_plain Fact.ConnectionId = number_plain n f.connection_id sound.connection_id
    value_plain Fact.ConnectionRequestedServerName = text_plain n f.requested_server_name sound.texts.1.1.0
    value_plain Fact.ConnectionTlsVersion = text_plain n f.tls_version sound.texts.1.1.1.0
    value_plain Fact.ConnectionSubjectPeerCertificate =
        text_plain n f.subject_peer_certificate sound.texts.1.1.1.1.0
    value_plain Fact.ConnectionDnsSanPeerCertificate =
        text_plain n f.dns_san_peer_certificate sound.texts.1.1.1.1.1.0
    value_plain Fact.ConnectionUriSanPeerCertificate =
        text_plain n f.uri_san_peer_certificate sound.texts.1.1.1.1.1.1.0
    value_plain Fact.DirectRemoteIp = ip_plain n f.direct_remote_ip
    value_plain Fact.RemoteIp = ip_plain n f.remote_ip
    value_plain Fact.DestinationIp = ip_plain n f.destination_ip
    value_plain Fact.RequestScheme = sound.texts.1.1.1.1.1.1.1.0

    known_plain : (facts : List Fact) → ascend facts ≡ true → ArePlain n (known_members f facts)
    known_plain [] h = tt
    known_plain (fact ∷ facts) h =
        let p = and_parts _ _ h in
        plain_then n (name_of fact) (fact_data fact f) (known_members f facts)
        (IsUtf8-are_ascii (name_of fact) (names_are_ascii fact)) (value_plain fact)
        (below_known (name_of fact) facts p.0) (known_plain facts p.1)

    -- the object of facts is read back from its line
    pub facts_plain : IsPlain (suc n) (facts_json f)
    facts_plain = known_plain facts_by_name refl

-- ---- no value is a float

abbrev HasNoFloat : Option Data → Type 0
HasNoFloat o = IfSome o (λ d. has_float d ≡ false)

text_whole : (o : Option (List ℕ)) → HasNoFloat (option_map string o)
text_whole None = tt
text_whole (Some s) = refl

number_whole : (o : Option ℕ) → HasNoFloat (option_map (λ n. number (unsigned n)) o)
number_whole None = tt
number_whole (Some n) = refl

answer_whole : (o : Option Bool) → HasNoFloat (option_map boolean o)
answer_whole None = tt
answer_whole (Some b) = refl

ip_whole : (o : Option Ip) → HasNoFloat (option_map (λ ip. string (ip_text ip)) o)
ip_whole None = tt
ip_whole (Some ip) = refl

module _ (f : Facts) where
  value_whole : (fact : Fact) → HasNoFloat (fact_data fact f)
  value_whole Fact.SourceAddress = text_whole f.source_address
  value_whole Fact.SourcePort = number_whole f.source_port
  value_whole Fact.DestinationAddress = text_whole f.destination_address
  value_whole Fact.DestinationPort = number_whole f.destination_port
  value_whole Fact.ConnectionMtls = answer_whole f.mtls
  value_whole Fact.ConnectionId = number_whole f.connection_id
  value_whole Fact.ConnectionRequestedServerName = text_whole f.requested_server_name
  value_whole Fact.ConnectionTlsVersion = text_whole f.tls_version
  value_whole Fact.ConnectionSubjectPeerCertificate = text_whole f.subject_peer_certificate
  value_whole Fact.ConnectionDnsSanPeerCertificate = text_whole f.dns_san_peer_certificate
  value_whole Fact.ConnectionUriSanPeerCertificate = text_whole f.uri_san_peer_certificate
  value_whole Fact.DirectRemoteIp = ip_whole f.direct_remote_ip
  value_whole Fact.RemoteIp = ip_whole f.remote_ip
  value_whole Fact.DestinationIp = ip_whole f.destination_ip
  value_whole Fact.RequestScheme = refl

  whole_then : (name : List ℕ) (o : Option Data) (ms : Members) → HasNoFloat o → members_have_float ms ≡ false
      → members_have_float (known_then name o ms) ≡ false
  whole_then name None ms value rest = rest
  whole_then name (Some d) ms value rest = rw value rest

  known_whole : (facts : List Fact) → members_have_float (known_members f facts) ≡ false
  known_whole [] = refl
  known_whole (fact ∷ facts) =
      whole_then (name_of fact) (fact_data fact f) (known_members f facts) (value_whole fact) (known_whole facts)

  pub facts_have_no_float : has_float (facts_json f) ≡ false
  facts_have_no_float = known_whole facts_by_name
