-- The object of facts is read back as the facts, and its text is one line.
use Rattle.std.proofs.Common.{◌≡◌, ◌<◌, ◌^◌, ◌&&◌, ℕ, zero, suc, Bool, true, false, List, [], ◌∷◌, ◌++◌, Option, Some, None, IfSome, IsUtf8, Ordering, Less, Equal, Greater, option_map, drop, length, refl, sym, ap, ◌∙◌, subst, arith, codes, decimal}
use Rattle.std.proofs.Common.{ltb-true}
use Rattle.std.proofs.lemmas.Bool.{and_parts}
use Rattle.std.proofs.lemmas.Str.Ascii.{IsAscii-cons, IsAscii-nil}
use Rattle.std.specs.Str.{IsAscii}
use Rattle.std.proofs.lemmas.Fmt.{IsAscii-decimal}
use Rattle.std.proofs.lemmas.Str.{IsUtf8-append, IsUtf8-from_ascii, IsUtf8-nil}
use Rattle.std.specs.Cmp.Lexicographic.{slice_cmp}
use Rattle.std.specs.Int.{w32, w128, byte_at, bytes_high_first, to_be_bytes}
use Rattle.std.specs.Net.Text.{dotted_text}
use Rattle.std.specs.Ordering.{is_lt, match_ordering, nat_cmp}
use Rattle.attributes.specs.Address.{IsAddress as IsInRange, unmapped}
use Rattle.attributes.specs.Conn.{AreFacts as AreSound, Facts, IsPort, server_name}
use Rattle.attributes.specs.declared.address.Ip.{Ip}
use Rattle.attributes.specs.declared.address.Ip.TheVariants.{V4, V6}
use Rattle.hex.specs.Hex.{encode_lower, lower_digits}
use Rattle.hex.proofs.HexLemmas.{IsAscii-encode_with}
use Rattle.json.proofs.Printed.Utf8.{IsUtf8-are_ascii, are_ascii}
use Rattle.serde_json.specs.Data.{Data, boolean, number, unsigned, string, object, Members, no_members, member}
use Rattle.serde_json.specs.Find.{get, get_member}
use Rattle.serde_json.specs.Written.{has_float, members_have_float}
use Rattle.program_texts.specs.Facts.{AreFacts, AreNamed, BothOrNone, IsAddress, IsAnswer, IsFactName, IsNumber, IsPortNumber, IsScheme, IsServerName, IsText, fact_row, name_of}
use Rattle.program_texts.specs.WrittenFacts.{AreInOneForm, colon_groups, fact_data, facts_by_name, facts_json, ip_text, known_members, known_then}
use Rattle.program_texts.specs.declared.fact.Fact.{Fact}
use Rattle.program_texts.proofs.JsonLines.{ArePlain, IsBelow, IsPlain}
use Rattle.program_texts.proofs.WrittenAddresses.{spells_ip}

-- ---- each fact is found under its name

-- the first value, or the second if there is none
abbrev or_else : Option Data → Option Data → Option Data
or_else None o = o
or_else (Some d) o = Some d

or_none : (o : Option Data) → or_else o None ≡ o
or_none None = refl
or_none (Some d) = refl

same_each : (o : Ordering) (x : Option Data) → x ≡ match_ordering o x x x
same_each Less x = refl
same_each Equal x = refl
same_each Greater x = refl

module _ (f : Facts) where
  -- the value of the facts with this name
  abbrev found : List ℕ → List Fact → Option Data
  found k [] = None
  found k (fact ∷ facts) =
      match_ordering (slice_cmp nat_cmp k (name_of fact)) (found k facts) (or_else (fact_data fact f) (found k facts)) (found k facts)

  found_first : (k name : List ℕ) (o rest : Option Data) (ms : Members) → get_member k ms ≡ rest
      → get_member k (known_then name o ms) ≡ match_ordering (slice_cmp nat_cmp k name) rest (or_else o rest) rest
  found_first k name None rest ms same = same ∙ same_each (slice_cmp nat_cmp k name) rest
  found_first k name (Some d) rest ms same = ap (λ r. match_ordering (slice_cmp nat_cmp k name) r (Some d) r) same

  get_known : (k : List ℕ) (facts : List Fact) → get_member k (known_members f facts) ≡ found k facts
  get_known k [] = refl
  get_known k (fact ∷ facts) =
      found_first k (name_of fact) (fact_data fact f) (found k facts) (known_members f facts) (get_known k facts)

  -- no other fact has the name
  alone : (fact : Fact) → found (name_of fact) facts_by_name ≡ or_else (fact_data fact f) None
  alone Fact.SourceAddress = refl
  alone Fact.SourcePort = refl
  alone Fact.DestinationAddress = refl
  alone Fact.DestinationPort = refl
  alone Fact.ConnectionMtls = refl
  alone Fact.ConnectionId = refl
  alone Fact.ConnectionRequestedServerName = refl
  alone Fact.ConnectionTlsVersion = refl
  alone Fact.ConnectionSubjectPeerCertificate = refl
  alone Fact.ConnectionDnsSanPeerCertificate = refl
  alone Fact.ConnectionUriSanPeerCertificate = refl
  alone Fact.DirectRemoteIp = refl
  alone Fact.RemoteIp = refl
  alone Fact.DestinationIp = refl
  alone Fact.RequestScheme = refl

  got : (fact : Fact) → get (name_of fact) (facts_json f) ≡ fact_data fact f
  got fact = get_known (name_of fact) facts_by_name ∙ alone fact ∙ or_none (fact_data fact f)

-- ---- what is written means the fact

text_means : (o : Option (List ℕ)) → BothOrNone IsText (option_map string o) o
text_means None = tt
text_means (Some s) = refl

port_means : (o : Option ℕ) → IsPort o → BothOrNone IsPortNumber (option_map (λ n. number (unsigned n)) o) o
port_means None h = tt
port_means (Some n) h = (refl, h)

number_means : (o : Option ℕ) → BothOrNone IsNumber (option_map (λ n. number (unsigned n)) o) o
number_means None = tt
number_means (Some n) = refl

answer_means : (o : Option Bool) → BothOrNone IsAnswer (option_map boolean o) o
answer_means None = tt
answer_means (Some b) = refl

name_means : (o : Option (List ℕ)) → IfSome o (λ name. server_name name ≡ name)
    → BothOrNone IsServerName (option_map string o) o
name_means None h = tt
name_means (Some s) h = (s, refl, sym h)

ip_means : (o : Option Ip) → IfSome o IsInRange → IfSome o (λ ip. unmapped ip ≡ ip)
    → BothOrNone IsAddress (option_map (λ ip. string (ip_text ip)) o) o
ip_means None h one = tt
ip_means (Some ip) h one = (ip_text ip, refl, (ip, spells_ip ip h, sym one))

module _ (f : Facts) (sound : AreSound f) (one : AreInOneForm f) where
  means : (fact : Fact) → (fact_row fact).1 (fact_data fact f) f
  means Fact.SourceAddress = text_means f.source_address
  means Fact.SourcePort = port_means f.source_port sound.source_port
  means Fact.DestinationAddress = text_means f.destination_address
  means Fact.DestinationPort = port_means f.destination_port sound.destination_port
  means Fact.ConnectionMtls = answer_means f.mtls
  means Fact.ConnectionId = number_means f.connection_id
  means Fact.ConnectionRequestedServerName = name_means f.requested_server_name one.requested_server_name
  means Fact.ConnectionTlsVersion = text_means f.tls_version
  means Fact.ConnectionSubjectPeerCertificate = text_means f.subject_peer_certificate
  means Fact.ConnectionDnsSanPeerCertificate = text_means f.dns_san_peer_certificate
  means Fact.ConnectionUriSanPeerCertificate = text_means f.uri_san_peer_certificate
  means Fact.DirectRemoteIp = ip_means f.direct_remote_ip sound.direct_remote_ip one.direct_remote_ip
  means Fact.RemoteIp = ip_means f.remote_ip sound.remote_ip one.remote_ip
  means Fact.DestinationIp = ip_means f.destination_ip sound.destination_ip one.destination_ip
  means Fact.RequestScheme = (Some f.scheme, refl, refl)

  named_then : (fact : Fact) (o : Option Data) (ms : Members) → AreNamed ms → AreNamed (known_then (name_of fact) o ms)
  named_then fact None ms h = h
  named_then fact (Some d) ms h = ((fact, refl), h)

  named : (facts : List Fact) → AreNamed (known_members f facts)
  named [] = tt
  named (fact ∷ facts) = named_then fact (fact_data fact f) (known_members f facts) (named facts)

  -- the object of facts means them
  pub facts_read_back : AreFacts (facts_json f) f
  facts_read_back = record {
    names = (known_members f facts_by_name, refl, named facts_by_name);
    reports = λ fact. subst (λ o. (fact_row fact).1 o f) (sym (got f fact)) (means fact);
  }
