-- A CheckRequest asks one thing at most.
use Rattle.std.proofs.Common.{◌≡◌, ◌++◌, ℕ, List, [], ◌∷◌, Option, Some, None, MatchOption, inl, inr, sym, ap, subst, ◌∙◌, filter, map}
use Rattle.std.specs.Prelude.{not, codes}
use Rattle.std.specs.FinMap.{entries}
use Rattle.attributes.specs.Headers.{Entry as Line}
use Rattle.attributes.specs.Limits.{LimitsValue}
use Rattle.attributes.specs.Request.{RequestValue}
use Rattle.attributes.proofs.OneAddress.{one_address}
use Rattle.attributes.specs.Address.{IsIpText, unmapped}
use Rattle.http_front.specs.Parts.{PartsValue}
use Rattle.http_front.proofs.Spelling.{one_by_parts}
use Rattle.proto_wire.specs.Fields.{Wire}
use Rattle.proto_wire.specs.Maps.{Entry, map_of, text}
use Rattle.proto_wire.specs.Merge.{Merges}
use Rattle.proto_wire.specs.Oneof.{member_run}
use Rattle.proto_wire.specs.Values.{bytes_at, payloads}
use Rattle.proto_wire.proofs.MapLaws.{entries_unique}
use Rattle.proto_wire.proofs.OptionalLaws.{optional_unique}
use Rattle.proto_wire.proofs.Unique.{merges_unique}
use Rattle.xds_wire.proofs.EnvelopeLemmas.{envelope_unique, repeated_unique}
use Rattle.check_request.specs.Check.{AreFilters, AreParts, CheckAsks, CheckValue, IsCheck, IsContext, IsKnown, value_at}
use Rattle.check_request.specs.Facts.{KnownValue, facts_of}
use Rattle.check_request.specs.Lines.{AreHeaders, AreLines, AreMapped, AreSent, entry_line, host_lines, is_pseudo, last_payload, line_of}
use Rattle.check_request.specs.Numbers.{address_field, address_keys, check_field, context_field, http_field, map_field, number_of, peer_field, request_field}
use Rattle.check_request.specs.Sockets.{AreSocket, IsEnd, IsSocket, SocketValue}
use Rattle.check_request.specs.declared.part.End.{End}
use Rattle.check_request.specs.declared.part.PrincipalName.{PrincipalName}

-- what holds of the fields that payloads merge to holds of any others that they merge to
pub same_fields : (P : List Wire → Type 0) (parts : List (List ℕ)) (fs gs : List Wire) → Merges parts fs
    → Merges parts gs → P gs → P fs
same_fields P parts fs gs merged also is = subst P (merges_unique parts gs fs also merged) is

-- ---- the ends

socket_unique : (fs : List Wire) (s t : SocketValue) → IsSocket fs s → IsSocket fs t → s ≡ t
socket_unique fs s t a b =
    let host : s.host ≡ t.host = a.host ∙ sym b.host in
    let spelled : IsIpText s.host b.ip.0 = subst (λ h. IsIpText h b.ip.0) (sym host) b.ip.1 in
    let ip : s.ip ≡ t.ip =
    a.ip.2 ∙ ap unmapped (one_address s.host a.ip.0 b.ip.0 a.ip.1 spelled) ∙ sym b.ip.2 in
    let port : s.port ≡ t.port = a.port ∙ sym b.port in
    λ i. record { host = host i; ip = ip i; port = port i }

end_unique : (peer : List Wire) (s t : Option SocketValue) → IsEnd peer s → IsEnd peer t → s ≡ t
end_unique peer s t (fs, merged, is) (gs, also, is') =
    let same = merges_unique (payloads peer_field.address peer) gs fs also merged in
    let run = λ (hs : List Wire). member_run address_keys hs in
    optional_unique AreSocket (envelope_unique IsSocket socket_unique) address_field.socket_address (run fs) s t is
    (rw same at is')

-- ---- the field lines

headers_unique : (parts : List (List ℕ)) (ls ms : List Line) → AreHeaders parts ls → AreHeaders parts ms
    → ls ≡ ms
headers_unique parts ls ms (fs, merged, is) (gs, also, is') =
    let same = merges_unique parts gs fs also merged in
    let Says : List Wire → Line → Type 0 = λ hs l. l ≡ line_of hs in
    let one = envelope_unique Says (λ hs l m a b. a ∙ sym b) in
    repeated_unique _ one map_field.headers fs ls ms is (rw same at is')

mapped_unique : (parts : List (List ℕ)) (ls ms : List Line) → AreMapped parts ls → AreMapped parts ms → ls ≡ ms
mapped_unique parts ls ms (es, are, is) (ds, also, is') =
    let made = λ (xs : List (Entry text)). map entry_line (entries (map_of text xs)) in
    is ∙ ap made (entries_unique text parts es ds are also) ∙ sym is'

sent_unique : (http : List Wire) (ls ms : List Line) → AreSent http ls → AreSent http ms → ls ≡ ms
sent_unique http ls ms (inl (some, a)) (inl (some', b)) =
    headers_unique (payloads http_field.header_map http) ls ms a b
sent_unique http ls ms (inl (some, a)) (inr (none, b)) = absurd (some none)
sent_unique http ls ms (inr (none, a)) (inl (some, b)) = absurd (some none)
sent_unique http ls ms (inr (none, a)) (inr (none', b)) =
    mapped_unique (payloads http_field.headers http) ls ms a b

lines_unique : (http : List Wire) (ls ms : List Line) → AreLines http ls → AreLines http ms → ls ≡ ms
lines_unique http ls ms (sent, are, is) (sent', are', is') =
    let made = λ (xs : List Line).
    filter (λ l. not (is_pseudo l.0)) xs ++ host_lines (bytes_at http_field.host http) in
    is ∙ ap made (sent_unique http sent sent' are are') ∙ sym is'

-- ---- the request

parts_unique : (http : List Wire) (p q : PartsValue) → AreParts http p → AreParts http q → p ≡ q
parts_unique http p q a b =
    let method : p.method ≡ q.method = a.method ∙ sym b.method in
    let target : p.target ≡ q.target = a.target ∙ sym b.target in
    let named : Some p.protocol ≡ Some q.protocol = sym a.protocol ∙ b.protocol in
    let protocol : p.protocol ≡ q.protocol = cc in
    let fields : p.fields ≡ q.fields = lines_unique http p.fields q.fields a.fields b.fields in
    λ i. record { method = method i; target = target i; protocol = protocol i; fields = fields i }

known_unique : (context http : List Wire) (k l : KnownValue) → IsKnown context http k → IsKnown context http l
    → k ≡ l
known_unique context http k l a b =
    let sources = merges_unique (payloads (number_of End.Source) context) b.source a.source b.source_is a.source_is in
    let destinations =
    merges_unique (payloads (number_of End.Destination) context) b.destination a.destination b.destination_is
    a.destination_is in
    let sessions = merges_unique (payloads context_field.tls_session context) b.session a.session b.session_is a.session_is in
    let scheme : k.scheme ≡ l.scheme = a.scheme ∙ sym b.scheme in
    let source : k.source ≡ l.source =
    end_unique a.source k.source l.source a.source_end (rw sources at b.source_end) in
    let destination : k.destination ≡ l.destination =
    end_unique a.destination k.destination l.destination a.destination_end (rw destinations at b.destination_end) in
    let principal : k.principal ≡ l.principal = a.principal ∙ sym (rw sources at b.principal) in
    let server_name : k.server_name ≡ l.server_name = a.server_name ∙ sym (rw sessions at b.server_name) in
    λ i. record {
      scheme = scheme i;
      source = source i;
      destination = destination i;
      principal = principal i;
      server_name = server_name i;
    }

one_value : (found : Option (List (List ℕ))) (f g : Option (List ℕ)) (P : List (List ℕ) → Type 0)
    → MatchOption found (f ≡ None) (λ value. P value × (f ≡ Some (last_payload value)))
    → MatchOption found (g ≡ None) (λ value. P value × (g ≡ Some (last_payload value))) → f ≡ g
one_value None f g P a b = a ∙ sym b
one_value (Some value) f g P a b = a.1 ∙ sym b.1

filters_unique : (parts : List (List ℕ)) (f g : Option (List ℕ)) → AreFilters parts f → AreFilters parts g → f ≡ g
filters_unique parts f g (es, are, is) (ds, also, is') =
    let same = entries_unique text parts ds es also are in
    one_value (value_at (codes "filters") es) f g _ is (rw same at is')

module _ (name : PrincipalName) where
  context_unique : (context : List Wire) (c d : CheckValue) → IsContext name context c → IsContext name context d
      → c ≡ d
  context_unique context c d a b =
      let requests = merges_unique (payloads context_field.request context) b.request a.request b.request_is a.request_is in
      let https = merges_unique (payloads request_field.http a.request) b.http a.http (rw requests at b.http_is) a.http_is in
      let parts : c.parts ≡ d.parts = parts_unique a.http c.parts d.parts a.parts (rw https at b.parts) in
      let known : a.known ≡ b.known = known_unique context a.http a.known b.known a.is_known (rw https at b.is_known) in
      let facts : c.facts ≡ d.facts = a.facts ∙ ap (facts_of name) known ∙ sym b.facts in
      let filters : c.filters ≡ d.filters =
      filters_unique (payloads context_field.context_extensions context) c.filters d.filters a.filters b.filters in
      λ i. record { parts = parts i; facts = facts i; filters = filters i }

  pub check_unique : (bytes : List ℕ) (c d : CheckValue) → IsCheck name bytes c → IsCheck name bytes d → c ≡ d
  check_unique bytes c d (check, context, merged, inner, is) (check', context', merged', inner', is') =
      let checks = merges_unique (bytes ∷ []) check' check merged' merged in
      let contexts =
      merges_unique (payloads check_field.attributes check) context' context (rw checks at inner') inner in
      context_unique context c d is (rw contexts at is')

  pub check_asks_unique : (limits : LimitsValue) (bytes : List ℕ) (r q : RequestValue)
      → CheckAsks name limits bytes r → CheckAsks name limits bytes q → r ≡ q
  check_asks_unique limits bytes r q (c, is, asks) (d, is', asks') =
      let same : d ≡ c = check_unique bytes d c is' is in
      one_by_parts c.parts limits c.facts r q asks (rw same at asks')
