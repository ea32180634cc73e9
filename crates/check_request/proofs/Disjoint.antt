-- A CheckRequest that asks something has no fault.
use Rattle.std.proofs.Common.{◌≡◌, ◌≢◌, ◌⊎◌, ℕ, zero, suc, true, List, [], ◌∷◌, Option, Some, None, inl, inr, refl, subst, arith}
use Rattle.std.specs.Prelude.{IsUtf8, codes}
use Rattle.std.specs.List.{AllZip, slice_get}
use Rattle.std.specs.Str.{bytes_eq}
use Rattle.std.proofs.lemmas.Bool.{cases_Bool}
use Rattle.std.proofs.lemmas.Slice.Eq.{bytes_eq-Decides}
use Rattle.attributes.specs.Headers.{Entry as Line}
use Rattle.attributes.specs.Limits.{LimitsValue}
use Rattle.attributes.specs.Request.{RequestValue}
use Rattle.http_front.proofs.Spelling.{parts_or_fault}
use Rattle.proto_wire.specs.Fields.{Wire}
use Rattle.proto_wire.specs.Maps.{text}
use Rattle.proto_wire.specs.Merge.{Breaks, Merges}
use Rattle.proto_wire.specs.Oneof.{member_run}
use Rattle.proto_wire.specs.Reading.{IsOptional}
use Rattle.proto_wire.specs.Values.{StringFault, bytes_at, payloads}
use Rattle.proto_wire.specs.declared.refusal.Refusal.{Refusal}
use Rattle.proto_wire.proofs.MapLaws.{entries_disjoint, entries_unique}
use Rattle.proto_wire.proofs.Unique.{merges_disjoint, merges_unique}
use Rattle.check_request.specs.Check.{AreFilters, AreParts, CheckAsks, CheckValue, IsCheck, IsContext, IsKnown, is_scheme, value_at}
use Rattle.check_request.specs.Facts.{KnownValue}
use Rattle.check_request.specs.Faults.{CheckFails, ContextFault, EndFault, FiltersFault, HasFault, HttpFault, LinesFault, SocketFault, socket_parts}
use Rattle.check_request.specs.Lines.{AreSent, IsHeader}
use Rattle.check_request.specs.Numbers.{address_field, address_keys, check_field, context_field, http_field, map_field, number_of, peer_field, request_field, session_field}
use Rattle.check_request.specs.Sockets.{AreSocket, IsEnd, IsSocket, SocketValue}
use Rattle.check_request.specs.declared.part.CheckPart.{CheckPart}
use Rattle.check_request.specs.declared.part.End.{End}
use Rattle.check_request.specs.declared.part.PrincipalName.{PrincipalName}
use Rattle.check_request.proofs.Unique.{check_unique, same_fields}

-- a string with a fault is no text
not_text : (k : ℕ) (fs : List Wire) (t : List ℕ) (e : Refusal) → t ≡ bytes_at k fs → IsUtf8 t → StringFault k fs e → ⊥
not_text k fs t e is utf8 (other, bad) = other (subst IsUtf8 is utf8)

-- ---- the ends

socket_disjoint : (end : End) (fs : List Wire) (s : SocketValue) (part : CheckPart) (e : Refusal) → IsSocket fs s
    → SocketFault end fs part e → ⊥
socket_disjoint end fs s part e is (SocketFault.bad_host at (inl bad)) = bad.0 (subst IsUtf8 is.host is.utf8)
socket_disjoint end fs s part e is (SocketFault.bad_host at (inr (none, bad))) =
    none is.ip.0 (rw is.host at is.ip.1)
socket_disjoint end fs s part e is (SocketFault.bad_port at (inl (other, bad))) = other is.numbered
socket_disjoint end fs s part e is (SocketFault.bad_port at (inr (great, bad))) =
    let port = is.port in
    let fits = is.fits in
    absurd (omega arith)

-- payloads that are none have no fault
none_breaks : (parts : List (List ℕ)) → parts ≡ [] → Breaks parts → ⊥
none_breaks [] none breaks = breaks
none_breaks (p ∷ parts) none breaks = cc none

-- there is no socket address, or it means this end
end_parts : (run : List Wire) (o : Option SocketValue) → IsOptional AreSocket address_field.socket_address run o
    → (payloads address_field.socket_address run ≡ [])
    ⊎ ((payloads address_field.socket_address run ≢ []) × (s : SocketValue) × AreSocket (payloads address_field.socket_address run) s)
end_parts run None none = inl none
end_parts run (Some s) is = inr (is.0, s, is.1)

module _ (end : End) (peer : List Wire) (part : CheckPart) (e : Refusal) (o : Option SocketValue) (is : IsEnd peer o) where
  end_disjoint : EndFault end peer part e → ⊥
  end_disjoint (EndFault.bad_address at bad) =
      merges_disjoint (payloads peer_field.address peer) is.0 is.1 bad.0
  end_disjoint (EndFault.bad_socket other also at bad) =
      let same = merges_unique (payloads peer_field.address peer) other is.0 also is.1 in
      let breaks : Breaks (socket_parts is.0) = rw same at bad.0 in
      elim (end_parts (member_run address_keys is.0) o is.2) [
        | inl none ↦ none_breaks (socket_parts is.0) none breaks
        | inr (some, s, (fs, whole, means)) ↦ merges_disjoint (socket_parts is.0) fs whole breaks
      ]
  end_disjoint (EndFault.in_socket other gs also some' whole' bad) =
      let same = merges_unique (payloads peer_field.address peer) other is.0 also is.1 in
      let there : socket_parts is.0 ≢ [] = rw same at some' in
      let own : Merges (socket_parts is.0) gs = rw same at whole' in
      elim (end_parts (member_run address_keys is.0) o is.2) [
        | inl none ↦ there none
        | inr (some, s, (fs, whole, means)) ↦
            let fields = merges_unique (socket_parts is.0) gs fs own whole in
            socket_disjoint end fs s part e means (rw fields at bad)
      ]

-- ---- the field lines

-- a header at a place, of those that mean lines, is whole
header_whole : (parts : List (List ℕ)) (lines : List Line) (i : ℕ) (header : List ℕ) → AllZip IsHeader parts lines
    → slice_get parts i ≡ Some header → (fs : List Wire) × Merges (header ∷ []) fs
header_whole [] lines i header are is = absurd cc
header_whole (p ∷ parts) [] i header are is = absurd are
header_whole (p ∷ parts) (l ∷ lines) zero header ((fs, merged, line), are) is =
    let same : p ≡ header = cc in
    (fs, rw same at merged)
header_whole (p ∷ parts) (l ∷ lines) (suc i) header (first, are) is = header_whole parts lines i header are is

no_header : (i : ℕ) (header : List ℕ) (parts : List (List ℕ)) → parts ≡ [] → slice_get parts i ≡ Some header → ⊥
no_header i header [] none is = cc is
no_header i header (p ∷ parts) none is = cc none

sent_disjoint : (http : List Wire) (sent : List Line) (part : CheckPart) (e : Refusal) → AreSent http sent
    → LinesFault http part e → ⊥
sent_disjoint http sent part e (inl (some, (fs, merged, are))) (LinesFault.bad_header_map at bad) =
    merges_disjoint (payloads http_field.header_map http) fs merged bad.0
sent_disjoint http sent part e (inr (none, are)) (LinesFault.bad_header_map at bad) =
    none_breaks (payloads http_field.header_map http) none bad.0
sent_disjoint http sent part e (inl (some, (fs, merged, are))) (LinesFault.bad_header gs i header also is at bad) =
    let same = merges_unique (payloads http_field.header_map http) gs fs also merged in
    let whole = header_whole (payloads map_field.headers fs) sent i header are (rw same at is) in
    merges_disjoint (header ∷ []) whole.0 whole.1 bad.0
sent_disjoint http sent part e (inr (none, are)) (LinesFault.bad_header gs i header also is at bad) =
    let empty : gs ≡ [] = rw none at also in
    no_header i header (payloads map_field.headers gs) (rw empty refl) is
sent_disjoint http sent part e (inl (some, are)) (LinesFault.bad_headers none at bad) = some none
sent_disjoint http sent part e (inr (none, (es, are, is))) (LinesFault.bad_headers none' at bad) =
    entries_disjoint text (payloads http_field.headers http) es e are bad

-- ---- the request

-- a scheme is a text
scheme_text : (scheme : List ℕ) → is_scheme scheme ≡ true → IsUtf8 scheme
unfolding lib.Utf8.encode
scheme_text scheme is = elim (cases_Bool (bytes_eq scheme (codes "http"))) [
  | inl http ↦
      let same : scheme ≡ codes "http" = (bytes_eq-Decides scheme (codes "http")).0 http in
      let utf8 : IsUtf8 (codes "http") = (codes "http", (refl, refl)) in rw same utf8
  | inr other ↦
      let https : bytes_eq scheme (codes "https") ≡ true = rw other at is in
      let same : scheme ≡ codes "https" = (bytes_eq-Decides scheme (codes "https")).0 https in
      let utf8 : IsUtf8 (codes "https") = (codes "https", (refl, refl)) in rw same utf8
]

http_disjoint : (context http : List Wire) (c : CheckValue) (k : KnownValue) (part : CheckPart) (e : Refusal)
    → AreParts http c.parts → IsKnown context http k → HttpFault http part e → ⊥
http_disjoint context http c k part e parts known (HttpFault.bad_protocol at none is) =
    cc (parts.protocol, none)
http_disjoint context http c k part e parts known (HttpFault.bad_scheme_text at bad) =
    not_text http_field.scheme http k.scheme e known.scheme (scheme_text k.scheme known.of_http) bad
http_disjoint context http c k part e parts known (HttpFault.bad_scheme at other is) =
    let same = known.scheme in
    let clash = rw same at known.of_http in cc (clash, other)
http_disjoint context http c k part e parts known (HttpFault.bad_lines bad) =
    sent_disjoint http parts.fields.0 part e parts.fields.1 bad

-- ---- the filters

filters_disjoint : (parts : List (List ℕ)) (f : Option (List ℕ)) (part : CheckPart) (e : Refusal) → AreFilters parts f
    → FiltersFault parts part e → ⊥
filters_disjoint parts f part e (es, are, is) (FiltersFault.bad_extensions at bad) =
    entries_disjoint text parts es e are bad
filters_disjoint parts f part e (es, are, is) (FiltersFault.bad_filters ds value also found at bad) =
    let same = entries_unique text parts ds es also are in
    let here : value_at (codes "filters") es ≡ Some value = rw same at found in
    let texts = rw here at is in
    bad.0 texts.0

-- ---- the context

module _ (name : PrincipalName) (context : List Wire) (c : CheckValue) (a : IsContext name context c) where
  -- the peer at an end, and what its address means
  abbrev peer_of : End → List Wire
  peer_of End.Source = a.is_known.source
  peer_of End.Destination = a.is_known.destination

  peer_is : (end : End) → Merges (payloads (number_of end) context) (peer_of end)
  peer_is End.Source = a.is_known.source_is
  peer_is End.Destination = a.is_known.destination_is

  abbrev end_of : End → Option SocketValue
  end_of End.Source = a.known.source
  end_of End.Destination = a.known.destination

  end_is : (end : End) → IsEnd (peer_of end) (end_of end)
  end_is End.Source = a.is_known.source_end
  end_is End.Destination = a.is_known.destination_end

  context_disjoint : (part : CheckPart) (e : Refusal) → ContextFault context part e → ⊥
  context_disjoint part e (ContextFault.bad_request at bad) =
      merges_disjoint (payloads context_field.request context) a.request a.request_is bad.0
  context_disjoint part e (ContextFault.bad_http request inner at bad) =
      let P : List Wire → Type 0 = λ fs. Breaks (payloads request_field.http fs) in
      merges_disjoint (payloads request_field.http a.request) a.http a.http_is
      (same_fields P (payloads context_field.request context) a.request request a.request_is inner bad.0)
  context_disjoint part e (ContextFault.in_http request http inner within bad) =
      let P : List Wire → Type 0 = λ fs. Merges (payloads request_field.http fs) http in
      let whole = same_fields P (payloads context_field.request context) a.request request a.request_is inner within in
      let Q : List Wire → Type 0 = λ fs. HttpFault fs part e in
      http_disjoint context a.http c a.known part e a.parts a.is_known
      (same_fields Q (payloads request_field.http a.request) a.http http a.http_is whole bad)
  context_disjoint part e (ContextFault.bad_peer end at bad) =
      merges_disjoint (payloads (number_of end) context) (peer_of end) (peer_is end) bad.0
  context_disjoint part e (ContextFault.in_end end peer inner bad) =
      let P : List Wire → Type 0 = λ fs. EndFault end fs part e in
      end_disjoint end (peer_of end) part e (end_of end) (end_is end)
      (same_fields P (payloads (number_of end) context) (peer_of end) peer (peer_is end) inner bad)
  context_disjoint part e (ContextFault.bad_principal peer inner at bad) =
      let P : List Wire → Type 0 = λ fs. StringFault peer_field.principal fs e in
      not_text peer_field.principal a.is_known.source a.known.principal e a.is_known.principal a.is_known.principal_text
      (same_fields P (payloads (number_of End.Source) context) a.is_known.source peer a.is_known.source_is inner bad)
  context_disjoint part e (ContextFault.bad_session at bad) =
      merges_disjoint (payloads context_field.tls_session context) a.is_known.session a.is_known.session_is bad.0
  context_disjoint part e (ContextFault.bad_server_name session inner at bad) =
      let P : List Wire → Type 0 = λ fs. StringFault session_field.sni fs e in
      not_text session_field.sni a.is_known.session a.known.server_name e a.is_known.server_name a.is_known.server_text
      (same_fields P (payloads context_field.tls_session context) a.is_known.session session a.is_known.session_is inner
      bad)
  context_disjoint part e (ContextFault.in_extensions bad) =
      filters_disjoint (payloads context_field.context_extensions context) c.filters part e a.filters bad

pub check_disjoint : (name : PrincipalName) (bytes : List ℕ) (c : CheckValue) (part : CheckPart) (e : Refusal)
    → IsCheck name bytes c → HasFault bytes part e → ⊥
check_disjoint name bytes c part e (check, context, merged, inner, is) (HasFault.not_whole at bad) =
    merges_disjoint (bytes ∷ []) check merged bad.0
check_disjoint name bytes c part e (check, context, merged, inner, is) (HasFault.bad_attributes other also at bad) =
    let P : List Wire → Type 0 = λ fs. Breaks (payloads check_field.attributes fs) in
    merges_disjoint (payloads check_field.attributes check) context inner
    (same_fields P (bytes ∷ []) check other merged also bad.0)
check_disjoint name bytes c part e (check, context, merged, inner, is) (HasFault.in_context other within also inner' bad) =
    let P : List Wire → Type 0 = λ fs. Merges (payloads check_field.attributes fs) within in
    let whole = same_fields P (bytes ∷ []) check other merged also inner' in
    let Q : List Wire → Type 0 = λ fs. ContextFault fs part e in
    context_disjoint name context c is part e
    (same_fields Q (payloads check_field.attributes check) context within inner whole bad)

-- neither has its request one
pub check_asks_disjoint : (name : PrincipalName) (limits : LimitsValue) (bytes : List ℕ) (r : RequestValue)
    → CheckAsks name limits bytes r → CheckFails name limits bytes → ⊥
check_asks_disjoint name limits bytes r (c, is, asks) (CheckFails.unread part e bad) =
    check_disjoint name bytes c part e is bad
check_asks_disjoint name limits bytes r (c, is, asks) (CheckFails.refused d fault is' bad) =
    let same = check_unique name bytes d c is' is in
    parts_or_fault c.parts limits c.facts r fault asks (rw same at bad)
