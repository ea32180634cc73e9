-- A CheckRequest asks something, or it has a fault.
use Rattle.std.proofs.Common.{◌≡◌, ◌≢◌, ℕ, suc, ◌^◌, true, List, [], ◌∷◌, ◌++◌, Option, Some, None, MatchOption, ◌⊎◌, inl, inr, refl, ap, filter, map}
use Rattle.std.specs.Prelude.{IsUtf8, codes, not}
use Rattle.std.specs.FinMap.{entries}
use Rattle.std.specs.List.{AllZip, slice_get}
use Rattle.std.proofs.lemmas.Bool.{cases_Bool, cases_eq, cases_lt}
use Rattle.attributes.specs.Headers.{Entry as Line}
use Rattle.attributes.specs.Address.{unmapped}
use Rattle.attributes.specs.declared.protocol.Protocol.{Protocol}
use Rattle.http_front.specs.Parts.{PartsValue}
use Rattle.proto_wire.specs.Fields.{Wire}
use Rattle.proto_wire.specs.Maps.{map_of, text}
use Rattle.proto_wire.specs.Merge.{Breaks, Merges}
use Rattle.proto_wire.specs.Oneof.{last_number}
use Rattle.proto_wire.specs.Values.{bytes_at, payloads, uint32_at}
use Rattle.proto_wire.specs.declared.refusal.Refusal.{Refusal}
use Rattle.proto_wire.specs.declared.refusal.Refusal.TheVariants.{BadText, BadWire, Missing, OutOfRange}
use Rattle.proto_wire.proofs.Basics.{nil_or_not, utf8_total}
use Rattle.proto_wire.proofs.MapLaws.{entries_total}
use Rattle.proto_wire.proofs.Unique.{merges_total}
use Rattle.check_request.specs.Check.{AreFilters, AreParts, CheckValue, IsCheck, IsContext, IsKnown, is_scheme, protocol_named, value_at}
use Rattle.check_request.specs.Facts.{KnownValue, facts_of}
use Rattle.check_request.specs.Faults.{ContextFault, EndFault, FiltersFault, HasFault, HttpFault, LinesFault, SocketFault, socket_parts}
use Rattle.check_request.specs.Lines.{AreSent, IsHeader, entry_line, host_lines, is_pseudo, last_payload, line_of}
use Rattle.check_request.specs.Numbers.{check_field, context_field, http_field, map_field, number_of, peer_field, port_keys, request_field, session_field, socket_field}
use Rattle.check_request.specs.Sockets.{IsEnd, IsSocket, SocketValue}
use Rattle.check_request.specs.declared.part.CheckPart.{CheckPart}
use Rattle.check_request.specs.declared.part.CheckPart.TheVariants as parts
use Rattle.check_request.specs.declared.part.End.{End}
use Rattle.check_request.specs.declared.part.PrincipalName.{PrincipalName}
use Rattle.check_request.proofs.Addresses.{address_total}

-- it is so, or some part has a fault
abbrev Or : Type 0 → (CheckPart → Refusal → Type 0) → Type 0
Or Is F = Is ⊎ ((part : CheckPart) × (e : Refusal) × F part e)

-- ---- the ends

numbered : (found : Option ℕ) (n : ℕ) → (found ≡ Some n) ⊎ (found ≢ Some n)
numbered None n = inr (λ is. absurd cc)
numbered (Some m) n = elim (cases_eq m n) [
  | inl same ↦ inl (ap Some same)
  | inr other ↦ inr (λ is. let same : m ≡ n = cc in other same)
]

socket_total : (end : End) (fs : List Wire) → Or ((s : SocketValue) × IsSocket fs s) (SocketFault end fs)
socket_total end fs = elim (utf8_total (bytes_at socket_field.address fs)) [
  | inr bad ↦ inr (parts.Host end, BadText, SocketFault.bad_host refl (inl (bad, refl)))
  | inl utf8 ↦ elim (address_total (bytes_at socket_field.address fs)) [
    | inr none ↦ inr (parts.Host end, OutOfRange, SocketFault.bad_host refl (inr (none, refl)))
    | inl (ip, spells) ↦ elim (numbered (last_number port_keys fs) socket_field.port_value) [
      | inr other ↦ inr (parts.Port end, Missing, SocketFault.bad_port refl (inl (other, refl)))
      | inl by_number ↦ elim (cases_lt (uint32_at socket_field.port_value fs) (2 ^ 16)) [
        | inr great ↦ inr (parts.Port end, OutOfRange, SocketFault.bad_port refl (inr (great, refl)))
        | inl fits ↦ inl (
          record {
            host = bytes_at socket_field.address fs;
            ip = unmapped ip;
            port = uint32_at socket_field.port_value fs;
          },
          record {
            host = refl;
            utf8 = utf8;
            ip = (ip, spells, refl);
            numbered = by_number;
            port = refl;
            fits = fits;
          },
        )
      ]
    ]
  ]
]

end_total : (end : End) (peer : List Wire) → Or ((o : Option SocketValue) × IsEnd peer o) (EndFault end peer)
end_total end peer = elim (merges_total (payloads peer_field.address peer)) [
  | inr bad ↦ inr (parts.Address end, BadWire, EndFault.bad_address refl (bad, refl))
  | inl (address, merged) ↦ elim (nil_or_not (socket_parts address)) [
    | inl none ↦ inl (None, (address, merged, none))
    | inr some ↦ elim (merges_total (socket_parts address)) [
      | inr bad ↦ inr (parts.Address end, BadWire, EndFault.bad_socket address merged refl (bad, refl))
      | inl (fs, whole) ↦ elim (socket_total end fs) [
        | inr (part, e, bad) ↦ inr (part, e, EndFault.in_socket address fs merged some whole bad)
        | inl (s, is) ↦ inl (Some s, (address, merged, (some, (fs, whole, is))))
      ]
    ]
  ]
]

-- ---- the field lines

headers_total : (headers : List (List ℕ)) → ((lines : List Line) × AllZip IsHeader headers lines)
    ⊎ ((i : ℕ) × (header : List ℕ) × (slice_get headers i ≡ Some header) × Breaks (header ∷ []))
headers_total [] = inl ([], tt)
headers_total (header ∷ headers) = elim (merges_total (header ∷ [])) [
  | inr bad ↦ inr (0, header, refl, bad)
  | inl (fs, merged) ↦ elim (headers_total headers) [
    | inr (i, other, here, bad) ↦ inr (suc i, other, here, bad)
    | inl (lines, are) ↦ inl (line_of fs ∷ lines, ((fs, merged, refl), are))
  ]
]

sent_total : (http : List Wire) → Or ((sent : List Line) × AreSent http sent) (LinesFault http)
sent_total http = elim (nil_or_not (payloads http_field.header_map http)) [
  | inl none ↦ elim (entries_total text (payloads http_field.headers http)) [
    | inr (e, bad) ↦ inr (parts.Headers, e, LinesFault.bad_headers none refl bad)
    | inl (es, are) ↦ inl (map entry_line (entries (map_of text es)), inr (none, (es, are, refl)))
  ]
  | inr some ↦ elim (merges_total (payloads http_field.header_map http)) [
    | inr bad ↦ inr (parts.HeaderMap, BadWire, LinesFault.bad_header_map refl (bad, refl))
    | inl (fs, merged) ↦ elim (headers_total (payloads map_field.headers fs)) [
      | inr (i, header, here, bad) ↦
          inr (parts.Header i, BadWire, LinesFault.bad_header fs i header merged here refl (bad, refl))
      | inl (lines, are) ↦ inl (lines, inl (some, (fs, merged, are)))
    ]
  ]
]

-- ---- the filters

named_total : (found : Option (List (List ℕ)))
    → ((f : Option (List ℕ)) × MatchOption found (f ≡ None) (λ value. IsUtf8 (last_payload value) × (f ≡ Some (last_payload value))))
    ⊎ ((value : List (List ℕ)) × (found ≡ Some value) × ¬ (IsUtf8 (last_payload value)))
named_total None = inl (None, refl)
named_total (Some value) = elim (utf8_total (last_payload value)) [
  | inl utf8 ↦ inl (Some (last_payload value), (utf8, refl))
  | inr bad ↦ inr (value, refl, bad)
]

filters_total : (payloads : List (List ℕ)) → Or ((f : Option (List ℕ)) × AreFilters payloads f) (FiltersFault payloads)
filters_total payloads = elim (entries_total text payloads) [
  | inr (e, bad) ↦ inr (parts.Extensions, e, FiltersFault.bad_extensions refl bad)
  | inl (es, are) ↦ elim (named_total (value_at (codes "filters") es)) [
    | inl (f, is) ↦ inl (f, (es, are, is))
    | inr (value, found, bad) ↦ inr (parts.Filters, BadText, FiltersFault.bad_filters es value are found refl (bad, refl))
  ]
]

-- ---- the context

protocol_total : (found : Option Protocol) → ((p : Protocol) × (found ≡ Some p)) ⊎ (found ≡ None)
protocol_total None = inr refl
protocol_total (Some p) = inl (p, refl)

-- a peer and what its address means
peer_total : (context : List Wire) (end : End)
    → Or ((peer : List Wire) × (o : Option SocketValue) × Merges (payloads (number_of end) context) peer × IsEnd peer o)
    (ContextFault context)
peer_total context end = elim (merges_total (payloads (number_of end) context)) [
  | inr bad ↦ inr (parts.Peer end, BadWire, ContextFault.bad_peer end refl (bad, refl))
  | inl (peer, merged) ↦ elim (end_total end peer) [
    | inr (part, e, bad) ↦ inr (part, e, ContextFault.in_end end peer merged bad)
    | inl (o, is) ↦ inl (peer, o, merged, is)
  ]
]

-- an HttpRequest
module _ (context request : List Wire) (inner : Merges (payloads context_field.request context) request) where
  http_total : Or ((http : List Wire) × (p : PartsValue) × Merges (payloads request_field.http request) http
      × AreParts http p × (is_scheme (bytes_at http_field.scheme http) ≡ true))
      (ContextFault context)
  http_total = elim (merges_total (payloads request_field.http request)) [
    | inr bad ↦ inr (parts.Http, BadWire, ContextFault.bad_http request inner refl (bad, refl))
    | inl (http, merged) ↦ elim (protocol_total (protocol_named (bytes_at http_field.protocol http))) [
      | inr none ↦
          inr (parts.Protocol, OutOfRange, ContextFault.in_http request http inner merged (HttpFault.bad_protocol refl none refl))
      | inl (protocol, named) ↦ elim (cases_Bool (is_scheme (bytes_at http_field.scheme http))) [
        | inr other ↦
            inr (parts.Scheme, OutOfRange, ContextFault.in_http request http inner merged (HttpFault.bad_scheme refl other refl))
        | inl scheme ↦ elim (sent_total http) [
          | inr (part, e, bad) ↦ inr (part, e, ContextFault.in_http request http inner merged (HttpFault.bad_lines bad))
          | inl (sent, are) ↦ inl (
            http,
            record {
              method = bytes_at http_field.method http;
              target = bytes_at http_field.path http;
              protocol = protocol;
              fields = filter (λ l. not (is_pseudo l.0)) sent ++ host_lines (bytes_at http_field.host http);
            },
            merged,
            record { method = refl; target = refl; protocol = named; fields = (sent, are, refl) },
            scheme,
          )
        ]
      ]
    ]
  ]

known_total : (context http : List Wire) → is_scheme (bytes_at http_field.scheme http) ≡ true
    → Or ((k : KnownValue) × IsKnown context http k) (ContextFault context)
known_total context http scheme = elim (peer_total context End.Source) [
  | inr bad ↦ inr bad
  | inl (source, from, source_is, from_is) ↦ elim (peer_total context End.Destination) [
    | inr bad ↦ inr bad
    | inl (destination, to, destination_is, to_is) ↦ elim (utf8_total (bytes_at peer_field.principal source)) [
      | inr bad ↦ inr (parts.Principal, BadText, ContextFault.bad_principal source source_is refl (bad, refl))
      | inl principal ↦ elim (merges_total (payloads context_field.tls_session context)) [
        | inr bad ↦ inr (parts.Session, BadWire, ContextFault.bad_session refl (bad, refl))
        | inl (session, session_is) ↦ elim (utf8_total (bytes_at session_field.sni session)) [
          | inr bad ↦ inr (parts.ServerName, BadText, ContextFault.bad_server_name session session_is refl (bad, refl))
          | inl name ↦ inl (
            record {
              scheme = bytes_at http_field.scheme http;
              source = from;
              destination = to;
              principal = bytes_at peer_field.principal source;
              server_name = bytes_at session_field.sni session;
            },
            record {
              source = source;
              destination = destination;
              session = session;
              source_is = source_is;
              destination_is = destination_is;
              session_is = session_is;
              scheme = refl;
              of_http = scheme;
              source_end = from_is;
              destination_end = to_is;
              principal = refl;
              principal_text = principal;
              server_name = refl;
              server_text = name;
            },
          )
        ]
      ]
    ]
  ]
]

module _ (name : PrincipalName) where
  context_total : (context : List Wire) → Or ((c : CheckValue) × IsContext name context c) (ContextFault context)
  context_total context = elim (merges_total (payloads context_field.request context)) [
    | inr bad ↦ inr (parts.Request, BadWire, ContextFault.bad_request refl (bad, refl))
    | inl (request, inner) ↦ elim (http_total context request inner) [
      | inr bad ↦ inr bad
      | inl (http, p, merged, are, scheme) ↦ elim (known_total context http scheme) [
        | inr bad ↦ inr bad
        | inl (k, known) ↦ elim (filters_total (payloads context_field.context_extensions context)) [
          | inr (part, e, bad) ↦ inr (part, e, ContextFault.in_extensions bad)
          | inl (f, filters) ↦ inl (
            record { parts = p; facts = facts_of name k; filters = f },
            record {
              request = request;
              http = http;
              known = k;
              request_is = inner;
              http_is = merged;
              parts = are;
              is_known = known;
              facts = refl;
              filters = filters;
            },
          )
        ]
      ]
    ]
  ]

  pub check_total : (bytes : List ℕ) → ((c : CheckValue) × IsCheck name bytes c)
      ⊎ ((part : CheckPart) × (e : Refusal) × HasFault bytes part e)
  check_total bytes = elim (merges_total (bytes ∷ [])) [
    | inr bad ↦ inr (parts.Whole, BadWire, HasFault.not_whole refl (bad, refl))
    | inl (check, merged) ↦ elim (merges_total (payloads check_field.attributes check)) [
      | inr bad ↦ inr (parts.Attributes, BadWire, HasFault.bad_attributes check merged refl (bad, refl))
      | inl (context, inner) ↦ elim (context_total context) [
        | inr (part, e, bad) ↦ inr (part, e, HasFault.in_context check context merged inner bad)
        | inl (c, is) ↦ inl (c, (check, context, merged, inner, is))
      ]
    ]
  ]
