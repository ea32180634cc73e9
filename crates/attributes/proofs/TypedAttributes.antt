-- Attributes have their types.
use Rattle.std.proofs.Common.{◌≡◌, ℕ, ◌<◌, ◌^◌, ◌+◌, ◌==◌, Bool, true, false, List, Option, Some, None, IfSome, option_map, codes, length, get_or, refl, arith, inl, inr, lit<, pos}
use Rattle.std.specs.List.{after_first, before_first, position_or_len}
use Rattle.std.specs.Str.{IsUtf8}
use Rattle.std.proofs.lemmas.Str.{IsCharBoundary-after_ascii, IsCharBoundary-before_ascii, IsUtf8-drop, IsUtf8-nil, IsUtf8-take}
use Rattle.std.specs.Int.{w64}
use Rattle.std.proofs.lemmas.Int.{fits_signed_from_abs}
use Rattle.std.proofs.lemmas.Bool.{cases_lt, eqb-true}
use Rattle.std.proofs.lemmas.List.{drop_all, take_all}
use Rattle.std.proofs.lemmas.List.Sums.{passes_at_first}
use Rattle.attributes.specs.Attributes.{HasAttrType, attr_of, bool, header_data, port_data, query_of, text, attr_type, uint, url_path_of, without_fragment}
use Rattle.attributes.specs.Conn.{IsPort}
use Rattle.attributes.specs.Request.{IsRequest, IsTextEntry, RequestValue, header_of, protocol_of}
use Rattle.attributes.specs.declared.attribute.AttrId.{AttrId}
use Rattle.attributes.specs.declared.attribute.AttrType.{AttrType}
use Rattle.attributes.specs.declared.protocol.Protocol.{Protocol}
use Rattle.attributes.specs.declared.protocol.Protocol.TheVariants.{Http10, Http11, Http2, Http3}
use Rattle.attributes.proofs.HeaderMaps.{all_get}

module _ (c : ℕ) (ascii : c < 128) (bs : List ℕ) (texts : IsUtf8 bs) where
  -- the place of the first such character, if there is one
  abbrev n : ℕ
  n = position_or_len (λ b. b == c) bs

  here : n < length bs → get_or bs n 0 < 128
  here below =
      let same : get_or bs n 0 ≡ c = eqb-true _ _ (passes_at_first (λ b. b == c) bs 0 below) in
      rw same ascii

  -- a text is cut before an ASCII character
  is_utf8_before_first : IsUtf8 (before_first (λ b. b == c) bs)
  is_utf8_before_first = elim (cases_lt n (length bs)) [
    | inl below ↦ IsUtf8-take bs n texts (IsCharBoundary-before_ascii bs n below (here below))
    | inr end ↦ rw (take_all n bs end) texts
  ]

  -- and behind it
  is_utf8_after_first : IsUtf8 (after_first (λ b. b == c) bs)
  is_utf8_after_first = elim (cases_lt n (length bs)) [
    | inl below ↦ IsUtf8-drop bs (n + 1) texts
        (IsCharBoundary-after_ascii bs n texts below (here below))
    | inr end ↦ rw (drop_all (n + 1) bs (omega (arith, end))) IsUtf8-nil
  ]

module _ (target : List ℕ) (sound : IsUtf8 target) where
  whole_text : IsUtf8 (without_fragment target)
  whole_text = is_utf8_before_first 35 (lit< tt) target sound

  -- the path and the query of a target are texts
  pub path_text : IsUtf8 (url_path_of target)
  path_text = is_utf8_before_first 63 (lit< tt) _ whole_text

  pub query_text : IsUtf8 (query_of target)
  query_text = is_utf8_after_first 63 (lit< tt) _ whole_text

module _ (r : RequestValue) (sound : IsRequest r) where
  protocol_text : (p : Protocol) → IsUtf8 (protocol_of p)
  unfolding lib.Utf8.encode
  protocol_text Http10 = (codes "HTTP/1.0", (refl, refl))
  protocol_text Http11 = (codes "HTTP/1.1", (refl, refl))
  protocol_text Http2 = (codes "HTTP/2", (refl, refl))
  protocol_text Http3 = (codes "HTTP/3", (refl, refl))

  header_text : (name : List ℕ) → IfSome (header_data r name) (HasAttrType AttrType.Text)
  header_text name = elim (header_of r name) as (λ o. header_of r name ≡ o
      → IfSome (option_map text o) (HasAttrType AttrType.Text)) [
        | None ↦ λ e. tt
        | Some v ↦ λ e. (all_get IsTextEntry r.headers sound.headers name v e).1
      ] refl

  fact_text : (o : Option (List ℕ)) → IfSome o IsUtf8
      → IfSome (option_map text o) (HasAttrType AttrType.Text)
  fact_text None h = tt
  fact_text (Some v) h = h

  port_type : (o : Option ℕ) → IsPort o → IfSome (port_data o) (HasAttrType AttrType.Int)
  port_type None h = tt
  port_type (Some n) h =
      let fits : n < 2 ^ 63 = omega (arith, h) in fits_signed_from_abs w64 (pos n) fits

  number_type : (o : Option ℕ) → IfSome o (λ n. n < 2 ^ 64)
      → IfSome (option_map uint o) (HasAttrType AttrType.Uint)
  number_type None h = tt
  number_type (Some n) h = h

  flag_type : (o : Option Bool) → IfSome (option_map bool o) (HasAttrType AttrType.Bool)
  flag_type None = tt
  flag_type (Some b) = tt

  -- an attribute that is there has its type
  pub attr_typed : (id : AttrId) → IfSome (attr_of r id) (HasAttrType (attr_type id))
  attr_typed AttrId.RequestPath = sound.target
  attr_typed AttrId.RequestUrlPath = path_text r.target sound.target
  attr_typed AttrId.RequestHost = header_text (codes ":authority")
  attr_typed AttrId.RequestScheme = sound.facts.texts.1.1.1.1.1.1.1.0
  attr_typed AttrId.RequestMethod = sound.method
  attr_typed AttrId.RequestHeaders = sound.headers
  attr_typed AttrId.RequestReferer = header_text (codes "referer")
  attr_typed AttrId.RequestUseragent = header_text (codes "user-agent")
  attr_typed AttrId.RequestId = header_text (codes "x-request-id")
  attr_typed AttrId.RequestProtocol = protocol_text r.protocol
  attr_typed AttrId.RequestQuery = query_text r.target sound.target
  attr_typed AttrId.SourceAddress = fact_text r.facts.source_address sound.facts.texts.0
  attr_typed AttrId.SourcePort = port_type r.facts.source_port sound.facts.source_port
  attr_typed AttrId.DestinationAddress =
      fact_text r.facts.destination_address sound.facts.texts.1.0
  attr_typed AttrId.DestinationPort =
      port_type r.facts.destination_port sound.facts.destination_port
  attr_typed AttrId.ConnectionMtls = flag_type r.facts.mtls
  attr_typed AttrId.ConnectionId = number_type r.facts.connection_id sound.facts.connection_id
  attr_typed AttrId.ConnectionRequestedServerName =
      fact_text r.facts.requested_server_name sound.facts.texts.1.1.0
  attr_typed AttrId.ConnectionTlsVersion = fact_text r.facts.tls_version sound.facts.texts.1.1.1.0
  attr_typed AttrId.ConnectionSubjectPeerCertificate =
      fact_text r.facts.subject_peer_certificate sound.facts.texts.1.1.1.1.0
  attr_typed AttrId.ConnectionDnsSanPeerCertificate =
      fact_text r.facts.dns_san_peer_certificate sound.facts.texts.1.1.1.1.1.0
  attr_typed AttrId.ConnectionUriSanPeerCertificate =
      fact_text r.facts.uri_san_peer_certificate sound.facts.texts.1.1.1.1.1.1.0
