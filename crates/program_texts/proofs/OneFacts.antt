-- An object means one list of facts at most.
use Rattle.std.proofs.Common.{◌≡◌, ℕ, Bool, List, [], ◌∷◌, Option, Some, None, refl, sym, ap, ◌∙◌, codes}
use Rattle.std.specs.Prelude.{unwrap_or}
use Rattle.attributes.specs.Address.{unmapped}
use Rattle.attributes.specs.Conn.{Facts, server_name}
use Rattle.attributes.specs.declared.address.Ip.{Ip}
use Rattle.attributes.proofs.OneAddress.{one_address}
use Rattle.serde_json.specs.Data.{Data, boolean, number, string, unsigned}
use Rattle.serde_json.specs.Find.{get}
use Rattle.program_texts.specs.Facts.{AreFacts, BothOrNone, IsAddress, IsAnswer, IsNumber, IsPortNumber, IsScheme, IsServerName, IsText, fact_row, name_of}
use Rattle.program_texts.specs.declared.fact.Fact.{Fact}

one_or_none : {A : Type 0} (Means : Data → A → Type 0) → ((d : Data) (x y : A) → Means d x → Means d y → x ≡ y)
    → (d : Option Data) (x y : Option A) → BothOrNone Means d x → BothOrNone Means d y → x ≡ y
one_or_none Means one None None None h k = refl
one_or_none Means one None None (Some y) h k = absurd k
one_or_none Means one None (Some x) y h k = absurd h
one_or_none Means one (Some d) None y h k = absurd h
one_or_none Means one (Some d) (Some x) None h k = absurd k
one_or_none Means one (Some d) (Some x) (Some y) h k = ap Some (one d x y h k)

one_string : (s t : List ℕ) → string s ≡ string t → s ≡ t
one_string s t e = cc

one_text : (d : Data) (s t : List ℕ) → IsText d s → IsText d t → s ≡ t
one_text d s t h k = one_string s t (sym h ∙ k)

one_number : (d : Data) (m n : ℕ) → IsNumber d m → IsNumber d n → m ≡ n
one_number d m n h k = let e : number (unsigned m) ≡ number (unsigned n) = sym h ∙ k in cc

one_port : (d : Data) (m n : ℕ) → IsPortNumber d m → IsPortNumber d n → m ≡ n
one_port d m n h k = one_number d m n h.0 k.0

one_answer : (d : Data) (a b : Bool) → IsAnswer d a → IsAnswer d b → a ≡ b
one_answer d a b h k = let e : boolean a ≡ boolean b = sym h ∙ k in cc

one_name : (d : Data) (s t : List ℕ) → IsServerName d s → IsServerName d t → s ≡ t
one_name d s t (x, h, s_is) (y, k, t_is) = s_is ∙ ap server_name (one_text d x y h k) ∙ sym t_is

one_ip : (d : Data) (a b : Ip) → IsAddress d a → IsAddress d b → a ≡ b
one_ip d a b (s, h, (m, m_spelled, a_is)) (t, k, (n, n_spelled, b_is)) =
    let same : s ≡ t = one_text d s t h k in
    a_is ∙ ap unmapped (one_address t m n (rw same at m_spelled) n_spelled) ∙ sym b_is

one_scheme : (d : Option Data) (s t : List ℕ) → IsScheme d s → IsScheme d t → s ≡ t
one_scheme d s t (x, h, s_is) (y, k, t_is) =
    s_is ∙ ap (λ o. unwrap_or o (codes "http")) (one_or_none IsText one_text d x y h k) ∙ sym t_is

module _ (d : Data) (f g : Facts) (a : AreFacts d f) (b : AreFacts d g) where
  pub one_facts : f ≡ g
  one_facts =
      let source_address_is = one_or_none IsText one_text (get (name_of Fact.SourceAddress) d) f.source_address g.source_address
      (a.reports Fact.SourceAddress) (b.reports Fact.SourceAddress) in
      let source_port_is = one_or_none IsPortNumber one_port (get (name_of Fact.SourcePort) d) f.source_port g.source_port
      (a.reports Fact.SourcePort) (b.reports Fact.SourcePort) in
      let destination_address_is = one_or_none IsText one_text (get (name_of Fact.DestinationAddress) d) f.destination_address g.destination_address
      (a.reports Fact.DestinationAddress) (b.reports Fact.DestinationAddress) in
      let destination_port_is = one_or_none IsPortNumber one_port (get (name_of Fact.DestinationPort) d) f.destination_port g.destination_port
      (a.reports Fact.DestinationPort) (b.reports Fact.DestinationPort) in
      let mtls_is = one_or_none IsAnswer one_answer (get (name_of Fact.ConnectionMtls) d) f.mtls g.mtls
      (a.reports Fact.ConnectionMtls) (b.reports Fact.ConnectionMtls) in
      let connection_id_is = one_or_none IsNumber one_number (get (name_of Fact.ConnectionId) d) f.connection_id g.connection_id
      (a.reports Fact.ConnectionId) (b.reports Fact.ConnectionId) in
      let server_name_is = one_or_none IsServerName one_name (get (name_of Fact.ConnectionRequestedServerName) d) f.requested_server_name g.requested_server_name
      (a.reports Fact.ConnectionRequestedServerName) (b.reports Fact.ConnectionRequestedServerName) in
      let tls_version_is = one_or_none IsText one_text (get (name_of Fact.ConnectionTlsVersion) d) f.tls_version g.tls_version
      (a.reports Fact.ConnectionTlsVersion) (b.reports Fact.ConnectionTlsVersion) in
      let subject_is = one_or_none IsText one_text (get (name_of Fact.ConnectionSubjectPeerCertificate) d) f.subject_peer_certificate g.subject_peer_certificate
      (a.reports Fact.ConnectionSubjectPeerCertificate) (b.reports Fact.ConnectionSubjectPeerCertificate) in
      let dns_is = one_or_none IsText one_text (get (name_of Fact.ConnectionDnsSanPeerCertificate) d) f.dns_san_peer_certificate g.dns_san_peer_certificate
      (a.reports Fact.ConnectionDnsSanPeerCertificate) (b.reports Fact.ConnectionDnsSanPeerCertificate) in
      let uri_is = one_or_none IsText one_text (get (name_of Fact.ConnectionUriSanPeerCertificate) d) f.uri_san_peer_certificate g.uri_san_peer_certificate
      (a.reports Fact.ConnectionUriSanPeerCertificate) (b.reports Fact.ConnectionUriSanPeerCertificate) in
      let direct_is = one_or_none IsAddress one_ip (get (name_of Fact.DirectRemoteIp) d) f.direct_remote_ip g.direct_remote_ip
      (a.reports Fact.DirectRemoteIp) (b.reports Fact.DirectRemoteIp) in
      let remote_is = one_or_none IsAddress one_ip (get (name_of Fact.RemoteIp) d) f.remote_ip g.remote_ip
      (a.reports Fact.RemoteIp) (b.reports Fact.RemoteIp) in
      let destination_is = one_or_none IsAddress one_ip (get (name_of Fact.DestinationIp) d) f.destination_ip g.destination_ip
      (a.reports Fact.DestinationIp) (b.reports Fact.DestinationIp) in
      let scheme_is = one_scheme (get (name_of Fact.RequestScheme) d) f.scheme g.scheme
      (a.reports Fact.RequestScheme) (b.reports Fact.RequestScheme) in
      λ i. record {
        source_address = source_address_is i;
        source_port = source_port_is i;
        destination_address = destination_address_is i;
        destination_port = destination_port_is i;
        mtls = mtls_is i;
        connection_id = connection_id_is i;
        requested_server_name = server_name_is i;
        tls_version = tls_version_is i;
        subject_peer_certificate = subject_is i;
        dns_san_peer_certificate = dns_is i;
        uri_san_peer_certificate = uri_is i;
        direct_remote_ip = direct_is i;
        remote_ip = remote_is i;
        destination_ip = destination_is i;
        scheme = scheme_is i;
      }
