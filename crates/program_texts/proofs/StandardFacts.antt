-- The object of a facts file with a member of nearly each kind, so that a wrong row of the table or a wrong kind does not check.
use Rattle.std.proofs.Common.{true, Some, None, codes, refl, lit<}
use Rattle.attributes.specs.Conn.{Facts}
use Rattle.attributes.specs.declared.address.Ip.TheVariants.{V4}
use Rattle.attributes.proofs.StandardFacts.{addresses}
use Rattle.serde_json.specs.Data.{boolean, number, unsigned, string, object, Members, no_members, member}
use Rattle.serde_json.specs.Find.{get}
use Rattle.program_texts.specs.Facts.{AreFacts, fact_row, name_of}
use Rattle.program_texts.specs.declared.fact.Fact.{Fact}

-- `{"connection.mtls": true, "destination.port": 443, "direct_remote_ip": "13.1.68.3", "source.address": "13.1.68.3:80"}`
abbrev members : Members
members =
    member (codes "connection.mtls") (boolean true)
    (member (codes "destination.port") (number (unsigned 443))
    (member (codes "direct_remote_ip") (string (codes "13.1.68.3"))
    (member (codes "source.address") (string (codes "13.1.68.3:80")) no_members)))

-- what it gives: of what it does not name nothing is known, and the scheme is `http`
abbrev pub facts : Facts
facts = record {
  source_address = Some (codes "13.1.68.3:80");
  source_port = None;
  destination_address = None;
  destination_port = Some 443;
  mtls = Some true;
  connection_id = None;
  requested_server_name = None;
  tls_version = None;
  subject_peer_certificate = None;
  dns_san_peer_certificate = None;
  uri_san_peer_certificate = None;
  direct_remote_ip = Some (V4 218186755);
  remote_ip = None;
  destination_ip = None;
  scheme = codes "http";
}

-- each fact is as its member says
reported : (fact : Fact) → (fact_row fact).1 (get (name_of fact) (object members)) facts
reported Fact.SourceAddress = refl
reported Fact.SourcePort = tt
reported Fact.DestinationAddress = tt
reported Fact.DestinationPort = (refl, lit< tt)
reported Fact.ConnectionMtls = refl
reported Fact.ConnectionId = tt
reported Fact.ConnectionRequestedServerName = tt
reported Fact.ConnectionTlsVersion = tt
reported Fact.ConnectionSubjectPeerCertificate = tt
reported Fact.ConnectionDnsSanPeerCertificate = tt
reported Fact.ConnectionUriSanPeerCertificate = tt
reported Fact.DirectRemoteIp = (codes "13.1.68.3", refl, (V4 218186755, addresses.dotted, refl))
reported Fact.RemoteIp = tt
reported Fact.DestinationIp = tt
reported Fact.RequestScheme = (None, tt, refl)

-- the object gives these facts
pub are_facts : AreFacts (object members) facts
are_facts = record {
  names = (
    members,
    refl,
    (
      (Fact.ConnectionMtls, refl),
      (
        (Fact.DestinationPort, refl),
        ((Fact.DirectRemoteIp, refl), ((Fact.SourceAddress, refl), tt)),
      ),
    ),
  );
  reports = reported;
}
