-- Facts whose texts are those of a JSON value.
use Rattle.std.specs.Prelude.{ℕ, List, option_map}
use Rattle.std.specs.Borrow.{Bor}
use Rattle.attributes.specs.Conn.{Facts, server_name}
use Rattle.attributes.specs.declared.conn.Conn.{Conn}
use Rattle.serde_json.specs.Data.{Members}
use Rattle.program_texts.specs.Facts.{HasMember, IsFactName}
use Rattle.program_texts.specs.declared.fact_fault.FactFault.{FactFault}
use Rattle.program_texts.specs.declared.fact_fault.FactFault.TheVariants.{NoFact}

-- the facts, with the bytes of their texts; the name of a server in its one form
abbrev pub given_view : Conn (Bor (List ℕ)) → Facts
given_view c = record {
  source_address = option_map (λ t. t.now) c.source_address;
  source_port = c.source_port;
  destination_address = option_map (λ t. t.now) c.destination_address;
  destination_port = c.destination_port;
  mtls = c.mtls;
  connection_id = c.connection_id;
  requested_server_name = option_map server_name (option_map (λ t. t.now) c.requested_server_name);
  tls_version = option_map (λ t. t.now) c.tls_version;
  subject_peer_certificate = option_map (λ t. t.now) c.subject_peer_certificate;
  dns_san_peer_certificate = option_map (λ t. t.now) c.dns_san_peer_certificate;
  uri_san_peer_certificate = option_map (λ t. t.now) c.uri_san_peer_certificate;
  direct_remote_ip = c.direct_remote_ip;
  remote_ip = c.remote_ip;
  destination_ip = c.destination_ip;
  scheme = c.scheme.now;
}

-- the fault names a member that no fact has the name of
abbrev pub HasUnknown : Members → FactFault → Type 0
HasUnknown ms (NoFact name) = HasMember name.now ms × ¬ IsFactName name.now
HasUnknown ms _ = ⊥
