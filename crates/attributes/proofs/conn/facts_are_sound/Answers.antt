-- Numbers are in the ranges of their types, and texts are UTF-8.

use Rattle.attributes.proofs.Facts.{is_utf8_rc_str_bytes, is_utf8_text_view}
use Rattle.attributes.proofs.conn.facts_are_sound.Goals as goal

pub returns : goal.returns
returns c = record {
  texts = (
    is_utf8_text_view c.args.conn.now.source_address,
    (
      is_utf8_text_view c.args.conn.now.destination_address,
      (
        is_utf8_text_view c.args.conn.now.requested_server_name,
        (
          is_utf8_text_view c.args.conn.now.tls_version,
          (
            is_utf8_text_view c.args.conn.now.subject_peer_certificate,
            (
              is_utf8_text_view c.args.conn.now.dns_san_peer_certificate,
              (
                is_utf8_text_view c.args.conn.now.uri_san_peer_certificate,
                (is_utf8_rc_str_bytes c.args.conn.now.scheme, tt),
              ),
            ),
          ),
        ),
      ),
    ),
  );
  source_port = c.port_is_sound.ensures;
  destination_port = c.port_is_sound-2.ensures;
  connection_id = c.number_is_sound.ensures;
  direct_remote_ip = c.address_is_sound.ensures;
  remote_ip = c.address_is_sound-2.ensures;
  destination_ip = c.address_is_sound-3.ensures;
}
