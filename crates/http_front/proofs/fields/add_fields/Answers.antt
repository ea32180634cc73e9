use Rattle.httparse.specs.Spans.{header_bytes}
use Rattle.attributes.specs.Request.{IsTextEntry}
use Rattle.http_front.specs.private.Parsed.{HasAsciiName}
use Rattle.http_front.proofs.FieldLists.{all_map_at}
use Rattle.http_front.proofs.Spans.{no_span}
use Rattle.http_front.proofs.fields.add_fields.Goals as goal

pub text_of-name-requires : goal.text_of-name-requires
text_of-name-requires c =
    let text = all_map_at IsTextEntry (header_bytes c.args.bytes.now) c.args.fields.now
    c.loop-field.field-index no_span c.loop-field-test.true c.requires.texts in
    rw c.of.ensures text.0

pub text_of-value-requires : goal.text_of-value-requires
text_of-value-requires c =
    let text = all_map_at IsTextEntry (header_bytes c.args.bytes.now) c.args.fields.now
    c.loop-field.field-index no_span c.loop-field-test.true c.requires.texts in
    rw c.of-in-loop-field.ensures text.1

pub add_sent_line-requires : goal.add_sent_line-requires
add_sent_line-requires c =
    let name = all_map_at HasAsciiName (header_bytes c.args.bytes.now) c.args.fields.now
    c.loop-field.field-index no_span c.loop-field-test.true c.requires.names in
    rw (c.text_of-name.ensures, c.of.ensures) name
