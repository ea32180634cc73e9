use Rattle.attributes.specs.Request.{IsTextEntry}
use Rattle.http_front.specs.private.Parsed.{HasAsciiName}
use Rattle.http_front.proofs.SpelledAsks.{fields_at}
use Rattle.http_front.proofs.spelled_ask.draft_lines.Goals as goal

pub text_of-name-requires : goal.text_of-name-requires
text_of-name-requires c =
    let text = fields_at IsTextEntry c.args.lines.now c.loop-line.line-index _ c.loop-line-test.true c.requires.texts in
    rw c.head_name.ensures text.0

pub text_of-requires : goal.text_of-requires
text_of-requires c =
    let text = fields_at IsTextEntry c.args.lines.now c.loop-line.line-index _ c.loop-line-test.true c.requires.texts in
    rw c.head_value.ensures text.1

pub add_sent_line-requires : goal.add_sent_line-requires
add_sent_line-requires c =
    let name = fields_at HasAsciiName c.args.lines.now c.loop-line.line-index _ c.loop-line-test.true c.requires.names in
    rw (c.text_of-name.ensures, c.head_name.ensures) name
