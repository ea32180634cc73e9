use Rattle.std.proofs.Common.{◌≡◌, [], ◌∙◌}
use Rattle.xds_wire.specs.Written.{string_fields}
use Rattle.xds_wire.specs.private.Writing.{Adds}
use Rattle.check_request.specs.Answers.{CodeWritten, body_of, denied_field, message_fields, status_of}
use Rattle.check_request.proofs.Spelled.{spelled_three}
use Rattle.check_request.proofs.answer.denied_bytes.Goals as goal

pub returns : goal.returns
returns c =
    let bytes = c.in_ok-status.status.items in
    let code : CodeWritten (status_of c.args.outcome) bytes =
    rw (c.from.ensures, c.status.ensures) at c.in_ok-status.ensures in
    let options = c.in_ok-put_options.ensures in
    let body = rw c.body.ensures at c.in_ok-put_text.ensures in
    let status : Adds c.new-writer.result (message_fields denied_field.status bytes) c.message.new.self =
    rw c.deref.ensures.value at c.in_ok-message.ensures.written in
    let none : c.new-writer.result ≡ [] = c.new-writer.ensures ∙ c.new.ensures.items in (
      bytes,
      options.0,
      code,
      options.1,
      rw c.into_bytes.ensures
          (spelled_three c.new-writer.result c.message.new.self c.put_options.new.writer c.put_text.new.writer
          (message_fields denied_field.status bytes) options.0
          (string_fields denied_field.body (body_of c.args.outcome)) none status options.2 body),
    )
