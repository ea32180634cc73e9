use Rattle.std.proofs.Common.{◌≡◌, [], ◌∙◌}
use Rattle.xds_wire.specs.View.{texts_view}
use Rattle.xds_wire.specs.Written.{strings_fields}
use Rattle.check_request.specs.Answers.{ok_field}
use Rattle.check_request.proofs.Spelled.{spelled_two}
use Rattle.check_request.proofs.answer.ok_bytes.Goals as goal

pub returns : goal.returns
returns c =
    let options = c.in_ok-put_options.ensures in
    let none : c.new-writer.result ≡ [] = c.new-writer.ensures ∙ c.new.ensures.items in (
      options.0,
      options.1,
      rw c.into_bytes.ensures
          (spelled_two c.new-writer.result c.put_options.new.writer c.put_names.new.writer options.0
          (strings_fields ok_field.headers_to_remove (texts_view c.args.remove.now)) none options.2
          c.in_ok-put_names.ensures),
    )
