-- The fields of the message stand behind what was there.
use Rattle.std.proofs.Common.{List, [], ◌++◌}
use Rattle.std.proofs.lemmas.Result.{on_ok_weaker}
use Rattle.proto_wire.specs.Fields.{Wire}
use Rattle.xds_wire.specs.Discovery.{extension_field}
use Rattle.xds_wire.specs.View.{extension_view}
use Rattle.xds_wire.specs.Written.{string_fields}
use Rattle.xds_wire.proofs.WriteLemmas.{adds_more, adds_last}
use Rattle.xds_wire.proofs.extension.put_extension.Goals as goal

pub returns-clause-found : goal.returns-clause-found
returns-clause-found c =
    let m = extension_view c.args.extension.now in
    on_ok_weaker c.put_any.result
    (λ last.
    let typed_config : List Wire = last.0 in
    let added = adds_more c.args.writer.now c.put_text.new.writer c.put_any.new.writer (string_fields extension_field.name m.name) (typed_config ++ []) c.in_ok-put_text.ensures.found (adds_last c.put_text.new.writer c.put_any.new.writer typed_config last.2) in
    (added.0, record { typed_config = typed_config; config_fields = last.1; spells = added.1 }, added.2))
    c.put_any.ensures.found
