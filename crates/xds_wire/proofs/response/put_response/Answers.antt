-- The fields of the message stand behind what was there.
use Rattle.std.proofs.Common.{List, [], ◌++◌}
use Rattle.std.proofs.lemmas.Result.{on_ok_weaker}
use Rattle.proto_wire.specs.Fields.{Wire}
use Rattle.xds_wire.specs.Discovery.{response_field}
use Rattle.xds_wire.specs.View.{response_view}
use Rattle.xds_wire.specs.Written.{string_fields}
use Rattle.xds_wire.proofs.WriteLemmas.{adds_more, adds_last}
use Rattle.xds_wire.proofs.response.put_response.Goals as goal

pub returns-clause-found : goal.returns-clause-found
returns-clause-found c =
    let m = response_view c.args.response.now in
    on_ok_weaker c.put_text-3.result
    (λ last.
    let resources : List Wire = (c.in_ok-put_each_any.ensures.found).0 in
    let added = adds_more c.args.writer.now c.put_text.new.writer c.put_text-3.new.writer (string_fields response_field.version_info m.version_info) (resources ++ ((string_fields response_field.type_url m.type_url) ++ ((string_fields response_field.nonce m.nonce) ++ []))) c.in_ok-put_text.ensures.found (adds_more c.put_text.new.writer c.put_each_any.new.writer c.put_text-3.new.writer resources ((string_fields response_field.type_url m.type_url) ++ ((string_fields response_field.nonce m.nonce) ++ [])) (c.in_ok-put_each_any.ensures.found.2) (adds_more c.put_each_any.new.writer c.put_text-2.new.writer c.put_text-3.new.writer (string_fields response_field.type_url m.type_url) ((string_fields response_field.nonce m.nonce) ++ []) c.in_ok-put_text-2.ensures.found (adds_last c.put_text-2.new.writer c.put_text-3.new.writer (string_fields response_field.nonce m.nonce) last))) in
    (added.0, record { resources = resources; resource_fields = (rw c.deref.ensures.value at c.in_ok-put_each_any.ensures.found.1); spells = added.1 }, added.2))
    c.put_text-3.ensures.found
