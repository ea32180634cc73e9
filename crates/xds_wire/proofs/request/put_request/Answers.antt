-- The fields of the message stand behind what was there.
use Rattle.std.proofs.Common.{List, [], ◌++◌}
use Rattle.std.proofs.lemmas.Result.{on_ok_weaker}
use Rattle.proto_wire.specs.Fields.{Wire}
use Rattle.xds_wire.specs.Discovery.{request_field}
use Rattle.xds_wire.specs.View.{request_view}
use Rattle.xds_wire.specs.Written.{string_fields, strings_fields}
use Rattle.xds_wire.proofs.WriteLemmas.{adds_more, adds_last}
use Rattle.xds_wire.proofs.request.put_request.Goals as goal

pub returns-clause-found : goal.returns-clause-found
returns-clause-found c =
    let m = request_view c.args.request.now in
    on_ok_weaker c.put_status.result
    (λ last.
    let node : List Wire = (c.in_ok-put_node.ensures.found).0 in
    let error_detail : List Wire = last.0 in
    let added = adds_more c.args.writer.now c.put_text.new.writer c.put_status.new.writer (string_fields request_field.version_info m.version_info) (node ++ ((strings_fields request_field.resource_names m.resource_names) ++ ((string_fields request_field.type_url m.type_url) ++ ((string_fields request_field.response_nonce m.response_nonce) ++ (error_detail ++ []))))) c.in_ok-put_text.ensures.found (adds_more c.put_text.new.writer c.put_node.new.writer c.put_status.new.writer node ((strings_fields request_field.resource_names m.resource_names) ++ ((string_fields request_field.type_url m.type_url) ++ ((string_fields request_field.response_nonce m.response_nonce) ++ (error_detail ++ [])))) (c.in_ok-put_node.ensures.found.2) (adds_more c.put_node.new.writer c.put_texts.new.writer c.put_status.new.writer (strings_fields request_field.resource_names m.resource_names) ((string_fields request_field.type_url m.type_url) ++ ((string_fields request_field.response_nonce m.response_nonce) ++ (error_detail ++ []))) (rw c.deref.ensures.value at c.in_ok-put_texts.ensures.found) (adds_more c.put_texts.new.writer c.put_text-2.new.writer c.put_status.new.writer (string_fields request_field.type_url m.type_url) ((string_fields request_field.response_nonce m.response_nonce) ++ (error_detail ++ [])) c.in_ok-put_text-2.ensures.found (adds_more c.put_text-2.new.writer c.put_text-3.new.writer c.put_status.new.writer (string_fields request_field.response_nonce m.response_nonce) (error_detail ++ []) c.in_ok-put_text-3.ensures.found (adds_last c.put_text-3.new.writer c.put_status.new.writer error_detail last.2))))) in
    (added.0, record { node = node; error_detail = error_detail; node_fields = c.in_ok-put_node.ensures.found.1; error_fields = last.1; spells = added.1 }, added.2))
    c.put_status.ensures.found
