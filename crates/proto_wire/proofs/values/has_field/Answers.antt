use Rattle.std.proofs.Common.{◌∙◌, [], ◌∷◌, sym, rules, tests}
use Rattle.std.proofs.lemmas.Iterator.{YieldsList-from_slice}
use Rattle.std.proofs.lemmas.Iterator.Search.{any_from_yields_List}
use Rattle.proto_wire.specs.Fields.{field_view}
use Rattle.proto_wire.specs.Keys.{len_key, varint_key, is_known}
use Rattle.proto_wire.proofs.ValueLemmas.{list_any_map}
use Rattle.proto_wire.proofs.values.has_field.Goals as goal

pub returns : goal.returns
returns c =
    let keys = len_key c.args.number ∷ varint_key c.args.number ∷ [] in
    let fields = c.args.fields.now in
    any_from_yields_List (λ f. is_known keys (field_view f)) _ _ _ c.any.ensures.ran
    (YieldsList-from_slice fields cc) (λ x b q k. search (rules, tests))
    ∙ sym (list_any_map (is_known keys) field_view fields)
