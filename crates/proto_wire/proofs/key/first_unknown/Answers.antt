use Rattle.std.proofs.Common.{List, map, sym, ◌∙◌}
use Rattle.std.proofs.lemmas.List.{at_drop_all}
use Rattle.proto_wire.specs.Fields.{field_view}
use Rattle.proto_wire.specs.Keys.{first_unknown}
use Rattle.proto_wire.specs.declared.field.Field.{Field}
use Rattle.proto_wire.proofs.KeyLemmas.{known_next, unknown_here}
use Rattle.proto_wire.proofs.key.first_unknown.Goals as goal

pub loop-field-preserved : goal.loop-field-preserved
loop-field-preserved c =
    known_next c.args.keys.now c.args.fields.now c.loop-field.field-index _ c.loop-field-test.true
    (sym c.is_known.ensures ∙ c.if-not-is_known.false)
    ∙ c.loop-field.invariant

pub returns-then-not-is_known : goal.returns-then-not-is_known
returns-then-not-is_known c =
    sym (unknown_here c.args.keys.now c.args.fields.now c.loop-field.field-index _ c.loop-field-test.true
    (sym c.is_known.ensures ∙ c.if-not-is_known.true))
    ∙ c.loop-field.invariant

pub returns : goal.returns
returns c =
    let keys = c.args.keys.now in
    sym (at_drop_all (λ (xs : List Field). first_unknown keys (map field_view xs)) c.args.fields.now
    c.loop-field.field-index c.loop-field-test.false)
    ∙ c.loop-field.invariant
