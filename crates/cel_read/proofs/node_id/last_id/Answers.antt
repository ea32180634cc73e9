use Rattle.std.proofs.Common.{[], ◌∷◌, ◌++◌, inl, inr, sym, ap, ◌∙◌}
use Rattle.std.specs.Prelude.{unwrap_or}
use Rattle.cel_tree.specs.Nodes.{node_field}
use Rattle.proto_wire.specs.Fields.{StartsField, field_view}
use Rattle.proto_wire.specs.Values.{last_of, varints}
use Rattle.proto_wire.proofs.Unique.{after_push}
use Rattle.cel_read.proofs.Ids.{last_more}
use Rattle.cel_read.proofs.node_id.last_id.Goals as goal

pub loop-field-preserved : goal.loop-field-preserved
loop-field-preserved c =
    let so_far = c.loop-field.invariant in
    let f = field_view c.in-Some.field in
    let next : StartsField c.loop-field.reader f c.next_field.new.reader = rw c.in-Some.is at c.next_field.ensures.found in
    let more = last_more node_field.id so_far.0 (f ∷ []) c.args.before in (
      so_far.0 ++ f ∷ [],
      after_push c.args.bytes.now so_far.0 c.loop-field.reader f c.next_field.new.reader so_far.1 next,
      c.unwrap_or-last.ensures
          ∙ (ap (λ o. unwrap_or o c.loop-field.last) c.last_varint.ensures
          ∙ (ap (unwrap_or (last_of (varints node_field.id (f ∷ [])))) so_far.2 ∙ sym more)),
    )

pub returns : goal.returns
returns c =
    let so_far = c.loop-field.invariant in
    let end = c.next_field.ensures.none c.in_default.is in (
      so_far.0,
      elim end.1 [
        | inl empty ↦ inl (rw empty at so_far.1)
        | inr bad ↦ inr (bad.1, record { rest = c.loop-field.reader; after = so_far.1; more = bad.0; fails = bad.2 })
      ],
      so_far.2,
    )
