use Rattle.std.proofs.Common.{List, Ok, Err, map}
use Rattle.proto_wire.specs.Fields.{Wire, field_view}
use Rattle.proto_wire.specs.Maps.{int64, IsMap}
use Rattle.proto_wire.specs.Values.{payloads}
use Rattle.proto_wire.proofs.PlaceExits.{exit_with, placed_found}
use Rattle.cel_tree.specs.Message.{tree_depth, checked_field}
use Rattle.cel_tree.specs.Places.{PlacedOr}
use Rattle.cel_tree.specs.References.{IsReference, ReferenceFault}
use Rattle.cel_tree.specs.TypeEntries.{IsTypeEntry, TypeEntryFault}
use Rattle.cel_tree.specs.View.{references_view, types_view}
use Rattle.cel_tree.proofs.PlacedExits.{placed_in}
use Rattle.cel_read.specs.Places.{CheckedWrongAt, MapFaultAt, in_refs, in_types}
use Rattle.cel_read.proofs.message.maps_of.Goals as goal

pub returns-in_err-types-clause-fault : goal.returns-in_err-types-clause-fault
returns-in_err-types-clause-fault c =
    let fs : List Wire = map field_view c.args.fields.now in
    exit_with (PlacedOr (CheckedWrongAt fs)) c.from_residual.result c.in_err-types.field-0.0 c.from_residual.ensures.1
    (placed_in (MapFaultAt (TypeEntryFault tree_depth) (payloads checked_field.type_map fs)) (CheckedWrongAt fs)
    checked_field.type_map 0 c.types_of.result (Err c.in_err-types.field-0.0) c.in_err-types.ensures c.types_of.ensures.fault
    (λ inner outer e begins bad. in_types inner bad begins))

pub returns-in_err-refs-clause-fault : goal.returns-in_err-refs-clause-fault
returns-in_err-refs-clause-fault c =
    let fs : List Wire = map field_view c.args.fields.now in
    exit_with (PlacedOr (CheckedWrongAt fs)) c.from_residual-in_err-refs.result c.in_err-refs.field-0.0
    c.from_residual-in_err-refs.ensures.1
    (placed_in (MapFaultAt ReferenceFault (payloads checked_field.reference_map fs)) (CheckedWrongAt fs)
    checked_field.reference_map 0 c.references_of.result (Err c.in_err-refs.field-0.0) c.in_err-refs.ensures
    c.references_of.ensures.fault
    (λ inner outer e begins bad. in_refs inner bad begins))

pub returns-clause-found : goal.returns-clause-found
returns-clause-found c =
    let fs : List Wire = map field_view c.args.fields.now in (
      placed_found (λ m. IsMap int64 (IsTypeEntry tree_depth) (payloads checked_field.type_map fs) (types_view m))
          checked_field.type_map 0 c.types_of.result (Ok c.in_ok-types.types) c.in_ok-types.ensures c.types_of.ensures.found,
      placed_found (λ m. IsMap int64 IsReference (payloads checked_field.reference_map fs) (references_view m))
          checked_field.reference_map 0 c.references_of.result (Ok c.in_ok-refs.refs) c.in_ok-refs.ensures
          c.references_of.ensures.found,
    )
