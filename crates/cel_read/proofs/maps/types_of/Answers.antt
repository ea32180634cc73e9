use Rattle.std.proofs.Common.{◌≡◌, List, T, map, refl, sym, ap, subst, ◌∙◌}
use Rattle.std.proofs.lemmas.Result.{MatchResult-weaker}
use Rattle.std.specs.FinMap.{entries, entries_sorted, is_sorted}
use Rattle.std.specs.Ordering.{int_cmp}
use Rattle.proto_wire.specs.Fields.{Wire, field_view}
use Rattle.proto_wire.specs.Maps.{Entry, int64, AreEntries, map_of, SomeEntryFault}
use Rattle.proto_wire.specs.Merge.{parts_view}
use Rattle.proto_wire.specs.Values.{payloads}
use Rattle.proto_wire.proofs.MapLaws.{entries_readable}
use Rattle.cel_tree.specs.Message.{tree_depth, checked_field}
use Rattle.cel_tree.specs.TypeEntries.{IsTypeEntry, TypeEntryFault}
use Rattle.cel_tree.specs.View.{types_view}
use Rattle.cel_read.specs.private.Named.{ids_view}
use Rattle.cel_read.proofs.NamedMaps.{all_values}
use Rattle.cel_tree.proofs.PlacedExits.{exit_unplaced_or, last_placed}
use Rattle.cel_read.specs.Places.{MapFaultAt, ValueFaultAt, of_payload, of_value}
use Rattle.cel_read.proofs.maps.types_of.Goals as goal

pub returns-in_err-named-clause-fault : goal.returns-in_err-named-clause-fault
returns-in_err-named-clause-fault c =
    let fs : List Wire = map field_view c.args.fields.now in
    let parts : parts_view c.deref.result.now ≡ payloads checked_field.type_map fs = ap parts_view c.deref.ensures ∙ c.in_ok-entries.ensures in
    exit_unplaced_or (SomeEntryFault int64 (payloads checked_field.type_map fs)) (MapFaultAt (TypeEntryFault tree_depth) (payloads checked_field.type_map fs))
    c.from_residual-in_err-named.result _ c.from_residual-in_err-named.ensures.1 (rw parts at c.in_err-named.ensures.fault)
    (λ e bad. of_payload bad refl)

pub read_types-requires : goal.read_types-requires
read_types-requires c =
    let es : List (Entry int64) = c.in_ok-named.ensures.found.0 in
    let same : ids_view c.deref-2.result.now ≡ entries (map_of int64 es) = ap ids_view c.deref-2.ensures.value ∙ c.in_ok-named.ensures.found.2 in
    let P : List (Entry int64) → Type 0 = λ xs. T (is_sorted int_cmp xs) in
    subst P (sym same) (entries_sorted (map_of int64 es))

pub returns-clause-found : goal.returns-clause-found
returns-clause-found c =
    let fs : List Wire = map field_view c.args.fields.now in
    let parts : parts_view c.deref.result.now ≡ payloads checked_field.type_map fs = ap parts_view c.deref.ensures ∙ c.in_ok-entries.ensures in
    let es : List (Entry int64) = c.in_ok-named.ensures.found.0 in
    let same : ids_view c.deref-2.result.now ≡ entries (map_of int64 es) = ap ids_view c.deref-2.ensures.value ∙ c.in_ok-named.ensures.found.2 in
    let read : AreEntries int64 (payloads checked_field.type_map fs) es = rw parts at c.in_ok-named.ensures.found.1 in
    MatchResult-weaker c.read_types.result c.read_types.ensures.found
    (λ m are. (es, read, all_values (IsTypeEntry tree_depth) (map_of int64 es) (types_view m) (rw same at are))) (λ _ _. tt)

pub returns-clause-fault : goal.returns-clause-fault
returns-clause-fault c =
    let fs : List Wire = map field_view c.args.fields.now in
    let parts : parts_view c.deref.result.now ≡ payloads checked_field.type_map fs = ap parts_view c.deref.ensures ∙ c.in_ok-entries.ensures in
    let es : List (Entry int64) = c.in_ok-named.ensures.found.0 in
    let same : ids_view c.deref-2.result.now ≡ entries (map_of int64 es) = ap ids_view c.deref-2.ensures.value ∙ c.in_ok-named.ensures.found.2 in
    let read : AreEntries int64 (payloads checked_field.type_map fs) es = rw parts at c.in_ok-named.ensures.found.1 in
    last_placed (ValueFaultAt (TypeEntryFault tree_depth) (entries (map_of int64 es))) (MapFaultAt (TypeEntryFault tree_depth) (payloads checked_field.type_map fs))
    c.read_types.result (rw same at c.read_types.ensures.fault)
    (λ path e bad. of_value es (entries_readable int64 (payloads checked_field.type_map fs) es read) bad)
