use Rattle.std.proofs.Common.{◌≡◌, w64, to_z, of_z, to_z-of_z, ◌∙◌, Ok, Err}
use Rattle.proto_wire.specs.Merge.{parts_view}
use Rattle.cel_tree.specs.Message.{tree_depth}
use Rattle.cel_tree.specs.TypeEntries.{IsTypeEntry, TypeEntryFault}
use Rattle.cel_tree.specs.View.{type_entry_view, types_view}
use Rattle.cel_read.specs.private.Named.{ids_view}
use Rattle.cel_read.proofs.NamedMaps.{no_values, found_next, some_next}
use Rattle.cel_tree.specs.Places.{NamesEntry}
use Rattle.cel_tree.proofs.PlacedExits.{entry_fault, entry_found, exit_placed}
use Rattle.cel_read.specs.Places.{ValueFaultAt}
use Rattle.cel_read.proofs.maps.read_types.Goals as goal

pub loop-entry-init : goal.loop-entry-init
loop-entry-init c =
    no_values (IsTypeEntry tree_depth) (ids_view c.args.named.now) (types_view c.new-types.result) c.new-types.ensures

pub returns-in_err-read-clause-fault : goal.returns-in_err-read-clause-fault
returns-in_err-read-clause-fault c =
    let named = c.args.named.now in
    let e = c.entry-item.result in
    let found = found_next named c.loop-entry.entry-index e c.entry-item.is c.loop-entry-test.true c.requires in
    let same : to_z w64 (of_z w64 c.number_of-id.result) ≡ e.0 =
    to_z-of_z c.number_of-id.ensures.ranged ∙ c.number_of-id.ensures.value in
    exit_placed (λ path d. (TypeEntryFault tree_depth) (parts_view e.1.items) d × NamesEntry e.0 path) (ValueFaultAt (TypeEntryFault tree_depth) (ids_view named))
    c.from_residual.result c.in_err-read.field-0.0 c.from_residual.ensures.1
    (entry_fault ((TypeEntryFault tree_depth) (parts_view e.1.items)) e.0 c.read_type.result (Err c.in_err-read.field-0.0)
    (rw same at c.in_err-read.ensures) (rw c.deref.ensures at c.read_type.ensures.fault))
    (λ path d bad. (e.0, parts_view e.1.items, found, bad.0, bad.1))

pub loop-entry-preserved : goal.loop-entry-preserved
loop-entry-preserved c =
    let named = c.args.named.now in
    let e = c.entry-item.result in
    let same : to_z w64 (of_z w64 c.number_of-id.result) ≡ e.0 =
    to_z-of_z c.number_of-id.ensures.ranged ∙ c.number_of-id.ensures.value in
    rw (c.in_ok-insert.ensures, same) (some_next (IsTypeEntry tree_depth) named c.loop-entry.entry-index e (types_view c.loop-entry.types)
    (type_entry_view c.in_ok-read.read) c.entry-item.is c.loop-entry-test.true c.requires c.loop-entry.invariant
    (entry_found (λ v. (IsTypeEntry tree_depth) (parts_view e.1.items) (type_entry_view v)) e.0 c.read_type.result (Ok c.in_ok-read.read)
    c.in_ok-read.ensures (rw c.deref.ensures at c.read_type.ensures.found)))
