use Rattle.std.proofs.Common.{List, get_or}
use Rattle.std.proofs.lemmas.List.{take_all}
use Rattle.proto_wire.specs.Merge.{parts_view}
use Rattle.proto_wire.specs.Maps.{Entry, AreEntries, EntryFault, SomeEntryFault, entries_view}
use Rattle.proto_wire.proofs.Basics.{part_in}
use Rattle.proto_wire.proofs.Exits.{exit_told, exit_memory_or}
use Rattle.proto_wire.proofs.MapLemmas.{are_entries_more, entries_view_push, entries_first_disjoint, entry_breaks_at, entry_breaks_disjoint}
use Rattle.proto_wire.proofs.maps.read_each.Goals as goal

pub returns-in_err-entry-clause-at_once : goal.returns-in_err-entry-clause-at_once
returns-in_err-entry-clause-at_once g c breaks =
    let here =
    entry_breaks_at g.K.KeyOrder.kind c.loop-payload.payload-index c.args.payloads.now _ _
    c.loop-payload-test.true c.loop-payload.invariant breaks in
    exit_told c.from_residual.result _ _ c.from_residual.ensures.1
    (c.in_err-entry.ensures.at_once here)

pub returns-in_err-entry-clause-fault : goal.returns-in_err-entry-clause-fault
returns-in_err-entry-clause-fault g c =
    let kind = g.K.KeyOrder.kind in
    let payloads = c.args.payloads.now in
    let i = c.loop-payload.payload-index in
    exit_memory_or (EntryFault kind (get_or payloads i _).now) (SomeEntryFault kind (parts_view payloads))
    c.from_residual.result _ c.from_residual.ensures.1 c.in_err-entry.ensures.fault
    (λ e bad. (_, part_in payloads i _ c.loop-payload-test.true, bad))

pub returns-in_err-add_entry-clause-at_once : goal.returns-in_err-add_entry-clause-at_once
returns-in_err-add_entry-clause-at_once g c breaks =
    let here =
    entry_breaks_at g.K.KeyOrder.kind c.loop-payload.payload-index c.args.payloads.now _ _
    c.loop-payload-test.true c.loop-payload.invariant breaks in
    absurd (entry_breaks_disjoint g.K.KeyOrder.kind _ _ c.in_ok-entry.ensures.found here)

pub loop-payload-preserved : goal.loop-payload-preserved
loop-payload-preserved g c =
    let kind = g.K.KeyOrder.kind in
    let key_view = g.K.KeyOrder.key_view in
    let entry = c.in_ok-entry.entry in
    let e : Entry kind = (key_view entry.0, parts_view entry.1.items) in
    let old : List (Entry kind) = entries_view kind key_view c.loop-payload.entries.items in
    rw (entries_view_push kind key_view c.loop-payload.entries.items c.add_entry.new.entries.items entry c.in_ok-add_entry.ensures)
    (are_entries_more kind c.args.payloads.now c.loop-payload.payload-index _ old e c.loop-payload-test.true
    c.loop-payload.invariant c.in_ok-entry.ensures.found)

pub returns-clause-at_once : goal.returns-clause-at_once
returns-clause-at_once g c breaks =
    let kind = g.K.KeyOrder.kind in
    let es : List (Entry kind) = entries_view kind g.K.KeyOrder.key_view c.loop-payload.entries.items in
    let all : AreEntries kind (parts_view c.args.payloads.now) es =
    rw (take_all c.loop-payload.payload-index c.args.payloads.now c.loop-payload-test.false) at
    c.loop-payload.invariant in
    absurd (entries_first_disjoint kind (parts_view c.args.payloads.now) es all breaks)
