use Rattle.std.proofs.Common.{◌≡◌, List, sym, ap, ◌∙◌}
use Rattle.std.specs.FinMap.{entries}
use Rattle.proto_wire.specs.Merge.{parts_view}
use Rattle.proto_wire.specs.Maps.{Entry, SomeEntryFault, map_of, entries_view}
use Rattle.proto_wire.proofs.Exits.{exit_only_memory}
use Rattle.proto_wire.proofs.MapLaws.{entries_disjoint, entries_unique}
use Rattle.proto_wire.proofs.MapLemmas.{map_of_sorted}
use Rattle.proto_wire.proofs.maps.read_entries.Goals as goal

pub returns-in_err-entries-clause-reads : goal.returns-in_err-entries-clause-reads
returns-in_err-entries-clause-reads g c es are =
    let kind = g.K.KeyOrder.kind in
    let parts = parts_view c.args.payloads.now in
    exit_only_memory (SomeEntryFault kind parts)
    (λ v. entries_view kind g.K.KeyOrder.key_view v.items ≡ entries (map_of kind es))
    c.from_residual.result _ c.from_residual.ensures.1 c.in_err-entries.ensures.fault
    (λ bad. entries_disjoint kind parts es _ are bad)

pub returns-then-is_ascending-clause-found : goal.returns-then-is_ascending-clause-found
returns-then-is_ascending-clause-found g c =
    let kind = g.K.KeyOrder.kind in
    let es : List (Entry kind) =
    entries_view kind g.K.KeyOrder.key_view c.in_ok-entries.entries.items in
    let sorted = rw (c.if-is_ascending.true, c.deref.ensures.value) at c.is_ascending.ensures in
    (es, c.in_ok-entries.ensures.found, sym (map_of_sorted kind es sorted))

pub returns-then-is_ascending-clause-reads : goal.returns-then-is_ascending-clause-reads
returns-then-is_ascending-clause-reads g c es are =
    let kind = g.K.KeyOrder.kind in
    let read : List (Entry kind) =
    entries_view kind g.K.KeyOrder.key_view c.in_ok-entries.entries.items in
    let sorted = rw (c.if-is_ascending.true, c.deref.ensures.value) at c.is_ascending.ensures in
    let same : read ≡ es =
    entries_unique kind (parts_view c.args.payloads.now) read es c.in_ok-entries.ensures.found are in
    sym (map_of_sorted kind read sorted) ∙ ap (λ xs. entries (map_of kind xs)) same

pub returns-clause-reads : goal.returns-clause-reads
returns-clause-reads g c es are =
    let kind = g.K.KeyOrder.kind in
    let read : List (Entry kind) =
    entries_view kind g.K.KeyOrder.key_view c.in_ok-entries.entries.items in
    let same : read ≡ es =
    entries_unique kind (parts_view c.args.payloads.now) read es c.in_ok-entries.ensures.found are in
    c.in_ok-last_of_each.ensures ∙ ap (λ xs. entries (map_of kind xs)) same
