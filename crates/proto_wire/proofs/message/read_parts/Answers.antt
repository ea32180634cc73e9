use Rattle.std.proofs.Common.{◌≡◌, map, get_or}
use Rattle.std.proofs.lemmas.List.{take_all}
use Rattle.proto_wire.specs.Fields.{field_view}
use Rattle.proto_wire.specs.Merge.{Merges, parts_view}
use Rattle.proto_wire.specs.Messages.{PartsFault}
use Rattle.proto_wire.proofs.Exits.{exit_memory_or, exit_only_memory, exit_told}
use Rattle.proto_wire.proofs.Unique.{BytesFault, merges_unique, merges_disjoint, merges_at, breaks_at, first_breaks_at, first_disjoint}
use Rattle.proto_wire.proofs.message.read_parts.Goals as goal

pub returns-in_err-append_fields-clause-fault : goal.returns-in_err-append_fields-clause-fault
returns-in_err-append_fields-clause-fault c =
    let exit = c.from_residual in
    let parts = c.args.parts.now in
    let i = c.loop-part.part-index in
    let within = c.loop-part-test.true in
    exit_memory_or (BytesFault (get_or parts i _).now) (PartsFault (parts_view parts)) exit.result _
    exit.ensures.1 c.in_err-append_fields.ensures.fault
    (λ d fault. (breaks_at i parts _ within fault.0, fault.1))

pub returns-in_err-append_fields-clause-at_once : goal.returns-in_err-append_fields-clause-at_once
returns-in_err-append_fields-clause-at_once c breaks =
    let parts = c.args.parts.now in
    let i = c.loop-part.part-index in
    let within = c.loop-part-test.true in
    let here = first_breaks_at i parts _ _ within c.loop-part.invariant breaks in
    exit_told {S = Unit {0}} c.from_residual.result _ _ c.from_residual.ensures.1
    (c.in_err-append_fields.ensures.at_once here)

pub returns-clause-at_once : goal.returns-clause-at_once
returns-clause-at_once c breaks =
    let all : Merges (parts_view c.args.parts.now) (map field_view c.loop-part.fields.items) =
    rw (take_all c.loop-part.part-index c.args.parts.now c.loop-part-test.false) at
    c.loop-part.invariant in
    absurd (first_disjoint (parts_view c.args.parts.now) _ all breaks)

pub loop-part-preserved : goal.loop-part-preserved
loop-part-preserved c =
    let found = c.in_ok-append_fields.ensures.found in
    let before = map field_view c.loop-part.fields.items in
    let i = c.loop-part.part-index in
    let within = c.loop-part-test.true in
    let so_far = c.loop-part.invariant in
    rw (found.2) (merges_at i c.args.parts.now _ before found.0 within so_far found.1)

pub returns-in_err-append_fields-clause-reads : goal.returns-in_err-append_fields-clause-reads
returns-in_err-append_fields-clause-reads c fs merges =
    let exit = c.from_residual in
    let parts = c.args.parts.now in
    let i = c.loop-part.part-index in
    let within = c.loop-part-test.true in
    exit_only_memory (BytesFault (get_or parts i _).now) (λ v. map field_view v.items ≡ fs) exit.result
    _ exit.ensures.1 c.in_err-append_fields.ensures.fault
    (λ bad. merges_disjoint (parts_view parts) fs merges (breaks_at i parts _ within bad.0))

pub returns-clause-reads : goal.returns-clause-reads
returns-clause-reads c fs merges =
    let parts = parts_view c.args.parts.now in
    let all : Merges parts (map field_view c.loop-part.fields.items) =
    rw (take_all c.loop-part.part-index c.args.parts.now c.loop-part-test.false) at
    c.loop-part.invariant in
    merges_unique parts _ fs all merges
