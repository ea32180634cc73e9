use Rattle.std.proofs.Common.{◌≡◌, inr}
use Rattle.proto_wire.specs.Maps.{SomeEntryFault, text}
use Rattle.proto_wire.specs.Merge.{parts_view}
use Rattle.check_request.specs.Faults.{FaultOr, FiltersFault, bad_extensions, bad_filters}
use Rattle.check_request.specs.declared.part.CheckPart.TheVariants.{Extensions}
use Rattle.check_request.proofs.Exits.{exit_or, exit_plain}
use Rattle.check_request.proofs.filters.read_filters.Goals as goal

pub returns-in_err-entries-clause-fault : goal.returns-in_err-entries-clause-fault
returns-in_err-entries-clause-fault c =
    let parts = parts_view c.args.parts.now in
    exit_or (λ p e. (p ≡ Extensions) × SomeEntryFault text parts e) (FiltersFault parts)
    (λ p d bad. bad_extensions bad.0 bad.1)
    c.from_residual.result _ c.from_residual.ensures.1 c.in_err-entries.ensures.fault

pub returns-in_err-filters-clause-fault : goal.returns-in_err-filters-clause-fault
returns-in_err-filters-clause-fault c =
    let parts = parts_view c.args.parts.now in
    let found = c.in_ok-entries.ensures.found in
    let there = rw (c.deref.ensures.value, found.2) at c.in-Some.ensures in
    let bad = rw (c.last_payload.ensures, c.deref-2.ensures) at c.in_err-filters.ensures.fault in
    exit_plain (FaultOr (FiltersFault parts)) c.from_residual-in_err-filters.result _
    c.from_residual-in_err-filters.ensures.1
    (inr (bad_filters found.0 (parts_view c.in-Some.value.now.items) found.1 there bad.0 bad.1))
