use Rattle.std.proofs.Common.{List, map, inr}
use Rattle.proto_wire.specs.Fields.{Wire, field_view}
use Rattle.proto_wire.specs.Maps.{KeyReads, EntryFault, entry_key}
use Rattle.proto_wire.proofs.Exits.{exit_memory_or}
use Rattle.proto_wire.proofs.maps.read_entry.Goals as goal

pub returns-in_err-key-clause-fault : goal.returns-in_err-key-clause-fault
returns-in_err-key-clause-fault g c =
    let exit = c.from_residual-in_err-key in
    let kind = g.K.KeyOrder.kind in
    let fs : List Wire = map field_view c.in_ok-fields.fields.items in
    let bad : ¬ (KeyReads kind fs) = rw (← c.deref.ensures) c.in_err-key.ensures.fault.0 in
    let fault : EntryFault kind c.args.payload.now c.in_err-key.field-0.0 =
    entry_key fs c.in_ok-fields.ensures.found.0 bad c.in_err-key.ensures.fault.1 in
    exit_memory_or (EntryFault kind c.args.payload.now) (EntryFault kind c.args.payload.now)
    exit.result _ exit.ensures.1 (inr fault) (λ d bad. bad)
