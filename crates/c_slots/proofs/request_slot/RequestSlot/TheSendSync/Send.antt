-- Any thread may have a request's slot.
use mir.Raw.{raw}
use base.Shift.{Keyless}
use denote.Memory.{lone}
use denote.RawPtr.{Ptr}
use denote.Param.Send.{IsSend, owning_send, sendable}
use Rattle.std.proofs.Crossing as heap
use Rattle.std_alloc.proofs.SendSync.{lies}
use Rattle.std.specs.declared.option.Option.{Option}
use Rattle.std.specs.declared.option.Option.TheVariants.{None, Some}
use Rattle.c_slots.proofs.KeptCrossing.{made_send}
use Rattle.c_slots.specs.Owns as owns
use Rattle.c_slots.specs.declared.request_slot.Made.{Made}
use Rattle.c_slots.specs.contracts.request_slot.Made as made
use Rattle.c_slots.specs.contracts.request_slot.RequestSlot.{the_row, the_type}

keyless : (p : Ptr) (held : Option Made) → Keyless (owns.request_owns p held)
keyless p None = tt
keyless p (Some x) = (lies made.the_row made_send p x, heap.frees.frees owns.heap (raw (lone made.the_row.mir)) p)

pub send : IsSend the_row
send = owning_send the_type (search sendable, tt) (λ s. keyless s.at s.held) (λ k x w. tt)
