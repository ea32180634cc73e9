-- Any thread may have a connection's slot.
use mir.Raw.{raw}
use base.Shift.{Keyless}
use denote.Memory.{lone}
use denote.RawPtr.{Ptr}
use denote.Param.Send.{IsSend, owning_send, sendable}
use Rattle.std.proofs.Crossing as heap
use Rattle.std_alloc.proofs.SendSync.{lies}
use Rattle.std.specs.declared.option.Option.{Option}
use Rattle.std.specs.declared.option.Option.TheVariants.{None, Some}
use Rattle.c_slots.proofs.KeptCrossing.{opened_send}
use Rattle.c_slots.specs.Owns as owns
use Rattle.c_slots.specs.declared.conn_slot.Opened.{Opened}
use Rattle.c_slots.specs.contracts.conn_slot.Opened as opened
use Rattle.c_slots.specs.contracts.conn_slot.ConnSlot.{the_row, the_type}

keyless : (p : Ptr) (held : Option Opened) → Keyless (owns.conn_owns p held)
keyless p None = tt
keyless p (Some x) = (lies opened.the_row opened_send p x, heap.frees.frees owns.heap (raw (lone opened.the_row.mir)) p)

pub send : IsSend the_row
send = owning_send the_type (search sendable, tt) (λ s. keyless s.at s.held) (λ k x w. tt)
