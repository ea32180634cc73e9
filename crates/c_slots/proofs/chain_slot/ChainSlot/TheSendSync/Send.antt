-- Any thread may have a chain's slot.
use mir.Raw.{raw}
use base.Shift.{Keyless}
use denote.Memory.{lone}
use denote.RawPtr.{Ptr}
use denote.Param.Send.{IsSend, owning_send, sendable}
use Rattle.std.proofs.Crossing as heap
use Rattle.std_alloc.proofs.SendSync.{lies}
use Rattle.std.specs.declared.option.Option.{Option}
use Rattle.std.specs.declared.option.Option.TheVariants.{None, Some}
use Rattle.c_slots.proofs.KeptCrossing.{chain_send}
use Rattle.c_slots.specs.Owns as owns
use Rattle.c_slots.specs.declared.chain_slot.Chain.{Chain}
use Rattle.c_slots.specs.contracts.chain_slot.Chain as chain
use Rattle.c_slots.specs.contracts.chain_slot.ChainSlot.{the_row, the_type}

keyless : (p : Ptr) (held : Option Chain) → Keyless (owns.chain_owns p held)
keyless p None = tt
keyless p (Some x) = (lies chain.the_row chain_send p x, heap.frees.frees owns.heap (raw (lone chain.the_row.mir)) p)

pub send : IsSend the_row
send = owning_send the_type (search sendable, tt) (λ s. keyless s.at s.held) (λ k x w. tt)
