-- The answers that a slot of the stack may hold (this project's machine).
use Rattle.cel_value.specs.Values.{CelAnswer, value, fails}
use Rattle.cel_value.specs.Types.{HasType}
use Rattle.machine_code.specs.Slots.{Slot, failing, of}

-- the slot may hold the answer
abbrev pub MayHold : Slot → CelAnswer → Type 0
MayHold a (fails e) = Unit {0}
MayHold (of t) (value v) = HasType v t
MayHold failing (value v) = ⊥
