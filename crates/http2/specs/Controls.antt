-- A control of the code, as the definitions see it.
use Rattle.http2.specs.declared.control.Control.{Control}
use Rattle.http2.specs.Control.{ControlValue}
use Rattle.http2.specs.Message.{Told}
use Rattle.http2.specs.declared.message.Message.{Message}

-- the message that one of the code means
abbrev pub told_view : Message → Told
told_view m = record { text = m.text.items; cut = m.cut }

-- the control that one of the code means
abbrev pub control_view : Control → ControlValue
control_view c = record {
  stage = c.stage;
  unfinished = c.unfinished;
  block = c.block.items;
  weight = c.weight;
  table = c.decoder.table;
  left = c.left;
  told = told_view c.told;
}
