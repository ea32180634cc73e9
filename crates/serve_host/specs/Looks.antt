-- What a look at the file of a control plane changes (this project's own; docs/REFERENCE.md, "The admin port").
use Rattle.std.specs.Prelude.{ℕ}
use Rattle.serve_net.specs.declared.file.Look.{Look}
use Rattle.serve_net.specs.declared.file.Look.TheVariants as looks
use Rattle.serve_observe.specs.declared.control.ControlState.{ControlState}
use Rattle.serve_observe.specs.Control.{after_failed_look, after_good_look}

-- what is known of the control plane after a look at this time
abbrev pub after_look : Look → ℕ → ControlState → ControlState
after_look (looks.Failed cause) now c = after_failed_look now c
after_look looks.Works now c = after_good_look c
