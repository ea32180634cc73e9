-- What the two ends of an update stream mean in the definitions (this project's own).
use Rattle.std.specs.String.{string_bytes}
use Rattle.ads.specs.Answer.{Accepted}
use Rattle.ads.specs.Client.{ClientValue}
use Rattle.ads.specs.Control.{ControlValue}
use Rattle.ads.specs.Views.{policies_view, served_view, snapshots_view}
use Rattle.ads.specs.declared.accepted.State.{State}
use Rattle.ads.specs.declared.client.Client.{Client}
use Rattle.ads.specs.declared.control.Control.{Control}

-- the accepted state that a `State` means
abbrev pub state_view : State → Accepted
state_view s = record {
  version = string_bytes s.version;
  policies = policies_view s.policies.items;
  generation = s.generation;
}

-- the client that a `Client` means
abbrev pub client_view : Client → ClientValue
client_view c = record {
  config = c.config;
  stream = c.stream;
  accepted = state_view c.accepted;
}

-- the control plane that a `Control` means
abbrev pub control_view : Control → ControlValue
control_view c = record {
  snapshots = snapshots_view c.snapshots.items;
  stream = c.stream;
  served = served_view c.served;
}
