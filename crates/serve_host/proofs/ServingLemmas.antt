-- A server by settings: the headline by what it is set up with holds of the wire.
use Rattle.std.proofs.Common.{◌≡◌, List, sym, subst}
use Rattle.std.proofs.Math.Logic.{∥∥₁_elim, ∥∥₁_prop}
use Rattle.ads.specs.Config.{ConfigValue}
use Rattle.serve_config.specs.declared.config.ServeConfig.{ServeConfig}
use Rattle.serve_loop.specs.Law.{ArePlaced, Belong}
use Rattle.serve_core.specs.MappedHeadline.{SettingsHeadline}
use Rattle.serve_core.specs.Served.{served_setup, served_turns}
use Rattle.serve_core.specs.Setups.{IsSetupBy, SetupValue}
use Rattle.serve_core.specs.Turns.{ServerEvent, ServerStep}
use Rattle.serve_core.specs.declared.served.Served.{Served}
use Rattle.serve_core.proofs.MappedWire.{served_headline}

pub headline_of : (c : ConfigValue) (settings : ServeConfig) (first last : Served) (wire : List ServerStep)
    (seen : List ServerEvent) → IsSetupBy c settings (served_setup first) → served_setup last ≡ served_setup first
    → ∥ Belong wire (served_turns last) seen ∥₁ → ∥ ArePlaced (served_setup last).places wire ∥₁
    → SettingsHeadline c settings wire
headline_of c settings first last wire seen set_up same belongs placed = record {
  setup = served_setup last;
  set_up = subst (λ (setup : SetupValue). IsSetupBy c settings setup) (sym same) set_up;
  placed = placed;
  headline = ∥∥₁_elim belongs ∥∥₁_prop (served_headline last wire seen);
}
