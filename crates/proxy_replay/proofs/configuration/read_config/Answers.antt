-- Bytes that are no text, or no text of a configuration, are none.
use Rattle.std.proofs.Common.{◌≡◌, List, ℕ, Result, Ok, Err, IfErr, Some}
use Rattle.ads.specs.Config.{ConfigValue}
use Rattle.serde_json.specs.Data.{Data}
use Rattle.serde_json.specs.Read.{read}
use Rattle.proxy_replay.specs.Configuration.{IsConfig, IsConfigText}
use Rattle.proxy_replay.specs.declared.configuration.ConfigTextFault.{ConfigTextFault}
use Rattle.proxy_replay.specs.declared.configuration.ConfigTextFault.TheVariants.{Bad}
use Rattle.proxy_replay.proofs.configuration.read_config.Goals as goal

-- a text is the configuration of its one value
of_value : (text : List ℕ) (d : Data) (f : ConfigValue) → read text ≡ Some d → IsConfigText text f → IsConfig d f
of_value text d f is reported =
    let same : reported.1.0 ≡ d = cc (reported.1.1) in
    rw same at reported.1.2

-- what is no fault of the value is none of its text
fault_of_value : {C : Type 0} (r : Result C ConfigTextFault) (text : List ℕ) (d : Data) → read text ≡ Some d
    → IfErr r (λ e. e ≡ Bad → (f : ConfigValue) → ¬ IsConfig d f)
    → IfErr r (λ e. e ≡ Bad → (f : ConfigValue) → ¬ IsConfigText text f)
fault_of_value (Ok c) text d is fault = fault
fault_of_value (Err e) text d is fault = λ bad f reported. fault bad f (of_value text d f is reported)

pub returns-clause-fault : goal.returns-clause-fault
returns-clause-fault c = fault_of_value _ _ _ c.in_ok-value.ensures.ok.1 c.config_at.ensures.fault
