use Rattle.std.proofs.Common.{◌∙◌, ap, ap₂}
use Rattle.std.proofs.lemmas.Result.{IfOk-weaker}
use Rattle.clap.specs.Words.{App, with_subcommand}
use Rattle.command_line.proofs.commands.command.Goals as goal

pub returns : goal.returns
returns c =
    let step_1 = c.in_ok-command.ensures.shape c.in_ok-check_command.ensures.local
    ∙ ap₂ with_subcommand c.bare_command.ensures (ap (λ (a : App). a.top) c.in_ok-check_command.ensures.app) in
    let step_2 = c.in_ok-command-2.ensures.shape c.in_ok-judge_command.ensures.local
    ∙ ap₂ with_subcommand step_1 (ap (λ (a : App). a.top) c.in_ok-judge_command.ensures.app) in
    let step_3 = c.in_ok-command-3.ensures.shape c.in_ok-check_config_command.ensures.local
    ∙ ap₂ with_subcommand step_2 (ap (λ (a : App). a.top) c.in_ok-check_config_command.ensures.app) in
    let step_4 = c.in_ok-command-4.ensures.shape c.in_ok-replay_command.ensures.local
    ∙ ap₂ with_subcommand step_3 (ap (λ (a : App). a.top) c.in_ok-replay_command.ensures.app) in
    let step_5 = c.in_ok-command-5.ensures.shape c.in_ok-control_command.ensures.local
    ∙ ap₂ with_subcommand step_4 (ap (λ (a : App). a.top) c.in_ok-control_command.ensures.app) in
    let step_6 = c.in_ok-command-6.ensures.shape c.in_ok-proxy_command.ensures.local
    ∙ ap₂ with_subcommand step_5 (ap (λ (a : App). a.top) c.in_ok-proxy_command.ensures.app) in
    IfOk-weaker c.subcommand-7.result _ _
    (λ new adds. adds.shape c.in_ok-serve_command.ensures.local
    ∙ ap₂ with_subcommand step_6 (ap (λ (a : App). a.top) c.in_ok-serve_command.ensures.app))
    c.subcommand-7.ensures
