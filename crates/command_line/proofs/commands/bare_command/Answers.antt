use Rattle.std.proofs.Common.{◌≡◌, ◌∙◌, ap, true, codes}
use Rattle.clap.specs.Words.{app_of, new_app}
use Rattle.clap.specs.Simple.{app_of_fields, on_top}
use Rattle.command_line.proofs.commands.bare_command.Goals as goal

pub returns : goal.returns
returns c =
    let begun : app_of c.about.result ≡ new_app (codes "rbacd") = ap app_of_fields c.about.ensures
    ∙ c.new.ensures.app in
    let version = ap app_of_fields c.version.ensures
    ∙ ap (on_top (λ s. record s { has_version = true })) begun in
    let after = ap app_of_fields c.after_help.ensures ∙ version in
    let required = ap app_of_fields c.subcommand_required.ensures
    ∙ ap (on_top (λ s. record s { subcommand_required = true })) after in
    ap app_of_fields c.arg_required_else_help.ensures
    ∙ ap (on_top (λ s. record s { arg_required_else_help = true })) required
