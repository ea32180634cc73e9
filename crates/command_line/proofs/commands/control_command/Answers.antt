use Rattle.std.proofs.Common.{◌≡◌, ◌∙◌, ap, ap₂, refl, codes, false}
use Rattle.std.proofs.lemmas.Result.{IfOk-weaker}
use Rattle.clap.specs.Words.{app_of, new_app, with_rule}
use Rattle.clap.specs.Simple.{app_of_fields}
use Rattle.clap.specs.declared.builder.command.Command.TheViews.{out-Command}
use Rattle.command_line.proofs.commands.control_command.Goals as goal

pub returns-clause-app : goal.returns-clause-app
returns-clause-app c =
    let begun : app_of c.about.result ≡ new_app (codes "control") = ap app_of_fields c.about.ensures
    ∙ c.new.ensures.app in
    let after = ap app_of_fields c.after_help.ensures ∙ begun in
    let first = c.in_ok-arg.ensures.shape c.listen_arg.ensures.local
    ∙ ap₂ with_rule after c.listen_arg.ensures.rule in
    let second = c.in_ok-arg-2.ensures.shape c.name_arg.ensures.local
    ∙ ap₂ with_rule first c.name_arg.ensures.rule in
    let third = c.in_ok-arg-3.ensures.shape c.files_arg.ensures.local
    ∙ ap₂ with_rule second c.files_arg.ensures.rule in
    let fourth = c.in_ok-arg-4.ensures.shape c.response_arg.ensures.local
    ∙ ap₂ with_rule third c.response_arg.ensures.rule in
    let fifth = c.in_ok-arg-5.ensures.shape c.log_arg.ensures.local
    ∙ ap₂ with_rule fourth c.log_arg.ensures.rule in
    IfOk-weaker c.arg-6.result _ _ (λ new adds. adds.shape c.grpc_arg.ensures.local
    ∙ ap₂ with_rule fifth c.grpc_arg.ensures.rule) c.arg-6.ensures

pub returns-clause-local : goal.returns-clause-local
returns-clause-local c =
    let about : (out-Command c.about.result).has_globals ≡ false =
    rw c.about.ensures c.new.ensures.local in
    let after : (out-Command c.after_help.result).has_globals ≡ false =
    rw c.after_help.ensures about in
    IfOk-weaker c.arg-6.result _ _
    (λ new adds. adds.globals
    ∙ rw (c.in_ok-arg-5.ensures.globals, c.in_ok-arg-4.ensures.globals, c.in_ok-arg-3.ensures.globals, c.in_ok-arg-2.ensures.globals, c.in_ok-arg.ensures.globals, after, c.listen_arg.ensures.local, c.name_arg.ensures.local, c.files_arg.ensures.local, c.response_arg.ensures.local, c.log_arg.ensures.local, c.grpc_arg.ensures.local) refl)
    c.arg-6.ensures
