use Rattle.std.proofs.Common.{Ok, List, ap, refl, map, ◌∙◌}
use Rattle.std.proofs.lemmas.Result.{err_from_is_err_and}
use Rattle.hpack.specs.Field.{line_of}
use Rattle.hpack.specs.declared.field.Field.{Field}
use Rattle.grpc_server.specs.private.Replying.{written, failed}
use Rattle.grpc_server.proofs.Replying.{wrote_nothing, heads_as}
use Rattle.grpc_server.proofs.reply.Reply.begin.Goals as goal

pub returns-in_err-fields : goal.returns-in_err-fields
returns-in_err-fields c =
    let fault = err_from_is_err_and c.from_residual.result c.from_residual.ensures.1 in
    failed fault.0 fault.1 refl (wrote_nothing c.args.server.now)

pub returns-in_err-answer : goal.returns-in_err-answer
returns-in_err-answer c =
    let fault = err_from_is_err_and c.from_residual-in_err-answer.result c.from_residual-in_err-answer.ensures.1 in
    failed fault.0 fault.1 refl c.in_err-answer.ensures.fault

pub returns-in-Written : goal.returns-in-Written
returns-in-Written c =
    let wrote = c.in_ok-answer.ensures.written (ap (λ a. Ok a) c.in-Written.is) in
    written wrote.0 refl
    (heads_as _ _ 4 _ _ wrote.0 refl (ap (λ (fs : List Field). map line_of fs) c.deref.ensures.value ∙ c.in_ok-fields.ensures) wrote.1)
    wrote.2 (refl, refl, refl) refl refl
