use Rattle.std.proofs.Common.{◌≡◌, ◌≤◌, ◌<◌, ℕ, List, [], ◌∷◌, Ok, ap, inl, refl, sym, ◌∙◌, length, map, arith, rules, subst}
use Rattle.std.proofs.lemmas.Result.{err_from_is_err_and}
use Rattle.hpack.specs.Field.{line_of}
use Rattle.hpack.specs.declared.field.Field.{Field}
use Rattle.http2.specs.Trail.{put}
use Rattle.http2.specs.declared.unary.UnaryServer.{UnaryServer}
use Rattle.grpc_server.specs.Messages.{ending}
use Rattle.grpc_server.specs.Replies.{IsHeld, whole, part, gone, failed}
use Rattle.grpc_server.specs.declared.message.StatusCode.{StatusCode}
use Rattle.grpc_server.proofs.Replying.{wrote_more, wrote_same, heads_as, says_of, stuck_of, held, over, over_by, all_of}
use Rattle.grpc_server.proofs.reply.Reply.go_on.Goals as goal

pub returns-in_err-say : goal.returns-in_err-say
returns-in_err-say c =
    let sends = c.say.ensures.sends in
    let fault = err_from_is_err_and c.from_residual.result c.from_residual.ensures.1 in
    failed sends.steps fault.0 fault.1 (says_of c.args.self.now c.say.new.self c.args.server.now c.say.new.server sends c.requires) sends.wrote

pub returns-then-is_due : goal.returns-then-is_due
returns-then-is_due c =
    let sends = c.say.ensures.sends in
    let less : c.say.new.self.at < length c.say.new.self.content.items = search rules in
    part sends.steps refl (says_of c.args.self.now c.say.new.self c.args.server.now c.say.new.server sends c.requires) sends.wrote
    (held c.args.self.now.stream c.say.new.self c.say.new.server (stuck_of c.say.new.self.at c.args.self.now.content.items
    c.say.new.self.content.items sends.same.1 less c.in_ok-say.ensures.all) sends.same.0 (sends.begun_same ∙ c.requires) less
    (sym c.if-is_due.ensures))

pub returns-else-is_due : goal.returns-else-is_due
returns-else-is_due c =
    let sends = c.say.ensures.sends in
    gone sends.steps refl (says_of c.args.self.now c.say.new.self c.args.server.now c.say.new.server sends c.requires) sends.wrote
    (over c.args.self.now.stream c.say.new.self.stream c.say.new.self.begun c.say.new.server sends.same.0 (sends.begun_same ∙ c.requires)
    (sym c.if-is_due.ensures))

pub returns-in_err-fields : goal.returns-in_err-fields
returns-in_err-fields c =
    let sends = c.say.ensures.sends in
    let fault = err_from_is_err_and c.from_residual-in_err-fields.result c.from_residual-in_err-fields.ensures.1 in
    failed sends.steps fault.0 fault.1 (says_of c.args.self.now c.say.new.self c.args.server.now c.say.new.server sends c.requires) sends.wrote

pub returns-in_err-finish : goal.returns-in_err-finish
returns-in_err-finish c =
    let sends = c.say.ensures.sends in
    let fault = err_from_is_err_and c.from_residual-in_err-finish.result c.from_residual-in_err-finish.ensures.1 in
    failed sends.steps fault.0 fault.1 (says_of c.args.self.now c.say.new.self c.args.server.now c.say.new.server sends c.requires)
    (wrote_more [] sends.steps c.args.server.now c.say.new.server c.finish.new.self sends.wrote c.in_err-finish.ensures.fault)

pub returns-in-Written : goal.returns-in-Written
returns-in-Written c =
    let sends = c.say.ensures.sends in
    let wrote = c.in_ok-finish.ensures.written (ap (λ a. Ok a) c.in-Written.is) in
    let end : length c.say.new.self.content.items ≤ c.say.new.self.at = search rules in
    let long : length c.say.new.self.content.items ≡ length c.args.self.now.content.items = ap (λ (l : List ℕ). length l) sends.same.1 in
    whole sends.steps wrote.0 refl (says_of c.args.self.now c.say.new.self c.args.server.now c.say.new.server sends c.requires)
    (sends.begun_same ∙ c.requires) (all_of c.say.new.self.at c.args.self.now.content.items (omega (arith, end, long)))
    (heads_as _ _ 5 _ _ wrote.0 sends.same.0 (ap (λ (fs : List Field). map line_of fs) c.deref.ensures.value ∙ c.in_ok-fields.ensures
    ∙ ap (λ (k : StatusCode). ending k) sends.same.2) wrote.1)
    (wrote_more (put wrote.0 ∷ []) sends.steps c.args.server.now c.say.new.server c.finish.new.self sends.wrote wrote.2)

pub returns-in-Waits : goal.returns-in-Waits
returns-in-Waits c =
    let sends = c.say.ensures.sends in
    let waits = c.in_ok-finish.ensures.waits (ap (λ a. Ok a) c.in-Waits.is) in
    part sends.steps refl (says_of c.args.self.now c.say.new.self c.args.server.now c.say.new.server sends c.requires)
    (wrote_more [] sends.steps c.args.server.now c.say.new.server c.finish.new.self sends.wrote
    (wrote_same c.say.new.server c.finish.new.self waits.0))
    (subst (λ (u : UnaryServer). IsHeld c.say.new.self u) (sym waits.0) (inl waits.1))

pub returns : goal.returns
returns c =
    let sends = c.say.ensures.sends in
    let over_is = c.in_ok-finish.ensures.gone (ap (λ a. Ok a) c.in-Gone.is) in
    gone sends.steps refl (says_of c.args.self.now c.say.new.self c.args.server.now c.say.new.server sends c.requires)
    (wrote_more [] sends.steps c.args.server.now c.say.new.server c.finish.new.self sends.wrote
    (wrote_same c.say.new.server c.finish.new.self over_is.0))
    (over_by c.args.self.now.stream c.say.new.self.stream c.say.new.self.begun c.say.new.server c.finish.new.self sends.same.0
    (sends.begun_same ∙ c.requires) over_is.0 over_is.1)
