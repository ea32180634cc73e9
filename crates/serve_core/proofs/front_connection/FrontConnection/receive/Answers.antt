-- Each ask is answered once, in order.
use Rattle.std.proofs.Common.{◌∙◌, ap, refl}
use Rattle.http_front.specs.Answer.{ReplyValue, answer_of}
use Rattle.http_front.specs.Front.{FrontValue, fed_front}
use Rattle.serve_core.specs.ClientRequests.{rule_view}
use Rattle.serve_core.specs.Cores.{core_view}
use Rattle.serve_core.specs.Fronts.{framed}
use Rattle.proxy_core.proofs.AnsweredAsks.{falls}
use Rattle.serve_core.proofs.Clients.{only_then}
use Rattle.serve_core.proofs.Reading.{read_all, read_kept, read_more, read_none}
use Rattle.serve_core.proofs.front_connection.FrontConnection.receive.Goals as goal

pub answering-init : goal.answering-init
answering-init c =
    read_none (rule_view c.args.at.rule) c.args.at.place c.args.self.now c.args.bytes.now (core_view c.args.core.now)
    c.args.answers.now.items _ _ _ (c.in_ok-feed.ensures.found ∙ ap (λ (f : FrontValue). fed_front f c.args.bytes.now)
    ((rw c.if-branch.false at c.in_ok-keeps.ensures.left) refl)) refl refl refl

pub answering-smaller-in_ok-push : goal.answering-smaller-in_ok-push
answering-smaller-in_ok-push c = falls c.answering.self.front c.next_ask.new.self.front c.in-Some.ask
    (rw c.in-Some.is at c.in_ok-ask.ensures.next)

pub answering-preserved : goal.answering-preserved
answering-preserved c =
    let rule = rule_view c.args.at.rule in
    let k = c.args.at.place in
    let now = c.answering.self in
    let ask = c.in-Some.ask in
    read_more rule k c.args.self.now c.args.bytes.now (core_view c.args.core.now) c.args.answers.now.items now
    (core_view c.answering.core) c.answering.answers.items c.answering.invariant ask _ (core_view c.answer.new.core)
    c.in_ok-answer.answer _ _ _ (rw c.in-Some.is at c.in_ok-ask.ensures.next)
    (c.in_ok-answer.ensures.found now.front.facts now.front.kept (rw c.in-Some.is at c.in_ok-ask.ensures.lines))
    c.answer.ensures.only c.next_ask.ensures.outbox
    (c.in_ok-answer-2.ensures ∙ ap (λ (r : ReplyValue). answer_of r)
    (c.in_ok-reply.ensures ∙ ap (λ (r : ReplyValue). framed ask r) c.reply.ensures))
    c.in_ok-add.ensures.whole c.in_ok-push.ensures.items

pub answering-preserved-in_ok-push : goal.answering-preserved-in_ok-push
answering-preserved-in_ok-push c =
    let rule = rule_view c.args.at.rule in
    let k = c.args.at.place in
    let now = c.answering.self in
    let ask = c.in-Some.ask in
    read_more rule k c.args.self.now c.args.bytes.now (core_view c.args.core.now) c.args.answers.now.items now
    (core_view c.answering.core) c.answering.answers.items c.answering.invariant ask _ (core_view c.answer.new.core)
    c.in_ok-answer.answer _ _ _ (rw c.in-Some.is at c.in_ok-ask.ensures.next)
    (c.in_ok-answer.ensures.found now.front.facts now.front.kept (rw c.in-Some.is at c.in_ok-ask.ensures.lines))
    c.answer.ensures.only c.next_ask.ensures.outbox
    (c.in_ok-answer-2.ensures ∙ ap (λ (r : ReplyValue). answer_of r)
    (c.in_ok-reply.ensures ∙ ap (λ (r : ReplyValue). framed ask r) c.reply.ensures))
    c.in_ok-add.ensures.whole c.in_ok-push.ensures.items

pub returns-in_err-answer-clause-only : goal.returns-in_err-answer-clause-only
returns-in_err-answer-clause-only c =
    only_then c.args.at.place (core_view c.args.core.now) (core_view c.answering.core) (core_view c.answer.new.core)
    c.answering.invariant.only c.answer.ensures.only

pub returns-in_err-reply-clause-only : goal.returns-in_err-reply-clause-only
returns-in_err-reply-clause-only c =
    only_then c.args.at.place (core_view c.args.core.now) (core_view c.answering.core) (core_view c.answer.new.core)
    c.answering.invariant.only c.answer.ensures.only

pub returns-in_err-answer-2-clause-only : goal.returns-in_err-answer-2-clause-only
returns-in_err-answer-2-clause-only c =
    only_then c.args.at.place (core_view c.args.core.now) (core_view c.answering.core) (core_view c.answer.new.core)
    c.answering.invariant.only c.answer.ensures.only

pub returns-in_err-add-clause-only : goal.returns-in_err-add-clause-only
returns-in_err-add-clause-only c =
    only_then c.args.at.place (core_view c.args.core.now) (core_view c.answering.core) (core_view c.answer.new.core)
    c.answering.invariant.only c.answer.ensures.only

pub returns-in_err-push-clause-only : goal.returns-in_err-push-clause-only
returns-in_err-push-clause-only c =
    only_then c.args.at.place (core_view c.args.core.now) (core_view c.answering.core) (core_view c.answer.new.core)
    c.answering.invariant.only c.answer.ensures.only

pub returns-clause-found : goal.returns-clause-found
returns-clause-found c =
    read_all (rule_view c.args.at.rule) c.args.at.place c.args.self.now c.args.bytes.now (core_view c.args.core.now)
    c.args.answers.now.items c.answering.self (core_view c.answering.core) c.answering.answers.items c.answering.invariant
    c.next_ask.new.self (rw c.in_default.is at c.in_ok-ask.ensures.next) c.next_ask.ensures.outbox

pub returns-then-branch-clause-found : goal.returns-then-branch-clause-found
returns-then-branch-clause-found c =
    let (kept, none) = (rw c.if-branch.true at c.in_ok-keeps.ensures.kept) refl in
    read_kept (rule_view c.args.at.rule) c.args.at.place c.args.self.now _ c.args.bytes.now (core_view c.args.core.now)
    c.args.answers.now.items _ kept none refl refl
