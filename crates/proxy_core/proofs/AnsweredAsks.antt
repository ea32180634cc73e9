-- Asks are taken from a front one after the other, and answered.
use Rattle.std.proofs.Common.{◌≡◌, ◌<◌, ℕ, Option, Some, None, List, [], ◌∷◌, ◌++◌, map, refl, sym, ap, ◌∙◌, append_assoc, append-nil}
use Rattle.attributes.specs.Limits.{LimitsValue}
use Rattle.ads.specs.Answer.{Accepted}
use Rattle.http_front.specs.Answer.{answer_of, reply_view}
use Rattle.http_front.specs.Front.{FrontValue, TakesNext, fed_front, keeping}
use Rattle.http_front.specs.Heads.{Kept, TakesAll, size_of_kept}
use Rattle.http_front.specs.declared.ask.Ask.{Ask}
use Rattle.http_front.specs.declared.ask.Ask.TheVariants.{Judge, Fault}
use Rattle.http_front.proofs.Resuming.{judge_in_limits, takes_falls}
use Rattle.proxy_core.specs.Chain.{IsReplyTo}
use Rattle.proxy_core.specs.Step.{AreEnforced, AnswersAsks, AsksAsWritten, DecidesAsWritten, CompletesAsks, TakesBytes, AnswersBytes}
use Rattle.proxy_core.specs.declared.answered_ask.AnsweredAsk.{AnsweredAsk}
use Rattle.proxy_core.specs.private.Deciding.{AskInLimits}

-- what was reported is what is enforced
pub answered_enforced : (a : Accepted) (answered_asks : List AnsweredAsk) (bytes : List ℕ) → AnswersAsks a answered_asks bytes
    → AreEnforced a (map (λ t. t.ask) answered_asks) bytes
answered_enforced a [] bytes none = none
answered_enforced a (t ∷ answered_asks) bytes (more, is, whole, others) =
    (reply_view t.reply, more, is, whole, answered_enforced a answered_asks more others)

pub answers_takes : (a : Accepted) (front : FrontValue) (bytes : List ℕ) (answered_asks : List AnsweredAsk) (http : List ℕ)
    (after : Option FrontValue) → AnswersBytes a front bytes answered_asks http after → TakesBytes a front bytes http after
answers_takes a front bytes answered_asks http after (last, completes, all, which) =
    (map (λ t. t.ask) answered_asks, last, completes, answered_enforced a answered_asks http all, which)

answered_push : (a : Accepted) (answered_asks : List AnsweredAsk) (t : AnsweredAsk) (bytes : List ℕ) → AnswersAsks a answered_asks bytes
    → IsReplyTo DecidesAsWritten AsksAsWritten a t.ask (reply_view t.reply)
    → AnswersAsks a (answered_asks ++ t ∷ []) (bytes ++ answer_of (reply_view t.reply))
answered_push a [] t bytes none is = rw none ([], is, sym (append-nil (answer_of (reply_view t.reply))), refl)
answered_push a (x ∷ answered_asks) t bytes (more, first, whole, others) is = (
  more ++ answer_of (reply_view t.reply),
  first,
  ap (λ (b : List ℕ). b ++ answer_of (reply_view t.reply)) whole
      ∙ append_assoc (answer_of (reply_view x.reply)) more (answer_of (reply_view t.reply)),
  answered_push a answered_asks t more others is,
)

asks_more : (answered_asks : List AnsweredAsk) (t : AnsweredAsk) (more : List Ask)
    → map (λ s. s.ask) (answered_asks ++ t ∷ []) ++ more ≡ map (λ s. s.ask) answered_asks ++ t.ask ∷ more
asks_more [] t more = refl
asks_more (x ∷ answered_asks) t more = ap (λ (asks : List Ask). x.ask ∷ asks) (asks_more answered_asks t more)

-- what was read so far: a front behind bytes, and the asks that were taken, with their answers
pub record AnsweredSoFar (start : FrontValue) (bytes : List ℕ) (a : Accepted) (now : FrontValue) (out : List ℕ)
    (answered_asks : List AnsweredAsk) : Type 0 where
  pub same : now ≡ keeping start now.kept
  pub answered : AnswersAsks a answered_asks out
  pub takes : (more : List Ask) (end : Kept) → TakesAll start.limits start.facts now.kept more end
      → TakesAll start.limits start.facts (fed_front start bytes).kept (map (λ t. t.ask) answered_asks ++ more) end

module _ (start : FrontValue) (bytes : List ℕ) (a : Accepted) (now : FrontValue) (out : List ℕ) (answered_asks : List AnsweredAsk) where
  pub answered_none : now ≡ fed_front start bytes → out ≡ [] → answered_asks ≡ [] → AnsweredSoFar start bytes a now out answered_asks
  answered_none is none nothing = rw (is, none, nothing) (record { same = refl; answered = refl; takes = λ more end all. all })

  module _ (so_far : AnsweredSoFar start bytes a now out answered_asks) (next : FrontValue) where
    limits : now.limits ≡ start.limits
    limits = ap (λ (f : FrontValue). f.limits) so_far.same

    facts : now.facts ≡ start.facts
    facts = ap (λ (f : FrontValue). f.facts) so_far.same

    pub answered_more : (t : AnsweredAsk) (out' : List ℕ) (answered_asks' : List AnsweredAsk) → TakesNext now (Some t.ask) next
        → IsReplyTo DecidesAsWritten AsksAsWritten a t.ask (reply_view t.reply)
        → out' ≡ out ++ answer_of (reply_view t.reply) → answered_asks' ≡ answered_asks ++ t ∷ []
        → AnsweredSoFar start bytes a next out' answered_asks'
    answered_more t out' answered_asks' (takes, made) is put pushed = rw (put, pushed) (record {
      same = made ∙ ap (λ (f : FrontValue). keeping f next.kept) so_far.same;
      answered = answered_push a answered_asks t out so_far.answered is;
      takes = λ more end all. rw (asks_more answered_asks t more)
          (so_far.takes (t.ask ∷ more) end (next.kept, rw (limits, facts) at takes, all));
    })

    pub answered_all : TakesNext now None next
        → CompletesAsks start bytes (map (λ t. t.ask) answered_asks) next × AnswersAsks a answered_asks out
    answered_all (none, same) = (
      (
        rw same (rw (append-nil (map (λ t. t.ask) answered_asks)) at (so_far.takes [] now.kept refl)),
        rw same none,
        rw same so_far.same,
      ),
      so_far.answered,
    )

pub falls : (now next : FrontValue) (ask : Ask) → TakesNext now (Some ask) next
    → size_of_kept next.kept < size_of_kept now.kept
falls now next ask (takes, made) = takes_falls now.limits now.facts now.kept next.kept ask takes

pub in_limits : (limits : LimitsValue) (now next : FrontValue) (ask : Ask) → now.limits ≡ limits
    → TakesNext now (Some ask) next → AskInLimits limits ask
in_limits limits now next (Judge r closes) same (takes, made) =
    rw same at (judge_in_limits now.limits now.facts now.kept next.kept r closes takes)
in_limits limits now next (Fault fault) same takes = tt
