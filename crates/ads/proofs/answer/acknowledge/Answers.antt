use Rattle.std.proofs.Common.{◌≡◌, ◌∙◌, sym, inr, inl, length}
use Rattle.std.specs.Prelude.{vec_len}
use Rattle.xds_wire.specs.View.{response_view}
use Rattle.ads.specs.Answer.{ack_of}
use Rattle.ads.specs.private.Drafts.{draft_view}
use Rattle.ads.specs.private.Taking.{IsJudged}
use Rattle.ads.specs.declared.judging.Judged.TheVariants as judged
use Rattle.ads.proofs.AnswerLemmas.{given_length}
use Rattle.ads.proofs.JudgementLemmas.{accepted_as}
use Rattle.ads.proofs.answer.acknowledge.Goals as goal

pub accept-requires : goal.accept-requires
accept-requires c =
    let is : IsJudged c.args.config.now (response_view c.args.response.now) (judged.Given c.args.given) =
    c.requires.judged in
    let same : vec_len c.args.given ≡ length c.args.config.now.filters =
    c.args.given.ok.0 ∙ given_length _ c.args.config.now.filters c.args.given.items is.3 in
    elim c.requires.covers [ inl none ↦ inl none | inr all ↦ inr (all ∙ sym same) ]

pub returns-clause-answered : goal.returns-clause-answered
returns-clause-answered c old = (
  ack_of c.args.config.now (response_view c.args.response.now),
  c.in_ok-judgement.judgement,
  accepted_as c.args.config.now (response_view c.args.response.now) (draft_view old c.args.draft.now)
      (draft_view old c.accept.new.self) c.in_ok-judgement.judgement c.args.given c.in_ok-filters_given.field-0
      c.requires.judged c.in_ok-judgement.ensures.version c.in_ok-judgement.ensures.nonce
      c.in_ok-judgement.ensures.outcome (rw c.deref.ensures.value at c.in_ok-filters_given.ensures)
      (c.accept.ensures.policies old) (c.accept.ensures.version ∙ c.in_ok-version.ensures.ok)
      c.accept.ensures.generation,
  rw c.accept.ensures.replies c.in_ok-put_ack.ensures,
  c.accept.ensures.judgements ∙ c.in_ok-push.ensures.items,
)

pub returns-clause-covers : goal.returns-clause-covers
returns-clause-covers c =
    let is : IsJudged c.args.config.now (response_view c.args.response.now) (judged.Given c.args.given) =
    c.requires.judged in
    inr (sym c.accept.new.self.given.ok.0 ∙ c.accept.ensures.length ∙ c.args.given.ok.0
    ∙ given_length _ c.args.config.now.filters c.args.given.items is.3)
