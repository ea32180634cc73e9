use Rattle.std.proofs.Common.{refl}
use Rattle.xds_wire.specs.View.{response_view}
use Rattle.ads.specs.Answer.{nack_of}
use Rattle.ads.specs.private.Drafts.{draft_view}
use Rattle.ads.proofs.JudgementLemmas.{refused_as}
use Rattle.ads.proofs.answer.refuse.Goals as goal

pub returns-clause-answered : goal.returns-clause-answered
returns-clause-answered c old = (
  nack_of c.args.config.now (draft_view old c.args.draft.now) (response_view c.args.response.now)
      c.args.refusing.now.fault.refusal,
  c.in_ok-judgement.judgement,
  refused_as c.args.config.now (response_view c.args.response.now) (draft_view old c.args.draft.now) _
      c.in_ok-judgement.judgement c.in_ok-refused_of.field-0 c.args.refusing.now c.requires
      c.in_ok-judgement.ensures.version c.in_ok-judgement.ensures.nonce c.in_ok-judgement.ensures.outcome
      c.in_ok-refused_of.ensures refl,
  rw c.deref.ensures at c.in_ok-put_nack.ensures,
  c.in_ok-push.ensures.items,
)
