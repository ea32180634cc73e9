use Rattle.std.proofs.Common.{◌≡◌, length, List, Option}
use Rattle.ads.specs.Answer.{AdmittedValue}
use Rattle.ads.specs.private.Drafts.{Covers, draft_view}
use Rattle.ads.proofs.AnswerLemmas.{GoesOn}
use Rattle.ads.proofs.answer.answer_all.Given as goal

abbrev pub invariant-loop-message : goal.invariant-loop-message
invariant-loop-message l =
    Covers (length l.config.filters) l.draft.given.items
    × (l.frames.max ≡ l.initial.frames.max) × (l.frames.tail ≡ l.initial.frames.tail)
    × ((old : List (Option AdmittedValue)) → GoesOn l.config (draft_view old l.initial.draft) l.initial.frames.messages
    l.initial.draft.replies.items l.initial.draft.judgements.items (draft_view old l.draft) l.frames.messages
    l.draft.replies.items l.draft.judgements.items)

abbrev pub decreases-loop-message : goal.decreases-loop-message
decreases-loop-message l = length l.frames.messages
