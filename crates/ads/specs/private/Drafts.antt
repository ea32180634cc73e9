-- The draft that is kept next to the accepted state while bytes are answered (this project's own).
use Rattle.std.specs.Prelude.{◌≡◌, ◌⊎◌, ℕ, ◌<◌, ◌^◌, Option, List, [], ◌∷◌, ◌++◌, length}
use Rattle.std.specs.String.{string_bytes}
use Rattle.proto_wire.specs.declared.refusal.Refusal.{Refusal}
use Rattle.xds_wire.specs.Frames.{frame_of}
use Rattle.xds_wire.specs.Discovery.{RequestMessage, ResponseMessage, IsResponse, ResponseFault}
use Rattle.xds_wire.specs.Written.{RequestWritten}
use Rattle.rbac_policy.specs.declared.filter.Admitted.{Admitted}
use Rattle.ads.specs.Config.{ConfigValue}
use Rattle.ads.specs.Answer.{Accepted, AdmittedValue, replaced}
use Rattle.ads.specs.Judgements.{IsJudgedAs}
use Rattle.ads.specs.declared.ended.Ended.{Ended}
use Rattle.ads.specs.declared.ended.Ended.TheVariants as ended
use Rattle.ads.specs.declared.judgement.Judgement.{Judgement}
use Rattle.ads.specs.Views.{policies_view}
use Rattle.ads.specs.declared.accepted.Draft.{Draft}

-- the accepted state that the draft makes, if these are the old policies
abbrev pub draft_view : List (Option AdmittedValue) → Draft → Accepted
draft_view old draft = record {
  version = string_bytes draft.version;
  policies = replaced old (policies_view draft.given.items);
  generation = draft.generation;
}

-- the list is empty, or has an entry for each of n filters
abbrev pub Covers : ℕ → List (Option Admitted) → Type 0
Covers n given = (length given ≡ 0) ⊎ (length given ≡ n)

-- the frame of the request is appended
abbrev pub AddsFrame : RequestMessage → List ℕ → List ℕ → Type 0
AddsFrame request before after =
    (message : List ℕ) × RequestWritten request message × (length message < 2 ^ 32)
    × (after ≡ before ++ frame_of message)

-- the judgement of a response and its answer are appended to the draft
abbrev pub AddsJudgement : ConfigValue → ResponseMessage → List (Option AdmittedValue) → Draft → Draft → Type 0
AddsJudgement c response old before after = (reply : RequestMessage) × (j : Judgement)
    × IsJudgedAs c response (draft_view old before) j reply (draft_view old after)
    × AddsFrame reply before.replies.items after.replies.items
    × (after.judgements.items ≡ before.judgements.items ++ j ∷ [])

-- the message is not a response, for this reason: nothing is appended or accepted
abbrev pub IsNoResponse : List (Option AdmittedValue) → List ℕ → Draft → Draft → Ended → Type 0
IsNoResponse old message before after reason = (e : Refusal) × ResponseFault message e
    × (reason ≡ ended.BadMessage e) × (after.replies.items ≡ before.replies.items) × (after.judgements.items ≡ before.judgements.items)
    × (draft_view old after ≡ draft_view old before)

-- the message is a response, which is judged, and its answer is appended
abbrev pub IsAnswered : ConfigValue → List (Option AdmittedValue) → List ℕ → Draft → Draft → Type 0
IsAnswered c old message before after = (response : ResponseMessage) × IsResponse message response
    × AddsJudgement c response old before after
