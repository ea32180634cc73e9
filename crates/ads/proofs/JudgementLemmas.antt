-- What is reported of a response is how it is answered.
use Rattle.std.proofs.Common.{◌≡◌, ◌⊎◌, inl, inr, refl, sym, ap, ◌∙◌, ℕ, ◌+◌, ◌-◌, ◌^◌, Bool, true, false, Option, Some, None, List, [], ◌∷◌, ◌++◌, map}
use Rattle.std.specs.Prelude.{is_some, min}
use Rattle.std.specs.String.{string_bytes}
use Rattle.std.specs.declared.alloc.Global.{Global}
use Rattle.std.specs.declared.vec.Vec.{Vec}
use Rattle.proto_wire.specs.declared.placed.Fault.{Fault as Placed}
use Rattle.proto_wire.specs.declared.refusal.Refusal.{Refusal}
use Rattle.rbac_policy.specs.declared.filter.Admitted.{Admitted}
use Rattle.xds_wire.specs.Discovery.{RequestMessage, ResponseMessage}
use Rattle.ads.specs.Answer.{Accepted, Accepts, Answers, IsAdmitting, Refuses, ack, ack_of, bad_resource, nack_of, replaced}
use Rattle.ads.specs.Client.{AreAnswered, accepted_by}
use Rattle.ads.specs.Config.{ConfigValue}
use Rattle.ads.specs.Judgements.{AreJudged, HasOutcome, IsJudgedAs, IsRefusedAs}
use Rattle.ads.specs.Views.{policies_view}
use Rattle.ads.specs.declared.ended.Ended.{Ended}
use Rattle.ads.specs.declared.judgement.Judgement.{Judgement}
use Rattle.ads.specs.declared.judgement.ResponseOutcome.{ResponseOutcome}
use Rattle.ads.specs.declared.judgement.ResponseOutcome.TheVariants as outcomes
use Rattle.ads.specs.declared.judgement.Refused.{Refused}
use Rattle.ads.specs.declared.judging.Judged.TheVariants as judged
use Rattle.ads.specs.declared.refused.RefusalCause.{RefusalCause}
use Rattle.ads.specs.private.Taking.{IsJudged}
use Rattle.ads.proofs.AnswerLemmas.{refused_answer}
use Rattle.ads.proofs.JudgedLemmas.{refused_by}

-- what is refused so is wrong, or memory ran out while a filter was admitted
refused_so : (c : ConfigValue) (response : ResponseMessage) (fault : Placed) (filter : Option ℕ) (bytes : List ℕ)
    → IsRefusedAs c response fault filter bytes
    → ((fault.refusal ≡ Refusal.Memory) × IsAdmitting c response) ⊎ Refuses c response fault.refusal
refused_so c response fault None bytes (inl (other, is), none) = inr (Refuses.wrong_type other is)
refused_so c response fault None bytes (inr resource, none) = inr (bad_resource resource)
refused_so c response fault (Some place) bytes is = refused_by c response place fault bytes is

-- a response is answered as it is judged
answers_of : (c : ConfigValue) (response : ResponseMessage) (old new : Accepted) (outcome : ResponseOutcome)
    (reply : RequestMessage) → HasOutcome c response old outcome reply new → Answers c response old reply new
answers_of c response old new (outcomes.Accepted given) reply (accepts, reported, same) = ack accepts same
answers_of c response old new (outcomes.Refused r) reply (why, stays, same) =
    rw (stays, same) (refused_answer c response old r.fault.refusal
    (refused_so c response r.fault r.filter r.message.items why))

-- the messages are answered as they are judged
pub judged_answered : (c : ConfigValue) (old : Accepted) (ms : List (List ℕ)) (js : List Judgement) (replies : List ℕ)
    (new : Accepted) (reason : Option Ended) → AreJudged c old ms js replies new reason
    → (versions : List (List ℕ)) × AreAnswered c old ms replies versions new (is_some reason)
judged_answered c old [] js replies new reason (none, empty, same, goes) =
    ([], (empty, refl, same, ap (λ (o : Option Ended). is_some o) goes))
judged_answered c old (m ∷ ms) js replies new reason (inl ((e, fault, is), none, empty, same)) =
    ([], inl ((e, fault), empty, refl, same, ap (λ (o : Option Ended). is_some o) is))
judged_answered c old (m ∷ ms) js replies new reason
    (inr (response, j, reply, next, later, more, reads, is, reported, frame, others)) =
    let rest = judged_answered c next ms later more new reason others in (
      accepted_by reply ++ rest.0,
      inr (
        response,
        reply,
        next,
        more,
        rest.0,
        reads,
        answers_of c response old next j.outcome reply is.outcome,
        frame,
        refl,
        rest.1,
      ),
    )

-- which filters are given policies
given_views : (xs : List (Option Admitted)) → map is_some xs ≡ map is_some (policies_view xs)
given_views [] = refl
given_views (None ∷ xs) = ap (λ ys. false ∷ ys) (given_views xs)
given_views (Some a ∷ xs) = ap (λ ys. true ∷ ys) (given_views xs)

-- a response that gives policies is judged as accepted
pub accepted_as : (c : ConfigValue) (response : ResponseMessage) (old new : Accepted) (j : Judgement)
    (given : Vec (Option Admitted) Global) (filters : Vec Bool Global)
    → IsJudged c response (judged.Given given) → string_bytes j.version ≡ response.version_info
    → string_bytes j.nonce ≡ response.nonce → j.outcome ≡ outcomes.Accepted filters
    → filters.items ≡ map is_some given.items
    → new.policies ≡ replaced old.policies (policies_view given.items) → new.version ≡ response.version_info
    → new.generation ≡ min (old.generation + 1) (2 ^ 64 - 1)
    → IsJudgedAs c response old j (ack_of c response) new
accepted_as c response old new j given filters (type_url, extensions, reads, gives) version nonce outcome reported policies
    accepted generation =
    let accepts : Accepts c response old new = record {
      extensions = extensions;
      given = policies_view given.items;
      type_url = type_url;
      reads = reads;
      gives = gives;
      policies = policies;
      version = accepted;
      generation = generation;
    } in
    let has : HasOutcome c response old (outcomes.Accepted filters) (ack_of c response) new =
    (accepts, reported ∙ given_views given.items, refl) in
    record { version = version; nonce = nonce; outcome = rw outcome has }

-- a response that is refused is judged as refused, with the same fault
pub refused_as : (c : ConfigValue) (response : ResponseMessage) (old new : Accepted) (j : Judgement) (r : Refused)
    (refusing : RefusalCause) → IsJudged c response (judged.Refused refusing)
    → string_bytes j.version ≡ response.version_info → string_bytes j.nonce ≡ response.nonce
    → j.outcome ≡ outcomes.Refused r
    → (r.fault ≡ refusing.fault) × (r.filter ≡ refusing.filter) × (r.message.items ≡ refusing.message.now)
    → new ≡ old → IsJudgedAs c response old j (nack_of c old response refusing.fault.refusal) new
refused_as c response old new j r refusing is version nonce outcome (fault, filter, message) stays =
    let why : IsRefusedAs c response r.fault r.filter r.message.items = rw (fault, filter, message) is in
    let has : HasOutcome c response old (outcomes.Refused r) (nack_of c old response refusing.fault.refusal) new =
    (why, stays, ap (λ (f : Placed). nack_of c old response f.refusal) (sym fault)) in
    record { version = version; nonce = nonce; outcome = rw outcome has }
