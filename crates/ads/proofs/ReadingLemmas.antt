-- The faults of resources while they are read, and where memory may run out meanwhile.
use Rattle.std.proofs.Common.{◌≡◌, ◌≢◌, inl, inr, ap, ◌∙◌}
use Rattle.std.specs.Prelude.{Result, Err, IfErr, IsErrAnd}
use Rattle.std.proofs.lemmas.Result.{err_from_is_err_and}
use Rattle.proto_wire.specs.Refusal.{MemoryOr}
use Rattle.proto_wire.specs.declared.refusal.Refusal.{Refusal}
use Rattle.xds_wire.specs.Discovery.{AnyMessage, ResponseMessage}
use Rattle.ads.specs.Config.{ConfigValue}
use Rattle.ads.specs.Answer.{FirstOf, ResourceFault, extension_type, nameless, unreadable}
use Rattle.ads.specs.Judgements.{IsWrong}
use Rattle.ads.specs.declared.judging.Judged.TheVariants as judged
use Rattle.ads.specs.declared.refused.NotAccepted.{NotAccepted}
use Rattle.ads.specs.declared.refused.RefusalCause.{RefusalCause}
use Rattle.ads.specs.private.Taking.{IsJudged, IsWhole, IsWholeRefused, MatchNotAccepted, ReadFault, Reads, RunsOut, reading}
use Rattle.ads.proofs.JudgedLemmas.{not_accepted_weaker}
use Rattle.ads.proofs.Lists.{first_some, first_weaker, some_weaker}

-- a resource of the right type whose bytes were read, or not
pub read_faults : (any : AnyMessage) (F : Refusal → Type 0) (e : Refusal) → any.type_url ≡ extension_type
    → MemoryOr F e → ((d : Refusal) → F d → ResourceFault any d) → ReadFault any e
read_faults any F e same (inl memory) reported = inl (memory, same)
read_faults any F e same (inr bad) reported = inr (reported e bad)

-- at a `?` behind the test of the type
pub exit_read : (any : AnyMessage) (F : Refusal → Type 0) {T : Type 0} (r : Result T Refusal) (e : Refusal)
    → any.type_url ≡ extension_type → IsErrAnd r (λ y. y ≡ e) → MemoryOr F e
    → ((d : Refusal) → F d → ResourceFault any d) → IfErr r (ReadFault any)
exit_read any F r e same left fault reported =
    let p = err_from_is_err_and r left in
    rw (p.1, p.2) (read_faults any F e same fault reported)

-- a refusal other than `Memory` is a resource's fault
fault_only : (e : Refusal) → e ≢ Refusal.Memory → (any : AnyMessage) → ReadFault any e → ResourceFault any e
fault_only e other any (inl memory) = absurd (other memory.0)
fault_only e other any (inr fault) = fault

-- where `Memory` is the refusal, the type is right
right_type : (any : AnyMessage) → ReadFault any Refusal.Memory → any.type_url ≡ extension_type
right_type any (inl memory) = memory.1
right_type any (inr (ResourceFault.wrong_type other reported)) = absurd cc
right_type any (inr (unreadable same bad)) = same
right_type any (inr (nameless extension same reads empty reported)) = same

-- resources that do not read make the response wrong
pub resources_wrong : {T : Type 0} (response : ResponseMessage) (read apart : Result T Refusal)
    (e : Refusal) → apart ≡ read → apart ≢ Err Refusal.Memory → apart ≡ Err e
    → IfErr read (λ d. FirstOf Reads (λ any. ReadFault any d) response.resources) → IsWrong response e
resources_wrong response read apart e same other is fault =
    let first : FirstOf Reads (λ any. ReadFault any e) response.resources = rw (← same, is) at fault in
    inr (some_weaker _ _ (fault_only e (λ memory. other (is ∙ ap Err memory))) response.resources
    (first_some Reads _ response.resources first))

-- a response that is wrong is refused as wrong itself
wrong_refused : (c : ConfigValue) (response : ResponseMessage) (e : Refusal) → IsWrong response e → (r : RefusalCause)
    → IsWhole e r → IsJudged c response (judged.Refused r)
wrong_refused c response e wrong r (same, none, empty) = rw none (rw same wrong, empty)

-- at a `?` where a response is wrong
pub exit_wrong : {T : Type 0} (c : ConfigValue) (response : ResponseMessage) (e : Refusal) (r : Result T NotAccepted)
    → IsErrAnd r (IsWholeRefused e) → IsWrong response e
    → IfErr r (MatchNotAccepted (λ d. IsJudged c response (judged.Refused d)) (RunsOut c response))
exit_wrong c response e r left wrong =
    let p = err_from_is_err_and r left in
    rw p.1 (not_accepted_weaker (IsWhole e) (λ d. IsJudged c response (judged.Refused d)) ⊥ (RunsOut c response)
    (wrong_refused c response e wrong) (λ no. absurd no) p.0 p.2)

-- memory runs out while resources are read
pub runs_out_reading : {T : Type 0} (c : ConfigValue) (response : ResponseMessage) (read : Result T Refusal)
    → response.type_url ≡ extension_type → read ≡ Err Refusal.Memory
    → IfErr read (λ d. FirstOf Reads (λ any. ReadFault any d) response.resources) → RunsOut c response
runs_out_reading c response read same memory fault =
    let first : FirstOf Reads (λ any. ReadFault any Refusal.Memory) response.resources = rw memory at fault in
    reading same (first_weaker Reads _ _ right_type response.resources first)
