-- The answers to messages, one after the other.
use Rattle.std.proofs.Common.{◌≡◌, ◌≢◌, ◌⊎◌, inl, inr, ℕ, Bool, true, false, List, [], ◌∷◌, ◌++◌, not, true≢false, Option, Some, None, length, suc, refl, ap, sym, ◌∙◌, append_assoc, append-nil, option_map}
use Rattle.std.specs.Prelude.{Result, Ok, Err, IfErr, IfOk, OnOk, MatchBool, MatchOption}
use Rattle.std.specs.List.{AllZip}
use Rattle.std.proofs.lemmas.List.{length-map}
use Rattle.proto_wire.specs.Refusal.{MemoryOr}
use Rattle.proto_wire.specs.declared.refusal.Refusal.{Refusal}
use Rattle.xds_wire.specs.Frames.{frame_of}
use Rattle.xds_wire.specs.Discovery.{RequestMessage, ResponseMessage, StatusMessage}
use Rattle.ads.specs.Answer.{AdmittedValue}
use Rattle.ads.specs.Views.{admitted_view}
use Rattle.rbac_policy.specs.declared.filter.Admitted.{Admitted}
use Rattle.ads.specs.Config.{ConfigValue, FilterValue}
use Rattle.ads.specs.Answer.{Accepted, Answers, IsAdmitting, nack, no_memory, Refuses, nack_of, request_of, replaced}
use Rattle.ads.specs.Judgements.{AreJudged}
use Rattle.ads.specs.declared.accepted.Draft.{Draft}
use Rattle.ads.specs.declared.ended.Ended.{Ended}
use Rattle.ads.specs.declared.judgement.Judgement.{Judgement}
use Rattle.ads.specs.Views.{policies_view}
use Rattle.ads.proofs.PlaceLemmas.{replaced_nothing}
use Rattle.ads.specs.private.Drafts.{IsAnswered, IsNoResponse, draft_view}

-- a fault other than out of memory
pub not_memory : (F : Refusal → Type 0) (e : Refusal) → MemoryOr F e → e ≢ Refusal.Memory → F e
not_memory F e (inl memory) not = absurd (not memory)
not_memory F e (inr fault) not = fault

-- what was read, apart from out of memory
pub read_found : {T : Type 0} (P : T → Type 0) (read apart : Result T Refusal) (x : T) → apart ≡ read → apart ≡ Ok x
    → IfOk read P → P x
read_found P read apart x same is found = rw (← same, is) at found

-- what was refused, apart from out of memory
pub read_fault : {T : Type 0} (F : Refusal → Type 0) (read apart : Result T Refusal) (e : Refusal) → apart ≡ read
    → apart ≢ Err Refusal.Memory → apart ≡ Err e → IfErr read (MemoryOr F) → F e
read_fault F read apart e same other is fault =
    not_memory F e (rw (← same, is) at fault) (λ memory. other (is ∙ ap Err memory))

pub zip_length : {A B : Type 0} (R : A → B → Type 0) (xs : List A) (ys : List B) → AllZip R xs ys
    → length xs ≡ length ys
zip_length R [] [] all = refl
zip_length R [] (y ∷ ys) all = absurd all
zip_length R (x ∷ xs) [] all = absurd all
zip_length R (x ∷ xs) (y ∷ ys) (first, all) = ap (λ n. suc n) (zip_length R xs ys all)

-- what is given for each filter covers the filters
pub given_length : (R : FilterValue → Option AdmittedValue → Type 0) (fs : List FilterValue) (given : List (Option Admitted))
    → AllZip R fs (policies_view given) → length given ≡ length fs
given_length R fs given all =
    sym (length-map given (option_map admitted_view)) ∙ sym (zip_length R fs (policies_view given) all)

-- the answer to a response that is refused
pub refused_answer : (c : ConfigValue) (response : ResponseMessage) (accepted : Accepted) (e : Refusal)
    → ((e ≡ Refusal.Memory) × IsAdmitting c response) ⊎ Refuses c response e
    → Answers c response accepted (nack_of c accepted response e) accepted
refused_answer c response accepted e (inl (memory, admitting)) = rw memory (no_memory admitting refl refl)
refused_answer c response accepted e (inr fault) = nack e fault refl refl

pub on_ok_weaker : {E : Type 0} (r : Result (Unit {0}) E) (P Q : Type 0) → (P → Q) → OnOk r P → OnOk r Q
on_ok_weaker (Ok x) P Q weaker p = weaker p
on_ok_weaker (Err e) P Q weaker p = tt

-- what holds of the answers so far: whatever the other messages are answered, all are answered so
abbrev pub GoesOn : ConfigValue → Accepted → List (List ℕ) → List ℕ → List Judgement → Accepted → List (List ℕ)
    → List ℕ → List Judgement → Type 0
GoesOn c start all before reported now rest after later =
    (done : List ℕ) × (judged : List Judgement) × (after ≡ before ++ done) × (later ≡ reported ++ judged)
    × ((more : List Judgement) (others : List ℕ) (new : Accepted) (reason : Option Ended)
    → AreJudged c now rest more others new reason
    → AreJudged c start all (judged ++ more) (done ++ others) new reason)

module _ (c : ConfigValue) (start : Accepted) (all : List (List ℕ)) (before : List ℕ) (reported : List Judgement) where
  pub goes_on_from : GoesOn c start all before reported start all before reported
  goes_on_from = ([], [], sym (append-nil before), sym (append-nil reported), λ more others new reason is. is)

  -- the judgements and the answers of all messages
  abbrev pub AllJudged : Accepted → Draft → Option Ended → Type 0
  AllJudged new draft reason = (judgements : List Judgement) × (replies : List ℕ)
      × AreJudged c start all judgements replies new reason × (draft.judgements.items ≡ reported ++ judgements)
      × (draft.replies.items ≡ before ++ replies)

  module _ (old : List (Option AdmittedValue)) (now : Draft) where
    -- what holds of the answers so far, as the draft has them
    abbrev SoFar : List (List ℕ) → Draft → Type 0
    SoFar rest draft = GoesOn c start all before reported (draft_view old draft) rest draft.replies.items
        draft.judgements.items

    -- one message more is answered
    pub goes_on_more : (next : Draft) (message : List ℕ) (rest : List (List ℕ)) → SoFar (message ∷ rest) now
        → IsAnswered c old message now next → SoFar rest next
    goes_on_more next message rest (done, judged, so_far, judged_so, whole)
        (response, reads, (reply, j, is, frame, pushed)) =
        let bytes = frame.0 in let added = frame.3 in (
          done ++ frame_of bytes,
          judged ++ j ∷ [],
          added ∙ ap (λ xs. xs ++ frame_of bytes) so_far ∙ append_assoc before done (frame_of bytes),
          pushed ∙ ap (λ xs. xs ++ j ∷ []) judged_so ∙ append_assoc reported judged (j ∷ []),
          λ more others new reason later.
              rw (append_assoc done (frame_of bytes) others, append_assoc judged (j ∷ []) more)
              (whole (j ∷ more) (frame_of bytes ++ others) new reason
              (inr (
                response,
                j,
                reply,
                draft_view old next,
                more,
                others,
                reads,
                is,
                refl,
                (bytes, frame.1, frame.2, refl),
                later,
              ))),
        )

    -- no message is left
    pub goes_on_end : SoFar [] now → AllJudged (draft_view old now) now None
    goes_on_end (done, judged, so_far, judged_so, whole) = (
      judged,
      done,
      rw (append-nil done, append-nil judged) at (whole [] [] (draft_view old now) None (refl, refl, refl, refl)),
      judged_so,
      so_far,
    )

    -- a message that is no response ends the stream
    pub goes_on_stop : (next : Draft) (message : List ℕ) (rest : List (List ℕ)) (reason : Ended)
        → SoFar (message ∷ rest) now → IsNoResponse old message now next reason
        → AllJudged (draft_view old next) next (Some reason)
    goes_on_stop next message rest reason (done, judged, so_far, judged_so, whole)
        (e, fault, is, same, judged_same, stays) = (
          judged,
          done,
          rw (append-nil done, append-nil judged) at
              (whole [] [] (draft_view old next) (Some reason) (inl ((e, fault, ap Some is), refl, refl, stays))),
          judged_same ∙ judged_so,
          same ∙ so_far,
        )

-- a request with an error
pub with_error : (c : ConfigValue) (version nonce : List ℕ) (m : RequestMessage) (status reported : StatusMessage)
    → m ≡ request_of c version None nonce None → reported ≡ status
    → ◌≡◌ {A = RequestMessage} (record {
      version_info = m.version_info;
      node = m.node;
      resource_names = m.resource_names;
      type_url = m.type_url;
      response_nonce = m.response_nonce;
      error_detail = Some reported;
    })
    (request_of c version None nonce (Some status))
with_error c version nonce m status reported same reports = rw (same, reports) refl

-- a draft that gives nothing
pub same_draft : (old : List (Option AdmittedValue)) (reported version : List ℕ) (given : List (Option Admitted)) (n : ℕ)
    → reported ≡ version → given ≡ []
    → ◌≡◌ {A = Accepted} (record { version = reported; policies = replaced old (policies_view given); generation = n })
    (record { version = version; policies = old; generation = n })
same_draft old reported version given n same none = rw (same, none, replaced_nothing old) refl

-- what a test reported
pub reported_no : (b : Bool) (P Q : Type 0) → b ≡ false → MatchBool b P Q → Q
reported_no true P Q is p = absurd (true≢false is)
reported_no false P Q is q = q

pub reported_yes : (b : Bool) (P Q : Type 0) → b ≡ true → MatchBool b P Q → P
reported_yes true P Q is p = p
reported_yes false P Q is q = absurd (true≢false (sym is))

-- answers behind nothing
pub from_judged : (c : ConfigValue) (a b d : Accepted) (ms : List (List ℕ)) (before : List ℕ) (reported : List Judgement)
    (draft : Draft) (reason : Option Ended) → b ≡ a → before ≡ [] → reported ≡ []
    → AllJudged c b ms before reported d draft reason
    → AreJudged c a ms draft.judgements.items draft.replies.items d reason
from_judged c a b d ms before reported draft reason same none empty (judgements, replies, judged, judged_so, whole) =
    let all : draft.replies.items ≡ replies = whole ∙ ap (λ xs. xs ++ replies) none in
    let each : draft.judgements.items ≡ judgements = judged_so ∙ ap (λ xs. xs ++ judgements) empty in
    rw (all, each, ← same) judged

-- what was reported of a fault, if there is one
pub reported_none : {A : Type 0} (found : Option A) (P : Type 0) (Q : A → Type 0) → found ≡ None → MatchOption found P Q → P
reported_none None P Q is p = p
reported_none (Some x) P Q is q = absurd cc

pub reported_some : {A : Type 0} (found : Option A) (x : A) (P : Type 0) (Q : A → Type 0) → found ≡ Some x
    → MatchOption found P Q → Q x
reported_some found x P Q is q = rw is at q
