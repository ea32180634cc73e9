-- What a client's answers to the responses in flight come to.
use Rattle.std.proofs.Common.{◌≡◌, ℕ, ◌<◌, ◌≤◌, ◌^◌, Bool, false, true≢false, Option, Some, None, inl, inr, List, [], ◌∷◌, ◌++◌, length, map, decimal, refl, ap, ap₂, sym, subst, ◌∙◌, arith, append_assoc, append-nil}
use Rattle.std.specs.List.{AllZip}
use Rattle.std.proofs.lemmas.List.{map-append}
use Rattle.std.proofs.lemmas.Fmt.{decimal_injective, decimal_nonempty}
use Rattle.proto_wire.specs.declared.refusal.Refusal.{Refusal}
use Rattle.xds_wire.specs.Frames.{frame_of, frames_of}
use Rattle.xds_wire.specs.Discovery.{RequestMessage, ResponseMessage}
use Rattle.xds_wire.specs.Written.{RequestWritten}
use Rattle.xds_wire.proofs.AsWritten.{request_as_written}
use Rattle.ads.specs.Config.{ConfigValue}
use Rattle.ads.specs.Answer.{Accepted, Answers, ack, nack, no_memory, ack_of, nack_of, first_request}
use Rattle.ads.specs.Client.{AreAnswered, accepted_by}
use Rattle.ads.specs.Control.{ServedValue, IsAck}
use Rattle.ads.proofs.Flights.{IsLive, IsSent, IsAsked, AreAsked, Numbers, number_accepted, numbers_dropped}

-- ---- requests

-- an acknowledgement in flight is counted by its number
ack_counts : (s : ServedValue) (last : Option ℕ) (r : RequestMessage) (k : ℕ) → s.last ≡ last → IsLive s → IsAck s r
    → k < 2 ^ 64 → decimal k ≡ decimal s.current → k ∷ [] ≡ s.current ∷ []
ack_counts s None r k is live acks fits same = absurd (rw is at acks.reply.nonce)
ack_counts s (Some n) r k is live acks fits same =
    let last : (n ≤ s.sent) × (s.current ≤ s.sent) = rw is at live.last in
    let few : s.current < 2 ^ 64 = omega (arith, last.1, live.counted.few) in
    ap (λ m. m ∷ []) (decimal_injective k s.current fits few same)

ack_asked : (c : ConfigValue) (response : ResponseMessage) (k : ℕ) (message : List ℕ)
    → response.version_info ≡ decimal k → k < 2 ^ 64 → length message < 2 ^ 32
    → RequestWritten (ack_of c response) message → IsAsked message (k ∷ [])
ack_asked c response k message is fits short written = (
  short,
  λ r reads s live acks.
      let texts = request_as_written (ack_of c response) r message written reads in
      ack_counts s s.last r k refl live acks fits (sym is ∙ sym texts.0 ∙ acks.version),
)

-- a refusal has an error, and so acknowledges nothing
nack_asked : (c : ConfigValue) (old : Accepted) (response : ResponseMessage) (e : Refusal) (message : List ℕ)
    → length message < 2 ^ 32 → RequestWritten (nack_of c old response e) message → IsAsked message []
nack_asked c old response e message short written = (
  short,
  λ r reads s live acks.
      let texts = request_as_written (nack_of c old response e) r message written reads in
      absurd (cc (texts.4.0 acks.error)),
)

-- a first request has no nonce, and so answers nothing
first_answers : (s : ServedValue) (last : Option ℕ) (r : RequestMessage) → s.last ≡ last → IsLive s → IsAck s r
    → r.response_nonce ≡ [] → [] ≡ s.current ∷ []
first_answers s None r is live acks none = absurd (rw is at acks.reply.nonce)
first_answers s (Some n) r is live acks none =
    let last : (n ≤ s.sent) × (s.current ≤ s.sent) = rw is at live.last in
    let nonce : r.response_nonce ≡ decimal n = rw is at acks.reply.nonce in
    let some = decimal_nonempty n (omega (arith, last.0, live.counted.few)) in
    absurd (omega (arith, some, ap length (sym none ∙ nonce)))

pub first_asked : (c : ConfigValue) (old : Accepted) (message : List ℕ)
    → length message < 2 ^ 32 → RequestWritten (first_request c old) message → IsAsked message []
first_asked c old message short written = (
  short,
  λ r reads s live acks.
      let texts = request_as_written (first_request c old) r message written reads in
      first_answers s s.last r refl live acks texts.3,
)

-- ---- one answer

-- the numbers that an answer acknowledges, one or none, and what they come to
pub record IsOne (recorded accepted acks unread : List ℕ) (current : ℕ) (message : List ℕ) (reply : RequestMessage)
    (new : Accepted) : Type 0 where
  pub taken : List ℕ
  pub asked : IsAsked message taken
  pub versions : accepted_by reply ≡ map decimal taken
  pub numbers : Numbers recorded (accepted ++ taken) (acks ++ taken) unread current new.version

module _ (recorded accepted acks unread : List ℕ) (current : ℕ) where
  -- a refusal
  one_refused : (k : ℕ) (c : ConfigValue) (response : ResponseMessage) (old : Accepted) (e : Refusal) (message : List ℕ)
      → length message < 2 ^ 32 → RequestWritten (nack_of c old response e) message
      → Numbers recorded accepted acks (k ∷ unread) current old.version
      → IsOne recorded accepted acks unread current message (nack_of c old response e) old
  one_refused k c response old e message short written n = record {
    taken = [];
    asked = nack_asked c old response e message short written;
    versions = refl;
    numbers = rw (append-nil accepted, append-nil acks)
        (numbers_dropped recorded accepted acks (k ∷ unread) current old.version (k ∷ []) [] unread refl n);
  }

  one_answered : (k : ℕ) (c : ConfigValue) (response : ResponseMessage) (old : Accepted) (reply : RequestMessage)
      (new : Accepted) (message : List ℕ)
      → Answers c response old reply new → length message < 2 ^ 32 → RequestWritten reply message
      → response.version_info ≡ decimal k → k < 2 ^ 64
      → Numbers recorded accepted acks (k ∷ unread) current old.version
      → IsOne recorded accepted acks unread current message reply new
  one_answered k c response old reply new message (ack accepts reported) short written is fits n = record {
    taken = k ∷ [];
    asked = ack_asked c response k message is fits short (subst (λ r. RequestWritten r message) reported written);
    versions = rw (reported, is) refl;
    numbers = rw (accepts.version, is) (number_accepted recorded accepted acks unread current old.version k n);
  }
  one_answered k c response old reply new message (nack e refuses same reported) short written is fits n =
      rw (same, reported) (one_refused k c response old e message short
      (subst (λ r. RequestWritten r message) reported written) n)
  one_answered k c response old reply new message (no_memory admitting same reported) short written is fits n =
      rw (same, reported) (one_refused k c response old Refusal.Memory message short
      (subst (λ r. RequestWritten r message) reported written) n)

-- ---- all answers of a call

-- the requests that the answers are, the numbers that they acknowledge, and what they come to
pub record AreTaken (recorded accepted acks : List ℕ) (current : ℕ) (others : List (List ℕ)) (replies : List ℕ)
    (versions : List (List ℕ)) (new : Accepted) (ends : Bool) : Type 0 where
  pub requests : List (List ℕ)
  pub taken : List ℕ
  pub left : List ℕ
  pub frames : replies ≡ frames_of requests
  pub asked : AreAsked requests taken
  pub versions_are : versions ≡ map decimal taken
  pub unread : ends ≡ false → AllZip IsSent others left
  pub numbers : Numbers recorded (accepted ++ taken) (acks ++ taken) left current new.version

-- nothing is answered
taken_none : (recorded accepted acks unread : List ℕ) (current : ℕ) (others : List (List ℕ)) (replies : List ℕ)
    (versions : List (List ℕ)) (old new : Accepted) (ends : Bool)
    → replies ≡ [] → versions ≡ [] → new ≡ old → (ends ≡ false → AllZip IsSent others unread)
    → Numbers recorded accepted acks unread current old.version
    → AreTaken recorded accepted acks current others replies versions new ends
taken_none recorded accepted acks unread current others replies versions old new ends none nothing same sent n = record {
  requests = [];
  taken = [];
  left = unread;
  frames = none;
  asked = refl;
  versions_are = nothing;
  unread = sent;
  numbers = rw (append-nil accepted, append-nil acks, same) n;
}

-- the others are answered behind one
taken_more : (recorded accepted acks unread : List ℕ) (current : ℕ) (others : List (List ℕ)) (message replies more : List ℕ)
    (versions later : List (List ℕ)) (reply : RequestMessage) (next new : Accepted) (ends : Bool)
    (one : IsOne recorded accepted acks unread current message reply next)
    → replies ≡ frame_of message ++ more → versions ≡ accepted_by reply ++ later
    → AreTaken recorded (accepted ++ one.taken) (acks ++ one.taken) current others more later new ends
    → AreTaken recorded accepted acks current others replies versions new ends
taken_more recorded accepted acks unread current others message replies more versions later reply next new ends one is
    reported rest = record {
      requests = message ∷ rest.requests;
      taken = one.taken ++ rest.taken;
      left = rest.left;
      frames = is ∙ ap (λ (t : List ℕ). frame_of message ++ t) rest.frames;
      asked = (one.taken, rest.taken, one.asked, refl, rest.asked);
      versions_are = reported ∙ ap₂ (λ (x y : List (List ℕ)). x ++ y) one.versions rest.versions_are
          ∙ sym (map-append decimal one.taken rest.taken);
      unread = rest.unread;
      numbers = rw (← append_assoc accepted one.taken rest.taken, ← append_assoc acks one.taken rest.taken) rest.numbers;
    }

pub all_taken : (messages : List (List ℕ)) (c : ConfigValue) (old : Accepted) (replies : List ℕ)
    (versions : List (List ℕ)) (new : Accepted) (ends : Bool) (others : List (List ℕ))
    (recorded accepted acks unread : List ℕ) (current : ℕ)
    → AreAnswered c old messages replies versions new ends → AllZip IsSent (messages ++ others) unread
    → Numbers recorded accepted acks unread current old.version
    → AreTaken recorded accepted acks current others replies versions new ends
all_taken [] c old replies versions new ends others recorded accepted acks unread current
    (none, nothing, same, goes_on) sent n =
    taken_none recorded accepted acks unread current others replies versions old new ends none nothing same
    (λ is. sent) n
all_taken (m ∷ messages) c old replies versions new ends others recorded accepted acks [] current answered sent n =
    absurd sent
all_taken (m ∷ messages) c old replies versions new ends others recorded accepted acks (k ∷ unread) current
    (inl (fault, none, nothing, same, stops)) sent n =
    taken_none recorded accepted acks (k ∷ unread) current others replies versions old new ends none nothing same
    (λ is. absurd (true≢false (sym stops ∙ is))) n
all_taken (m ∷ messages) c old replies versions new ends others recorded accepted acks (k ∷ unread) current
    (inr (response, reply, next, more, later, reads, answers, (message, written, short, is), reported, rest)) (first, sent) n =
    let version = first.2 response reads in
    let one = one_answered recorded accepted acks unread current k c response old reply next message answers short
    written version first.1 n in
    taken_more recorded accepted acks unread current others message replies more versions later reply next new ends
    one is reported
    (all_taken messages c next more later new ends others recorded (accepted ++ one.taken) (acks ++ one.taken)
    unread current rest sent one.numbers)
