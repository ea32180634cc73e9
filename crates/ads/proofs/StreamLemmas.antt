-- The bytes behind a stream that is up.
use Rattle.std.proofs.Common.{◌≡◌, ◌≤◌, ℕ, Bool, true, false, true≢false, Option, Some, None, List, [], ◌++◌, length, refl, ap, sym, ◌∙◌}
use Rattle.std.specs.Prelude.{is_none, is_some}
use Rattle.xds_wire.specs.Frames.{IsBeginning, Tail, unfinished, broken, Cut}
use Rattle.xds_wire.specs.declared.fault.FrameFault.{FrameFault}
use Rattle.xds_wire.specs.Stream.{Kept, Resumes, Feeds, IsUnfinished, StaysPartial, CompletesOne}
use Rattle.xds_wire.proofs.OneCut.{cut_one}
use Rattle.ads.specs.Answer.{Accepted}
use Rattle.ads.specs.Client.{ClientValue, AreAnswered, Feeds as ClientFeeds, ended_by, fault_in, most_bytes, stream_after}
use Rattle.ads.specs.Control.{ControlValue, ServesBytes}
use Rattle.ads.specs.Judgements.{AreJudged, ReportsJudgementsBy}
use Rattle.ads.specs.Exchanges.{AreExchanged, ReportsExchangesBy}
use Rattle.ads.specs.declared.ended.Ended.{Ended}
use Rattle.ads.specs.declared.exchange.Exchange.{Exchange}
use Rattle.ads.specs.declared.ended.Ended.TheVariants as ended
use Rattle.ads.specs.declared.judgement.Judgement.{Judgement}
use Rattle.ads.specs.private.Streams.{IsUp, kept_of, rest_of}
use Rattle.ads.proofs.ServingLemmas.{exchanged_served}

cut_of : (max : ℕ) (tail : Tail) (bytes : List ℕ) (ms : List (List ℕ)) (t : Tail) → IsUnfinished tail
    → Resumes max tail bytes ms t → Cut (rest_of tail ++ bytes) max ms t
cut_of max (unfinished rest) bytes ms t whole cut = cut
cut_of max (broken fault) bytes ms t whole cut = absurd whole

-- bytes behind unfinished ones are cut with them
pub fed_cut : (old new : Kept) (bytes : List ℕ) → IsUp old → Feeds old bytes new
    → Cut (rest_of old.tail ++ bytes) most_bytes new.messages new.tail × (new.max ≡ most_bytes)
fed_cut old new bytes up (ms, resumes, same) =
    let messages : new.messages ≡ ms =
    ap (λ (k : Kept). k.messages) same ∙ ap (λ xs. xs ++ ms) up.taken in
    let max : new.max ≡ most_bytes = ap (λ (k : Kept). k.max) same ∙ up.max in
    (rw (messages, ← up.max) (cut_of old.max old.tail bytes ms new.tail up.whole resumes), max)

begins_of : (max : ℕ) (tail : Tail) (bytes : List ℕ) → IsUnfinished tail → StaysPartial max tail bytes
    → IsBeginning max (rest_of tail ++ bytes)
begins_of max (unfinished rest) bytes whole begins = begins
begins_of max (broken fault) bytes whole begins = absurd whole

partial_of : (max : ℕ) (tail : Tail) (bytes : List ℕ) → IsUnfinished tail → IsBeginning max (rest_of tail ++ bytes)
    → StaysPartial max tail bytes
partial_of max (unfinished rest) bytes whole begins = begins
partial_of max (broken fault) bytes whole begins = absurd whole

-- bytes that complete or break a frame leave no beginning of one
pub no_part : (old : Kept) (bytes : List ℕ) → IsUp old → (StaysPartial old.max old.tail bytes → ⊥)
    → IsBeginning most_bytes (rest_of old.tail ++ bytes) → ⊥
no_part old bytes up none begins =
    let begins' : IsBeginning old.max (rest_of old.tail ++ bytes) = rw up.max begins in
    none (partial_of old.max old.tail bytes up.whole begins')

-- bytes that complete no frame and break none stand behind the others
pub part_fed : (old new : Kept) (bytes : List ℕ) → IsUp old → StaysPartial old.max old.tail bytes
    → Feeds old bytes new
    → IsBeginning most_bytes (rest_of old.tail ++ bytes) × IsUp new × (rest_of new.tail ≡ rest_of old.tail ++ bytes)
part_fed old new bytes up partial fed =
    let rest : List ℕ = rest_of old.tail ++ bytes in
    let begins : IsBeginning most_bytes rest = rw (← up.max) (begins_of old.max old.tail bytes up.whole partial) in
    let cut = fed_cut old new bytes up fed in
    let also : Cut rest most_bytes [] (unfinished rest) =
    record { rest = rest; whole = refl; allowed = tt; ends = (refl, begins) } in
    let same = cut_one rest most_bytes new.messages [] new.tail (unfinished rest) cut.0 also in
    let whole : IsUnfinished new.tail = rw same.1 tt in
    (begins, record { max = cut.1; taken = same.0; whole = whole }, ap rest_of same.1)

-- bytes that complete no message are answered nothing, and stand behind the others
pub part_answered : (old new : ClientValue) (rest bytes replies : List ℕ) → old.stream ≡ Some rest
    → IsBeginning most_bytes (rest ++ bytes) → replies ≡ [] → new.config ≡ old.config
    → new.stream ≡ Some (rest ++ bytes) → new.accepted ≡ old.accepted → ClientFeeds old bytes replies false [] new
part_answered old new rest bytes replies up begins none config stream same = rw up (
  record {
    messages = [];
    tail = unfinished (rest ++ bytes);
    ends = false;
    cut = record { rest = rest ++ bytes; whole = refl; allowed = tt; ends = (refl, begins) };
    answered = (none, refl, same, refl);
    stream = stream;
    config = config;
  },
  ap is_none (sym stream),
)

-- and at a control plane
pub part_served : (old new : ControlValue) (rest bytes replies : List ℕ) → old.stream ≡ Some rest
    → IsBeginning most_bytes (rest ++ bytes) → replies ≡ [] → new.snapshots ≡ old.snapshots
    → new.stream ≡ Some (rest ++ bytes) → new.served ≡ old.served → ServesBytes old bytes replies false [] new
part_served old new rest bytes replies up begins none snapshots stream same = rw up (
  record {
    messages = [];
    tail = unfinished (rest ++ bytes);
    ends = false;
    cut = record { rest = rest ++ bytes; whole = refl; allowed = tt; ends = (refl, begins) };
    served = (none, refl, same, refl);
    stream = stream;
    snapshots = snapshots;
  },
  ap is_none (sym stream),
)

-- and nothing is reported of them
pub part_exchanged : (old new : ControlValue) (rest bytes replies : List ℕ) (xs : List Exchange)
    → old.stream ≡ Some rest → IsBeginning most_bytes (rest ++ bytes) → replies ≡ [] → xs ≡ []
    → new.served ≡ old.served → ReportsExchangesBy old.stream old bytes replies xs None new
part_exchanged old new rest bytes replies xs up begins none empty same = rw up (record {
  messages = [];
  tail = unfinished (rest ++ bytes);
  numbers = [];
  reason = None;
  cut = record { rest = rest ++ bytes; whole = refl; allowed = tt; ends = (refl, begins) };
  exchanged = (empty, none, refl, same, refl);
  reported = refl;
})

-- the messages of the stream are answered, and the client keeps what they come to
pub fed_stream : (old new : ClientValue) (rest bytes : List ℕ) (next : Accepted) (messages versions : List (List ℕ))
    (tail : Tail) (ends : Bool) (replies given : List ℕ) (is_broken : Bool)
    → old.stream ≡ Some rest → Cut (rest ++ bytes) most_bytes messages tail
    → AreAnswered old.config old.accepted messages given versions next ends
    → replies ≡ given → new.accepted ≡ next → new.stream ≡ stream_after ends tail → new.config ≡ old.config
    → is_broken ≡ is_none new.stream → ClientFeeds old bytes replies is_broken versions new
fed_stream old new rest bytes next messages versions tail ends replies given is_broken up cut answered same state
    stream config reported = rw up (
      record {
        messages = messages;
        tail = tail;
        ends = ends;
        cut = cut;
        answered = rw (same, state) answered;
        stream = stream;
        config = config;
      },
      reported,
    )

-- bytes that complete no message say nothing
pub part_reported : (old new : ClientValue) (rest bytes replies : List ℕ) (js : List Judgement) → old.stream ≡ Some rest
    → IsBeginning most_bytes (rest ++ bytes) → replies ≡ [] → js ≡ [] → new.accepted ≡ old.accepted
    → ReportsJudgementsBy old.stream old bytes replies js None new
part_reported old new rest bytes replies js up begins none empty same = rw up (record {
  messages = [];
  tail = unfinished (rest ++ bytes);
  reason = None;
  cut = record { rest = rest ++ bytes; whole = refl; allowed = tt; ends = (refl, begins) };
  judged = (empty, none, same, refl);
  reported = refl;
})

-- the judgements of the messages of the stream, and why it ends
pub reported_stream : (old new : ClientValue) (rest bytes : List ℕ) (next : Accepted) (messages : List (List ℕ))
    (tail : Tail) (reason : Option Ended) (replies given : List ℕ) (js reported : List Judgement) (ends : Option Ended)
    → old.stream ≡ Some rest → Cut (rest ++ bytes) most_bytes messages tail
    → AreJudged old.config old.accepted messages reported given next reason
    → replies ≡ given → js ≡ reported → ends ≡ ended_by reason (fault_in tail) → new.accepted ≡ next
    → ReportsJudgementsBy old.stream old bytes replies js ends new
reported_stream old new rest bytes next messages tail reason replies given js reported ends up cut judged same each is state =
    rw up (record {
      messages = messages;
      tail = tail;
      reason = reason;
      cut = cut;
      judged = rw (same, each, state) judged;
      reported = is;
    })

-- nothing is judged if no stream is up
pub reported_down : (stream : Option (List ℕ)) (old new : ClientValue) (bytes replies : List ℕ) (js : List Judgement)
    → is_some stream ≡ false → js ≡ [] → ReportsJudgementsBy stream old bytes replies js (Some ended.NotUp) new
reported_down None old new bytes replies js down none = (none, refl)
reported_down (Some rest) old new bytes replies js down none = absurd (true≢false down)

-- bytes that complete at most one frame
pub one_known : (t : Tail) (bytes : List ℕ) (messages : List (List ℕ)) (after : Tail) → IsUnfinished t
    → CompletesOne most_bytes t bytes → Cut (rest_of t ++ bytes) most_bytes messages after → length messages ≤ 1
one_known (unfinished rest) bytes messages after up one cut = one messages after cut
one_known (broken fault) bytes messages after up one cut = absurd up

-- ---- the end of a stream

-- no stream is up exactly if there is a reason
ends_so : (reason : Option Ended) (tail : Tail)
    → is_some (ended_by reason (fault_in tail)) ≡ is_none (stream_after (is_some reason) tail)
ends_so (Some e) tail = refl
ends_so None (broken fault) = refl
ends_so None (unfinished rest) = refl

pub ends_if : (reason : Option Ended) (tail : Tail) (ends : Option Ended) (stream : Option (List ℕ))
    → ends ≡ ended_by reason (fault_in tail) → stream ≡ stream_after (is_some reason) tail
    → is_some ends ≡ is_none stream
ends_if reason tail ends stream is after = rw (is, after) (ends_so reason tail)

-- the stream that is kept
pub kept_after : (reason : Option Ended) (tail : Tail)
    → kept_of (is_some (ended_by reason (fault_in tail))) tail ≡ stream_after (is_some reason) tail
kept_after (Some e) tail = refl
kept_after None (broken fault) = refl
kept_after None (unfinished rest) = refl

pub kept_so : (reason ended : Option Ended) (fault : Option FrameFault) (tail after : Tail) (ends : Bool)
    (stream : Option (List ℕ)) → fault ≡ fault_in tail → ended ≡ ended_by reason fault → ends ≡ is_some ended
    → after ≡ tail → stream ≡ kept_of ends after → stream ≡ stream_after (is_some reason) tail
kept_so reason ended fault tail after ends stream faulty why reported same kept =
    let is : stream ≡ kept_of (is_some (ended_by reason (fault_in tail))) tail = rw (reported, why, faulty, same) at kept in
    is ∙ kept_after reason tail

-- a stream that goes on: no message ended it, and its frames are not broken
pub no_reason : (reason : Option Ended) (fault : Option FrameFault) → is_some (ended_by reason fault) ≡ false
    → reason ≡ None
no_reason None fault goes = refl
no_reason (Some e) fault goes = absurd (true≢false goes)

pub no_fault : (reason : Option Ended) (tail : Tail) → is_some (ended_by reason (fault_in tail)) ≡ false
    → IsUnfinished tail
no_fault None (unfinished rest) goes = tt
no_fault None (broken fault) goes = absurd (true≢false goes)
no_fault (Some e) tail goes = absurd (true≢false goes)

-- the messages of the stream are served, and the control plane keeps what they come to
pub served_stream : (old new : ControlValue) (rest bytes : List ℕ) (messages : List (List ℕ)) (tail : Tail)
    (reason ends : Option Ended) (replies numbers : List ℕ) (xs : List Exchange) → old.stream ≡ Some rest
    → Cut (rest ++ bytes) most_bytes messages tail
    → AreExchanged old.snapshots old.served messages xs replies numbers new.served reason
    → new.stream ≡ stream_after (is_some reason) tail → ends ≡ ended_by reason (fault_in tail)
    → new.snapshots ≡ old.snapshots → ServesBytes old bytes replies (is_some ends) numbers new
served_stream old new rest bytes messages tail reason ends replies numbers xs up cut is stream why snapshots = rw up (
  record {
    messages = messages;
    tail = tail;
    ends = is_some reason;
    cut = cut;
    served = exchanged_served old.snapshots old.served messages xs replies numbers new.served reason is;
    stream = stream;
    snapshots = snapshots;
  },
  ends_if reason tail ends new.stream why stream,
)

-- what was received and sent on it, and why it ends
pub exchanged_stream : (old new : ControlValue) (rest bytes : List ℕ) (messages : List (List ℕ)) (tail : Tail)
    (reason ends : Option Ended) (replies numbers : List ℕ) (xs : List Exchange) → old.stream ≡ Some rest
    → Cut (rest ++ bytes) most_bytes messages tail
    → AreExchanged old.snapshots old.served messages xs replies numbers new.served reason
    → ends ≡ ended_by reason (fault_in tail) → ReportsExchangesBy old.stream old bytes replies xs ends new
exchanged_stream old new rest bytes messages tail reason ends replies numbers xs up cut is why = rw up (record {
  messages = messages;
  tail = tail;
  numbers = numbers;
  reason = reason;
  cut = cut;
  exchanged = is;
  reported = why;
})
