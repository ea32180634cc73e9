-- What a control plane sends and records follows from the whole lists of its streams' requests.
use Rattle.std.proofs.Common.{◌≡◌, inl, inr, ℕ, ◌+◌, min, max, Bool, true, false, true≢false, Option, Some, None, List, [], ◌∷◌, ◌++◌, length, refl, ap, ap₂, sym, subst, ◌∙◌, arith, append_assoc, append-nil}
use Rattle.std.specs.Prelude.{is_none}
use Rattle.std.specs.List.{AllZip}
use Rattle.std.proofs.lemmas.List.Concat.{flat_map-append}
use Rattle.proto_wire.specs.Values.{last_of}
use Rattle.proto_wire.specs.declared.refusal.Refusal.{Refusal}
use Rattle.xds_wire.specs.Frames.{Tail, unfinished, broken, Cut, frames_of, nothing}
use Rattle.xds_wire.specs.Discovery.{RequestMessage, IsRequest, RequestFault}
use Rattle.xds_wire.proofs.CutLemmas.{cut_of, frames_none}
use Rattle.xds_wire.proofs.StreamLemmas.{cut_resumes}
use Rattle.ads.specs.Client.{most_bytes, stream_after}
use Rattle.ads.specs.Control.{ControlValue, ResourceValue, ServedValue, Serves, AreServed, ServesBy, new_control, stream_lost}
use Rattle.ads.specs.Serve.{Turn, answers_in, responses_in, numbers_in, served_of, AreTurns, Stands, goes_on, broken_frame, no_request, ended, IsStream, AreStreams, Serve, Call, fed, lost, Calls, streams_of, replies_of, numbers_of}
use Rattle.ads.proofs.Flights.{frames_append, zip_append}
use Rattle.ads.proofs.ServeTurns.{OneTurn, one_turn}

-- ---- lists of turns

pub responses_append : (xs ys : List Turn) → responses_in (xs ++ ys) ≡ responses_in xs ++ responses_in ys
responses_append xs ys = flat_map-append (λ (t : Turn). t.responses) xs ys

pub numbers_append : (xs ys : List Turn) → numbers_in (xs ++ ys) ≡ numbers_in xs ++ numbers_in ys
numbers_append xs ys = flat_map-append (λ (t : Turn). t.numbers) xs ys

-- what turns sent, behind what others sent
replies_append : (a b : List ℕ) (xs ys : List Turn) → a ≡ frames_of (responses_in xs) → b ≡ frames_of (responses_in ys)
    → a ++ b ≡ frames_of (responses_in (xs ++ ys))
replies_append a b xs ys first more =
    frames_append a b (responses_in xs) (responses_in ys) first more ∙ ap frames_of (sym (responses_append xs ys))

turns_append : (snapshots : List (List ResourceValue)) (before earlier xs ys : List Turn) (ends : Bool)
    → AreTurns snapshots before earlier xs false → AreTurns snapshots before (earlier ++ xs) ys ends
    → AreTurns snapshots before earlier (xs ++ ys) ends
turns_append snapshots before earlier [] ys ends none more = rw (append-nil earlier) at more
turns_append snapshots before earlier (x ∷ xs) ys ends (inl (turn, last, stops)) more =
    absurd (true≢false (sym stops))
turns_append snapshots before earlier (x ∷ xs) ys ends (inr (turn, others)) more =
    inr (
      turn,
      turns_append snapshots before (earlier ++ x ∷ []) xs ys ends others
          (subst (λ e. AreTurns snapshots before e ys ends) (sym (append_assoc earlier (x ∷ []) xs)) more),
    )

-- ---- the messages of a call

-- the messages that were read, their turns, and why the others were not read
pub data Left (others : List (List ℕ)) (stops ends : Bool) : Type 0 where
  all_read : others ≡ [] → stops ≡ false → ends ≡ false → Left others stops ends
  one_faulty : (message : List ℕ) (more : List (List ℕ)) (e : Refusal) → others ≡ message ∷ more
      → RequestFault message e → stops ≡ false → ends ≡ true → Left others stops ends
  one_stops : stops ≡ true → ends ≡ true → Left others stops ends

pub record Walked (snapshots : List (List ResourceValue)) (before earlier : List Turn) (messages : List (List ℕ))
    (replies numbers : List ℕ) (after : ServedValue) (ends : Bool) : Type 0 where
  pub read : List (List ℕ)
  pub others : List (List ℕ)
  pub turns : List Turn
  pub stops : Bool
  pub whole : messages ≡ read ++ others
  pub are_read : AllZip (λ message turn. IsRequest message turn.request) read turns
  pub are_turns : AreTurns snapshots before earlier turns stops
  pub replies_are : replies ≡ frames_of (responses_in turns)
  pub numbers_are : numbers ≡ numbers_in turns
  pub after_is : after ≡ served_of snapshots before (earlier ++ turns)
  pub left : Left others stops ends

module _ (snapshots : List (List ResourceValue)) (before : List Turn) where
  walked_none : (earlier : List Turn) (messages : List (List ℕ)) (old : ServedValue) (replies numbers : List ℕ)
      (after : ServedValue) (ends : Bool)
      → old ≡ served_of snapshots before earlier → replies ≡ [] → numbers ≡ [] → after ≡ old
      → Left messages false ends → Walked snapshots before earlier messages replies numbers after ends
  walked_none earlier messages old replies numbers after ends is nothing' none' same left = record {
    read = [];
    others = messages;
    turns = [];
    stops = false;
    whole = refl;
    are_read = tt;
    are_turns = refl;
    replies_are = nothing';
    numbers_are = none';
    after_is = same ∙ is ∙ ap (served_of snapshots before) (sym (append-nil earlier));
    left = left;
  }

  -- one message that ends the stream
  walked_last : (earlier : List Turn) (m : List ℕ) (messages : List (List ℕ)) (request : RequestMessage)
      (replies numbers : List ℕ) (after : ServedValue) (ends : Bool) → IsRequest m request
      → OneTurn snapshots before earlier request replies numbers after true → ends ≡ true
      → Walked snapshots before earlier (m ∷ messages) replies numbers after ends
  walked_last earlier m messages request replies numbers after ends reads one stops = record {
    read = m ∷ [];
    others = messages;
    turns = one.turn ∷ [];
    stops = true;
    whole = refl;
    are_read = (rw one.request_is reads, tt);
    are_turns = inl (one.is_turn, refl, refl);
    replies_are = one.replies_are ∙ ap frames_of (sym (append-nil one.turn.responses));
    numbers_are = one.numbers_are ∙ sym (append-nil one.turn.numbers);
    after_is = one.after_is;
    left = one_stops refl stops;
  }

  -- one message before others
  walked_more : (earlier : List Turn) (m : List ℕ) (messages : List (List ℕ)) (request : RequestMessage)
      (first more now later replies numbers : List ℕ) (next after : ServedValue) (ends : Bool) → IsRequest m request
      → (one : OneTurn snapshots before earlier request first now next false)
      → replies ≡ first ++ more → numbers ≡ now ++ later
      → Walked snapshots before (earlier ++ one.turn ∷ []) messages more later after ends
      → Walked snapshots before earlier (m ∷ messages) replies numbers after ends
  walked_more earlier m messages request first more now later replies numbers next after ends reads one both reported rest =
      record {
        read = m ∷ rest.read;
        others = rest.others;
        turns = one.turn ∷ rest.turns;
        stops = rest.stops;
        whole = ap (λ (xs : List (List ℕ)). m ∷ xs) rest.whole;
        are_read = (rw one.request_is reads, rest.are_read);
        are_turns = inr (one.is_turn, rest.are_turns);
        replies_are = both ∙ frames_append first more one.turn.responses (responses_in rest.turns) one.replies_are
            rest.replies_are;
        numbers_are = reported ∙ ap₂ (λ (x y : List ℕ). x ++ y) one.numbers_are rest.numbers_are;
        after_is = rest.after_is
            ∙ ap (served_of snapshots before) (append_assoc earlier (one.turn ∷ []) rest.turns);
        left = rest.left;
      }

  pub walked : (messages : List (List ℕ)) (earlier : List Turn) (old : ServedValue) (replies numbers : List ℕ)
      (after : ServedValue) (ends : Bool) → old ≡ served_of snapshots before earlier
      → AreServed snapshots old messages replies numbers after ends
      → Walked snapshots before earlier messages replies numbers after ends
  walked [] earlier old replies numbers after ends is (nothing', none', same, stops) =
      walked_none earlier [] old replies numbers after ends is nothing' none' same (all_read refl refl stops)
  walked (m ∷ messages) earlier old replies numbers after ends is (inl ((e, fault), nothing', none', same, stops)) =
      walked_none earlier (m ∷ messages) old replies numbers after ends is nothing' none' same
      (one_faulty m messages e refl fault refl stops)
  walked (m ∷ messages) earlier old replies numbers after ends is (inr (inl (request, reads, serves, stops))) =
      walked_last earlier m messages request replies numbers after ends reads
      (one_turn snapshots before earlier request replies numbers after true
      (subst (λ s. Serves snapshots request s replies numbers after true) is serves)) stops
  walked (m ∷ messages) earlier old replies numbers after ends is
      (inr (inr (request, first, more, now, later, next, reads, serves, both, reported, rest))) =
      let one = one_turn snapshots before earlier request first now next false
      (subst (λ s. Serves snapshots request s first now next false) is serves) in
      walked_more earlier m messages request first more now later replies numbers next after ends reads one both reported
      (walked messages (earlier ++ one.turn ∷ []) next more later after ends one.after_is rest)

-- ---- one stream

-- the stream so far
abbrev pub StreamSoFar : List (List ResourceValue) → List Turn → List ℕ → List Turn → Option (List ℕ) → Type 0
StreamSoFar snapshots before bytes turns None = IsStream snapshots before bytes turns true
StreamSoFar snapshots before bytes turns (Some rest) = (messages : List (List ℕ))
    × Cut bytes most_bytes messages (unfinished rest)
    × AllZip (λ message turn. IsRequest message turn.request) messages turns
    × AreTurns snapshots before [] turns false

so_far_is : (snapshots : List (List ResourceValue)) (before : List Turn) (bytes : List ℕ) (turns : List Turn)
    (stream : Option (List ℕ)) → StreamSoFar snapshots before bytes turns stream
    → IsStream snapshots before bytes turns (is_none stream)
so_far_is snapshots before bytes turns None is = is
so_far_is snapshots before bytes turns (Some rest) (messages, cut, read, served) = record {
  taken = bytes;
  dropped = [];
  messages = messages;
  others = [];
  tail = unfinished rest;
  ends = false;
  whole = sym (append-nil bytes);
  cut = rw (append-nil messages) cut;
  read = read;
  served = served;
  stands = goes_on rest refl refl refl refl refl;
}

-- bytes behind a broken stream are dropped
dropped_more : (snapshots : List (List ResourceValue)) (before : List Turn) (bytes more : List ℕ) (turns : List Turn)
    → IsStream snapshots before bytes turns true → IsStream snapshots before (bytes ++ more) turns true
dropped_more snapshots before bytes more turns is = record {
  taken = is.taken;
  dropped = is.dropped ++ more;
  messages = is.messages;
  others = is.others;
  tail = is.tail;
  ends = is.ends;
  whole = ap (λ (t : List ℕ). t ++ more) is.whole ∙ append_assoc is.taken is.dropped more;
  cut = is.cut;
  read = is.read;
  served = is.served;
  stands = stays is.others is.tail is.ends is.dropped is.stands;
}
  where
    stays : (others : List (List ℕ)) (tail : Tail) (ends : Bool) (dropped : List ℕ)
        → Stands others tail ends dropped true → Stands others tail ends (dropped ++ more) true
    stays others tail ends dropped (goes_on rest a b d e never) = absurd (true≢false never)
    stays others tail ends dropped (broken_frame fault a b d e) = broken_frame fault a b d e
    stays others tail ends dropped (no_request message rest e a b d f) = no_request message rest e a b d f
    stays others tail ends dropped (ended a b) = ended a b

-- the stream after a call
stream_then : (snapshots : List (List ResourceValue)) (before : List Turn) (bytes : List ℕ) (turns : List Turn)
    (messages others : List (List ℕ)) (tail : Tail) (stops ends : Bool)
    → Cut bytes most_bytes (messages ++ others) tail
    → AllZip (λ message turn. IsRequest message turn.request) messages turns
    → AreTurns snapshots before [] turns stops → Left others stops ends
    → StreamSoFar snapshots before bytes turns (stream_after ends tail)
stream_then snapshots before bytes turns messages others (unfinished rest) stops false cut read served
    (all_read nil goes is) = (
      messages,
      rw (nil, append-nil messages) at cut,
      read,
      rw goes at served,
    )
stream_then snapshots before bytes turns messages others (broken fault) stops false cut read served
    (all_read nil goes is) = record {
      taken = bytes;
      dropped = [];
      messages = messages;
      others = others;
      tail = broken fault;
      ends = stops;
      whole = sym (append-nil bytes);
      cut = cut;
      read = read;
      served = served;
      stands = broken_frame fault refl nil goes refl;
    }
stream_then snapshots before bytes turns messages others tail stops true cut read served (all_read nil goes is) =
    absurd (true≢false is)
stream_then snapshots before bytes turns messages others tail stops false cut read served
    (one_faulty m more e is fault goes reported) = absurd (true≢false (sym reported))
stream_then snapshots before bytes turns messages others tail stops true cut read served
    (one_faulty m more e is fault goes reported) = record {
      taken = bytes;
      dropped = [];
      messages = messages;
      others = others;
      tail = tail;
      ends = stops;
      whole = sym (append-nil bytes);
      cut = cut;
      read = read;
      served = served;
      stands = no_request m more e is fault goes refl;
    }
stream_then snapshots before bytes turns messages others tail stops false cut read served (one_stops stop reported) =
    absurd (true≢false (sym reported))
stream_then snapshots before bytes turns messages others tail stops true cut read served (one_stops stop reported) = record {
  taken = bytes;
  dropped = [];
  messages = messages;
  others = others;
  tail = tail;
  ends = stops;
  whole = sym (append-nil bytes);
  cut = cut;
  read = read;
  served = served;
  stands = ended stop refl;
}

-- what a call with bytes comes to
record FedMore (snapshots : List (List ResourceValue)) (before : List Turn) (bytes : List ℕ) (turns : List Turn)
    (replies numbers : List ℕ) (new : ControlValue) : Type 0 where
  more : List Turn
  replies_are : replies ≡ frames_of (responses_in more)
  numbers_are : numbers ≡ numbers_in more
  stream : StreamSoFar snapshots before bytes (turns ++ more) new.stream
  served : new.served ≡ served_of snapshots before (turns ++ more)
  snapshots_are : new.snapshots ≡ snapshots

fed_more : (stream : Option (List ℕ)) (snapshots : List (List ResourceValue)) (before : List Turn) (so_far : List ℕ)
    (turns : List Turn) (old : ControlValue) (bytes replies : List ℕ) (is_broken : Bool) (numbers : List ℕ)
    (new : ControlValue) → old.snapshots ≡ snapshots
    → old.stream ≡ stream → StreamSoFar snapshots before so_far turns stream
    → old.served ≡ served_of snapshots before turns
    → ServesBy stream old bytes replies is_broken numbers new
    → FedMore snapshots before (so_far ++ bytes) turns replies numbers new
fed_more None snapshots before so_far turns old bytes replies is_broken numbers new those up is served
    (nothing', reported, none', same) =
    record {
      more = [];
      replies_are = nothing';
      numbers_are = none';
      stream = rw (same, up, append-nil turns) (dropped_more snapshots before so_far bytes turns is);
      served = ap (λ (c : ControlValue). c.served) same ∙ served
          ∙ ap (served_of snapshots before) (sym (append-nil turns));
      snapshots_are = ap (λ (c : ControlValue). c.snapshots) same ∙ those;
    }
fed_more (Some rest) snapshots before so_far turns old bytes replies is_broken numbers new those up
    (messages, cut, read, served') served (serves, reported) =
    let all = walked snapshots before serves.messages turns old.served replies numbers new.served serves.ends served
    (subst (λ ss. AreServed ss old.served serves.messages replies numbers new.served serves.ends) those serves.served) in
    let cut' = cut_resumes so_far bytes most_bytes messages serves.messages (unfinished rest) serves.tail cut serves.cut in
    let parts : messages ++ serves.messages ≡ (messages ++ all.read) ++ all.others =
    ap (λ (ms : List (List ℕ)). messages ++ ms) all.whole ∙ sym (append_assoc messages all.read all.others) in
    record {
      more = all.turns;
      replies_are = all.replies_are;
      numbers_are = all.numbers_are;
      stream = rw serves.stream (stream_then snapshots before (so_far ++ bytes) (turns ++ all.turns)
          (messages ++ all.read) all.others serves.tail all.stops serves.ends (rw parts at cut')
          (zip_append (λ message (turn : Turn). IsRequest message turn.request) messages all.read turns all.turns read
          all.are_read)
          (turns_append snapshots before [] turns all.turns all.stops served' all.are_turns) all.left);
      served = all.after_is;
      snapshots_are = serves.snapshots ∙ those;
    }

-- ---- all streams

-- what the calls on this stream and on the later ones come to
record Followed (snapshots : List (List ResourceValue)) (before turns : List Turn) (streams : List (List ℕ))
    (replies numbers : List ℕ) (end : ControlValue) : Type 0 where
  more : List Turn
  replies_are : replies ≡ frames_of (responses_in more)
  numbers_are : numbers ≡ numbers_in more
  last_is : end.served.acknowledged ≡ last_of (numbers_in (before ++ (turns ++ more)))
  are_streams : AreStreams snapshots before streams (turns ++ more) (is_none end.stream)

-- another stream before those
streams_before : (snapshots : List (List ResourceValue)) (before first more : List Turn) (bytes : List ℕ)
    (streams : List (List ℕ)) (was_broken is_broken : Bool) → IsStream snapshots before bytes first was_broken
    → AreStreams snapshots (before ++ first) streams more is_broken
    → AreStreams snapshots before (bytes ∷ streams) (first ++ more) is_broken
streams_before snapshots before first more bytes [] was_broken is_broken is others = absurd others
streams_before snapshots before first more bytes (next ∷ streams) was_broken is_broken is others =
    (first, more, was_broken, is, refl, others)

-- a stream of which nothing has come
stream_new : (snapshots : List (List ResourceValue)) (before : List Turn) → StreamSoFar snapshots before [] [] (Some [])
stream_new snapshots before =
    ([], cut_of [] most_bytes [] [] (unfinished []) (frames_none [] most_bytes) (refl, nothing refl), tt, refl)

-- without a response on the stream
abbrev down : ServedValue → ServedValue
down s = record { current = s.current; sent = s.sent; last = None; acknowledged = s.acknowledged }

abbrev served_down : List (List ResourceValue) → List Turn → ServedValue
served_down snapshots turns = record {
  current = min (length (answers_in turns) + 1) (max (length snapshots) 1);
  sent = length (responses_in turns);
  last = None;
  acknowledged = last_of (numbers_in turns);
}

followed : (calls : List Call) (snapshots : List (List ResourceValue)) (before : List Turn) (so_far : List ℕ)
    (turns : List Turn) (old end : ControlValue) → old.snapshots ≡ snapshots
    → StreamSoFar snapshots before so_far turns old.stream
    → old.served ≡ served_of snapshots before turns → Calls old calls end
    → Followed snapshots before turns (streams_of so_far calls) (replies_of calls) (numbers_of calls) end
followed [] snapshots before so_far turns old end those is served same = record {
  more = [];
  replies_are = refl;
  numbers_are = refl;
  last_is = rw (append-nil turns, same) (ap (λ (s : ServedValue). s.acknowledged) served);
  are_streams = rw (append-nil turns, same) (so_far_is snapshots before so_far turns old.stream is);
}
followed (fed bytes replies numbers ∷ calls) snapshots before so_far turns old end those is served
    (next, (is_broken, serves), rest) =
    let step = fed_more old.stream snapshots before so_far turns old bytes replies is_broken numbers next those refl is
    served serves in
    let all = followed calls snapshots before (so_far ++ bytes) (turns ++ step.more) next end
    step.snapshots_are step.stream step.served rest in record {
      more = step.more ++ all.more;
      replies_are = replies_append replies (replies_of calls) step.more all.more step.replies_are all.replies_are;
      numbers_are = ap₂ (λ (x y : List ℕ). x ++ y) step.numbers_are all.numbers_are
          ∙ sym (numbers_append step.more all.more);
      last_is = rw (← append_assoc turns step.more all.more) all.last_is;
      are_streams = rw (← append_assoc turns step.more all.more) all.are_streams;
    }
followed (lost ∷ calls) snapshots before so_far turns old end those is served (next, same, rest) =
    let now : (stream_lost old).served ≡ served_of snapshots (before ++ turns) [] =
    ap down served ∙ ap (served_down snapshots) (sym (append-nil (before ++ turns))) in
    let all = followed calls snapshots (before ++ turns) [] [] next end
    (ap (λ (c : ControlValue). c.snapshots) same ∙ those)
    (rw same (stream_new snapshots (before ++ turns)))
    (ap (λ (c : ControlValue). c.served) same ∙ now) rest in record {
      more = all.more;
      replies_are = all.replies_are;
      numbers_are = all.numbers_are;
      last_is = rw (← append_assoc before turns all.more) all.last_is;
      are_streams = streams_before snapshots before turns all.more so_far (streams_of [] calls) (is_none old.stream)
          (is_none end.stream) (so_far_is snapshots before so_far turns old.stream is) all.are_streams;
    }

pub serves_whole : (snapshots : List (List ResourceValue)) (calls : List Call) (end : ControlValue)
    → Calls (new_control snapshots) calls end
    → Serve snapshots (streams_of [] calls) (replies_of calls) (is_none end.stream) (numbers_of calls)
    × (end.served.acknowledged ≡ last_of (numbers_of calls))
serves_whole snapshots calls end runs =
    let all = followed calls snapshots [] [] [] (new_control snapshots) end refl (stream_new snapshots [])
    (start snapshots) runs in
    ((all.more, all.are_streams, all.replies_are, all.numbers_are), all.last_is ∙ ap last_of (sym all.numbers_are))
  where
    start : (snapshots : List (List ResourceValue)) → (new_control snapshots).served ≡ served_of snapshots [] []
    start snapshots =
        let one : 1 ≡ min (0 + 1) (max (length snapshots) 1) = omega arith in
        ap (λ (c : ℕ). record { current = c; sent = 0; last = None; acknowledged = None }) one
