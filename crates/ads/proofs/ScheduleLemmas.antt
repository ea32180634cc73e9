-- What holds of a client and a control plane after each step.
use Rattle.std.proofs.Common.{◌≡◌, ℕ, Bool, true, false, true≢false, Option, Some, None, List, [], ◌∷◌, ◌++◌, map, decimal, refl, ap, ap₂, sym, subst, ◌∙◌, arith, append_assoc, append-nil}
use Rattle.std.specs.List.{AllZip}
use Rattle.std.proofs.lemmas.List.{map-append}
use Rattle.xds_wire.specs.Frames.{Tail, unfinished, broken, Cut, frames_of}
use Rattle.xds_wire.proofs.OneCut.{cut_first}
use Rattle.ads.specs.Config.{ConfigValue}
use Rattle.ads.specs.Client.{ClientValue, FeedsBy, most_bytes, stream_after}
use Rattle.ads.specs.Control.{ControlValue, ResourceValue, ServedValue, ServesBy}
use Rattle.ads.specs.Schedules.{AreInStep, IsPart, Joined, Moves, opens, client_gets, control_gets, is_lost, NeverFalls, Runs, lost, new_joined}
use Rattle.ads.proofs.PartLemmas.{part_map, falls_part, last_none, last_part, part_same, part_more}
use Rattle.ads.proofs.Flights.{IsCounted, IsLive, IsSent, AreAsked, asked_append, asked_framed, sent_framed, frames_append, zip_append, Numbers, numbers_dropped}
use Rattle.ads.proofs.ClientWalk.{all_taken, first_asked}
use Rattle.ads.proofs.ControlWalk.{all_served, first_live as live_of}

-- ---- each end of the stream

-- the client's unfinished bytes and those in flight to it are frames of responses of these numbers
abbrev ClientSide : Option (List ℕ) → List ℕ → List ℕ → Type 0
ClientSide None flight unread = Unit {0}
ClientSide (Some rest) flight unread =
    (messages : List (List ℕ)) × (rest ++ flight ≡ frames_of messages) × AllZip IsSent messages unread

-- the control plane's unfinished bytes and those in flight to it are frames of requests that acknowledge these numbers
abbrev ControlSide : Option (List ℕ) → ServedValue → List ℕ → List ℕ → Type 0
ControlSide None served flight acks = Unit {0}
ControlSide (Some rest) served flight acks = IsLive served
    × (messages : List (List ℕ)) × (rest ++ flight ≡ frames_of messages) × AreAsked messages acks

-- bytes of further frames are in flight
frames_more : (rest flight more : List ℕ) (ms ns : List (List ℕ)) → rest ++ flight ≡ frames_of ms
    → more ≡ frames_of ns → rest ++ (flight ++ more) ≡ frames_of (ms ++ ns)
frames_more rest flight more ms ns whole is =
    sym (append_assoc rest flight more) ∙ frames_append (rest ++ flight) more ms ns whole is

client_more : (stream : Option (List ℕ)) (flight more : List ℕ) (unread sent : List ℕ) (ns : List (List ℕ))
    → ClientSide stream flight unread → more ≡ frames_of ns → AllZip IsSent ns sent
    → ClientSide stream (flight ++ more) (unread ++ sent)
client_more None flight more unread sent ns side is all = tt
client_more (Some rest) flight more unread sent ns (ms, whole, old) is all =
    (ms ++ ns, frames_more rest flight more ms ns whole is, zip_append IsSent ms ns unread sent old all)

control_more : (stream : Option (List ℕ)) (served : ServedValue) (flight more : List ℕ) (acks taken : List ℕ)
    (ns : List (List ℕ)) → ControlSide stream served flight acks → more ≡ frames_of ns → AreAsked ns taken
    → ControlSide stream served (flight ++ more) (acks ++ taken)
control_more None served flight more acks taken ns side is all = tt
control_more (Some rest) served flight more acks taken ns (live, ms, whole, old) is all =
    (live, ms ++ ns, frames_more rest flight more ms ns whole is, asked_append ms ns acks taken old all)

-- the stream after its messages, where what is left of the frames is known
client_after : (ends : Bool) (tail : Tail) (bytes flight : List ℕ) (ms others : List (List ℕ)) (left : List ℕ)
    (cut : Cut bytes most_bytes ms tail) → cut.rest ++ flight ≡ frames_of others
    → (ends ≡ false → AllZip IsSent others left) → ClientSide (stream_after ends tail) flight left
client_after true tail bytes flight ms others left cut whole unread = tt
client_after false (broken fault) bytes flight ms others left cut whole unread = tt
client_after false (unfinished rest) bytes flight ms others left cut whole unread =
    (others, ap (λ (t : List ℕ). t ++ flight) cut.ends.0 ∙ whole, unread refl)

control_after : (ends : Bool) (tail : Tail) (served : ServedValue) (bytes flight : List ℕ) (ms others : List (List ℕ))
    (left : List ℕ) (cut : Cut bytes most_bytes ms tail) → cut.rest ++ flight ≡ frames_of others
    → (ends ≡ false → IsLive served) → (ends ≡ false → AreAsked others left)
    → ControlSide (stream_after ends tail) served flight left
control_after true tail served bytes flight ms others left cut whole live asked = tt
control_after false (broken fault) served bytes flight ms others left cut whole live asked = tt
control_after false (unfinished rest) served bytes flight ms others left cut whole live asked =
    (live refl, others, ap (λ (t : List ℕ). t ++ flight) cut.ends.0 ∙ whole, asked refl)

-- ---- a piece reaches its end

-- what the client's call comes to
record ClientStep (recorded accepted acks : List ℕ) (current : ℕ) (flight replies : List ℕ)
    (versions : List (List ℕ)) (new : ClientValue) : Type 0 where
  requests : List (List ℕ)
  taken : List ℕ
  left : List ℕ
  frames : replies ≡ frames_of requests
  asked : AreAsked requests taken
  versions_are : versions ≡ map decimal taken
  side : ClientSide new.stream flight left
  numbers : Numbers recorded (accepted ++ taken) (acks ++ taken) left current new.accepted.version

client_step : (stream : Option (List ℕ)) (old : ClientValue) (piece others replies : List ℕ) (is_broken : Bool)
    (versions : List (List ℕ)) (new : ClientValue) (recorded accepted acks unread : List ℕ) (current : ℕ)
    → old.stream ≡ stream → FeedsBy stream old piece replies is_broken versions new
    → ClientSide stream (piece ++ others) unread
    → Numbers recorded accepted acks unread current old.accepted.version
    → ClientStep recorded accepted acks current others replies versions new
client_step None old piece others replies is_broken versions new recorded accepted acks unread current up
    (nothing, is, none, same) side n = record {
      requests = [];
      taken = [];
      left = unread;
      frames = nothing;
      asked = refl;
      versions_are = none;
      side = rw (same, up) tt;
      numbers = rw (append-nil accepted, append-nil acks, same) n;
    }
client_step (Some rest) old piece others replies is_broken versions new recorded accepted acks unread current up
    (feeds, is) (messages, whole, sent) n =
    let first = cut_first (rest ++ piece) others most_bytes messages feeds.messages feeds.tail
    (sent_framed messages unread sent) (append_assoc rest piece others ∙ whole) feeds.cut in
    let all = all_taken feeds.messages old.config old.accepted replies versions new.accepted feeds.ends first.0
    recorded accepted acks unread current feeds.answered (rw first.1 at sent) n in record {
      requests = all.requests;
      taken = all.taken;
      left = all.left;
      frames = all.frames;
      asked = all.asked;
      versions_are = all.versions_are;
      side = rw feeds.stream (client_after feeds.ends feeds.tail (rest ++ piece) others feeds.messages first.0 all.left
          feeds.cut first.2 all.unread);
      numbers = all.numbers;
    }

-- what the control plane's call comes to
record ControlStep (recorded accepted unread version : List ℕ) (flight replies numbers : List ℕ)
    (new : ControlValue) : Type 0 where
  responses : List (List ℕ)
  sent : List ℕ
  left : List ℕ
  frames : replies ≡ frames_of responses
  are_sent : AllZip IsSent responses sent
  counted : IsCounted new.served
  side : ControlSide new.stream new.served flight left
  numbers' : Numbers (recorded ++ numbers) accepted left (unread ++ sent) new.served.current version

control_step : (stream : Option (List ℕ)) (old : ControlValue) (piece others replies : List ℕ) (is_broken : Bool)
    (numbers : List ℕ) (new : ControlValue) (recorded accepted acks unread version : List ℕ)
    → old.stream ≡ stream → ServesBy stream old piece replies is_broken numbers new
    → IsCounted old.served → ControlSide stream old.served (piece ++ others) acks
    → Numbers recorded accepted acks unread old.served.current version
    → ControlStep recorded accepted unread version others replies numbers new
control_step None old piece others replies is_broken numbers new recorded accepted acks unread version up
    (nothing, is, none, same) counted side n = record {
      responses = [];
      sent = [];
      left = acks;
      frames = nothing;
      are_sent = tt;
      counted = rw same counted;
      side = rw (same, up) tt;
      numbers' = rw (none, append-nil recorded, append-nil unread, same) n;
    }
control_step (Some rest) old piece others replies is_broken numbers new recorded accepted acks unread version up
    (serves, is) counted (live, messages, whole, asked) n =
    let first = cut_first (rest ++ piece) others most_bytes messages serves.messages serves.tail
    (asked_framed messages acks asked) (append_assoc rest piece others ∙ whole) serves.cut in
    let all = all_served serves.messages old.snapshots old.served replies numbers new.served serves.ends first.0
    recorded accepted acks unread version serves.served (rw first.1 at asked) live n in record {
      responses = all.responses;
      sent = all.sent';
      left = all.left;
      frames = all.frames;
      are_sent = all.are_sent;
      counted = all.counted;
      side = rw serves.stream (control_after serves.ends serves.tail new.served (rest ++ piece) others serves.messages
          first.0 all.left serves.cut first.2 all.live all.asked);
      numbers' = all.numbers';
    }

-- ---- what holds of both ends

pub record Holds (j : Joined) : Type 0 where
  pub taken : List ℕ
  pub acks : List ℕ
  pub unread : List ℕ
  pub accepted : j.accepted ≡ map decimal taken
  pub numbers : Numbers j.recorded taken acks unread j.control.served.current j.client.accepted.version
  pub counted : IsCounted j.control.served
  pub client : ClientSide j.client.stream j.to_client unread
  pub control : ControlSide j.control.stream j.control.served j.to_control acks
  pub closed : j.is_open ≡ false → (j.control.stream ≡ Some []) × (j.control.served.last ≡ None)

-- nothing is in flight any more
numbers_forgotten : (recorded accepted acks unread : List ℕ) (current : ℕ) (version : List ℕ)
    → Numbers recorded accepted acks unread current version → Numbers recorded accepted [] [] current version
numbers_forgotten recorded accepted acks unread current version n =
    numbers_dropped recorded accepted [] unread current version unread acks [] (sym (append-nil unread))
    (rw (append-nil acks) n)

holds_start : (c : ConfigValue) (snapshots : List (List ResourceValue)) → Holds (new_joined c snapshots)
holds_start c snapshots =
    let counted : IsCounted (new_joined c snapshots).control.served = record {
      reached = omega arith;
      few = omega arith;
    } in record {
      taken = [];
      acks = [];
      unread = [];
      accepted = refl;
      numbers = record { falls = tt; within = tt; part = tt; last = λ k is. absurd (last_none k is) };
      counted = counted;
      client = tt;
      control = (record { counted = counted; last = tt }, [], refl, refl);
      closed = λ is. (refl, refl);
    }

holds_after : (old new : Joined) → Holds old → Moves old new → Holds new
holds_after old new h (opens bytes shut (message, written, short, is) next) =
    let closed = h.closed shut in
    let one : bytes ≡ frames_of (message ∷ []) = is in
    rw next (record {
      taken = h.taken;
      acks = [];
      unread = [];
      accepted = h.accepted;
      numbers = numbers_forgotten old.recorded h.taken h.acks h.unread old.control.served.current
          old.client.accepted.version h.numbers;
      counted = h.counted;
      client = ([], refl, tt);
      control = rw closed.0 (
        live_of old.control.served closed.1 h.counted,
        message ∷ [],
        one,
        (
          [],
          [],
          first_asked old.client.config old.client.accepted message short written,
          refl,
          refl,
        ),
      );
      closed = λ never. absurd (true≢false never);
    })
holds_after old new h (client_gets piece others replies is_broken versions client up flight feeds next) =
    let step = client_step old.client.stream old.client piece others replies is_broken versions client old.recorded
    h.taken h.acks h.unread old.control.served.current refl feeds
    (subst (λ t. ClientSide old.client.stream t h.unread) flight h.client) h.numbers in
    rw next (record {
      taken = h.taken ++ step.taken;
      acks = h.acks ++ step.taken;
      unread = step.left;
      accepted = ap₂ (λ (x y : List (List ℕ)). x ++ y) h.accepted step.versions_are
          ∙ sym (map-append decimal h.taken step.taken);
      numbers = step.numbers;
      counted = h.counted;
      client = step.side;
      control = control_more old.control.stream old.control.served old.to_control replies h.acks step.taken
          step.requests h.control step.frames step.asked;
      closed = λ never. absurd (true≢false never);
    })
holds_after old new h (control_gets piece others replies numbers is_broken control up flight serves next) =
    let step = control_step old.control.stream old.control piece others replies is_broken numbers control old.recorded
    h.taken h.acks h.unread old.client.accepted.version refl serves h.counted
    (subst (λ t. ControlSide old.control.stream old.control.served t h.acks) flight h.control) h.numbers in
    rw next (record {
      taken = h.taken;
      acks = step.left;
      unread = h.unread ++ step.sent;
      accepted = h.accepted;
      numbers = step.numbers';
      counted = step.counted;
      client = client_more old.client.stream old.to_client replies h.unread step.sent step.responses h.client
          step.frames step.are_sent;
      control = step.side;
      closed = λ never. absurd (true≢false never);
    })
holds_after old new h (is_lost up next) =
    let counted : IsCounted (lost old).control.served = record {
      reached = h.counted.reached;
      few = h.counted.few;
    } in
    rw next (record {
      taken = h.taken;
      acks = [];
      unread = [];
      accepted = h.accepted;
      numbers = numbers_forgotten old.recorded h.taken h.acks h.unread old.control.served.current
          old.client.accepted.version h.numbers;
      counted = counted;
      client = tt;
      control = (record { counted = counted; last = tt }, [], refl, refl);
      closed = λ is. (refl, refl);
    })

holds_behind : (states : List Joined) (old new : Joined) → Holds old → Runs old states new → Holds new
holds_behind [] old new h same = rw same h
holds_behind (next ∷ states) old new h (moves, runs) =
    holds_behind states next new (holds_after old next h moves) runs

-- what was recorded is part of what was accepted
in_step : (j : Joined) → Holds j → AreInStep j
in_step j h =
    let n = h.numbers in
    let falls : NeverFalls h.taken = falls_part (h.taken ++ h.unread) h.taken
    (part_more h.taken h.taken h.unread (part_same h.taken)) n.falls in
    let part : IsPart j.recorded h.taken = rw (append-nil j.recorded) at
    (numbers_forgotten j.recorded h.taken h.acks h.unread j.control.served.current j.client.accepted.version n).part in
    record {
      rises = falls_part h.taken j.recorded part falls;
      part = rw h.accepted (part_map decimal h.taken j.recorded part);
      later = λ m is.
          let (k, last, above) = last_part h.taken j.recorded m part falls is in
          (k, above, n.last k last);
    }

pub always_in_step : (c : ConfigValue) (snapshots : List (List ResourceValue)) (states : List Joined) (end : Joined)
    → Runs (new_joined c snapshots) states end → AreInStep end
always_in_step c snapshots states end runs =
    in_step end (holds_behind states (new_joined c snapshots) end (holds_start c snapshots) runs)
