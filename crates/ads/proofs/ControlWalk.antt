-- What a control plane sends and records for the requests in flight.
use Rattle.std.proofs.Common.{◌≡◌, inl, inr, ℕ, zero, suc, ◌+◌, ◌<◌, ◌≤◌, ◌^◌, Bool, true, false, true≢false, Option, Some, None, List, [], ◌∷◌, ◌++◌, length, refl, ap, sym, ◌∙◌, arith, append_assoc, append-nil}
use Rattle.std.specs.List.{AllZip}
use Rattle.xds_wire.specs.Frames.{frame_of, frames_of}
use Rattle.xds_wire.specs.Discovery.{RequestMessage, ResponseMessage}
use Rattle.xds_wire.specs.Written.{ResponseWritten}
use Rattle.xds_wire.proofs.AsWritten.{response_as_written}
use Rattle.ads.specs.Client.{most_bytes}
use Rattle.ads.specs.Control.{ServedValue, ResourceValue, IsSnapshot, IsResponseOf, IsReply, IsAck, Sends, none, sent, too_long, too_many, Advances, at_last, next, Serves, first, ack, nack, ignored, AreServed, advanced, recorded}
use Rattle.ads.proofs.Flights.{IsCounted, IsLive, IsSent, AreAsked, frames_append, zip_append, Numbers, numbers_dropped, number_recorded, number_sent, number_raised}

-- a response that is sent
response_sent : (snapshot : List ResourceValue) (names : List (List ℕ)) (number count : ℕ) (response : ResponseMessage)
    (message : List ℕ) → IsResponseOf snapshot names number count response → ResponseWritten response message
    → length message ≤ most_bytes → number < 2 ^ 64 → IsSent message number
response_sent snapshot names number count response message is written short fits = (
  omega (arith, short),
  fits,
  λ r reads. (response_as_written response r message written reads).0 ∙ is.version,
)

-- there is a snapshot of each number up to their count
snapshot_there : (snapshots : List (List ResourceValue)) (n : ℕ) → n < length snapshots
    → (snapshot : List ResourceValue) × IsSnapshot snapshots (n + 1) snapshot
snapshot_there [] n within = absurd (omega arith)
snapshot_there (s ∷ snapshots) zero within = (s, ([], snapshots, refl, refl))
snapshot_there (s ∷ snapshots) (suc n) within =
    let (there, (before, after, whole, number)) = snapshot_there snapshots n (omega arith) in
    (there, (s ∷ before, after, ap (λ (xs : List (List ResourceValue)). s ∷ xs) whole, omega (arith, number)))

-- ---- what one request comes to

-- the response that is sent, if one is, the numbers after it, and what was counted
pub record IsServedOne (recorded' accepted acks unread : List ℕ) (version replies : List ℕ) (numbers : List ℕ)
    (new : ServedValue) (ends : Bool) : Type 0 where
  pub responses : List (List ℕ)
  pub sent' : List ℕ
  pub frames : replies ≡ frames_of responses
  pub are_sent : AllZip IsSent responses sent'
  pub counted : IsCounted new
  pub live : ends ≡ false → IsLive new
  pub numbers' : Numbers (recorded' ++ numbers) accepted acks (unread ++ sent') new.current version

module _ (recorded' accepted acks unread version : List ℕ) where
  -- nothing is sent
  none_sent : (replies : List ℕ) (new : ServedValue) (ends : Bool) → replies ≡ []
      → IsCounted new → (ends ≡ false → IsLive new)
      → Numbers recorded' accepted acks unread new.current version
      → IsServedOne recorded' accepted acks unread version replies [] new ends
  none_sent replies new ends nothing counted live n = record {
    responses = [];
    sent' = [];
    frames = nothing;
    are_sent = tt;
    counted = counted;
    live = live;
    numbers' = rw (append-nil recorded', append-nil unread) n;
  }

  sends_one : (snapshots : List (List ResourceValue)) (names : List (List ℕ)) (old : ServedValue)
      (replies : List ℕ) (new : ServedValue) (ends : Bool) → Sends snapshots names old replies new ends
      → IsCounted old
      → (((snapshot : List ResourceValue) → IsSnapshot snapshots old.current snapshot → ⊥) → IsLive old)
      → Numbers recorded' accepted acks unread old.current version
      → IsServedOne recorded' accepted acks unread version replies [] new ends
  sends_one snapshots names old replies new ends (none lacks nothing same stops) counted live n =
      rw same (none_sent replies old ends nothing counted (λ is. live lacks) n)
  sends_one snapshots names old replies new ends
      (sent snapshot response message there few is written short frame same stops) counted live n =
      let fits : old.current < 2 ^ 64 = omega (arith, counted.reached, few) in
      rw same (record {
        responses = message ∷ [];
        sent' = old.current ∷ [];
        frames = frame ∙ sym (append-nil (frame_of message));
        are_sent = (response_sent snapshot names old.current (old.sent + 1) response message is written short fits, tt);
        counted = record { reached = omega (arith, counted.reached); few = omega (arith, few) };
        live = λ is. record {
          counted = record { reached = omega (arith, counted.reached); few = omega (arith, few) };
          last = (omega arith, counted.reached);
        };
        numbers' = rw (append-nil recorded') (number_sent recorded' accepted acks unread old.current version n);
      })
  sends_one snapshots names old replies new ends
      (too_long snapshot response message there few is written long nothing same stops) counted live n =
      rw same (none_sent replies old ends nothing counted (λ is. absurd (true≢false (sym stops ∙ is))) n)
  sends_one snapshots names old replies new ends (too_many snapshot there many nothing same stops) counted live n =
      rw same (none_sent replies old ends nothing counted (λ is. absurd (true≢false (sym stops ∙ is))) n)

  -- the next snapshot, once the last response on the stream was the current one
  advances_one : (snapshots : List (List ResourceValue)) (names : List (List ℕ)) (old : ServedValue)
      (replies : List ℕ) (new : ServedValue) (ends : Bool) → Advances snapshots names old replies new ends
      → IsLive old → old.current ≤ old.sent
      → Numbers recorded' accepted acks unread old.current version
      → IsServedOne recorded' accepted acks unread version replies [] new ends
  advances_one snapshots names old replies new ends (at_last last nothing same stops) live reached n =
      rw same (none_sent replies old ends nothing live.counted (λ is. live) n)
  advances_one snapshots names old replies new ends (next more sends) live reached n =
      let there = snapshot_there snapshots old.current more in
      sends_one snapshots names (advanced old) replies new ends sends
      (record { reached = omega (arith, reached); few = live.counted.few })
      (λ lacks. absurd (lacks there.0 there.1))
      (number_raised recorded' accepted acks unread old.current version (old.current + 1) (omega arith) n)

-- where a reply counts, the last response on the stream was the current one
reached_current : (old : ServedValue) (last : Option ℕ) (r : RequestMessage) → old.last ≡ last → IsLive old
    → IsReply old r → old.current ≤ old.sent
reached_current old None r is live reply = absurd (rw is at reply.nonce)
reached_current old (Some n) r is live reply =
    let reported : (n ≤ old.sent) × (old.current ≤ old.sent) = rw is at live.last in reported.1

-- a stream on which nothing was sent
pub first_live : (old : ServedValue) → old.last ≡ None → IsCounted old → IsLive old
first_live old is counted = record { counted = counted; last = rw is tt }

pub one_served : (snapshots : List (List ResourceValue)) (request : RequestMessage) (old : ServedValue)
    (replies numbers : List ℕ) (new : ServedValue) (ends : Bool) (recorded' accepted a acks unread version : List ℕ)
    → Serves snapshots request old replies numbers new ends
    → (IsAck old request → a ≡ old.current ∷ []) → IsLive old
    → Numbers recorded' accepted (a ++ acks) unread old.current version
    → IsServedOne recorded' accepted acks unread version replies numbers new ends
one_served snapshots request old replies numbers new ends recorded' accepted a acks unread version
    (first is sends nothing) acked live n =
    let n' = numbers_dropped recorded' accepted acks unread old.current version [] a unread refl n in
    rw nothing (sends_one recorded' accepted acks unread version snapshots request.resource_names old replies new ends
    sends live.counted (λ lacks. live) n')
one_served snapshots request old replies numbers new ends recorded' accepted a acks unread version
    (ack is advances reported) acked live n =
    let n' : Numbers recorded' accepted (old.current ∷ acks) unread old.current version = rw (acked is) at n in
    let one = advances_one (recorded' ++ old.current ∷ []) accepted acks unread version snapshots
    request.resource_names (recorded old) replies new ends advances
    (record { counted = record { reached = live.counted.reached; few = live.counted.few }; last = live.last })
    (reached_current old old.last request refl live is.reply)
    (number_recorded recorded' accepted acks unread old.current version old.current n') in
    rw reported (record {
      responses = one.responses;
      sent' = one.sent';
      frames = one.frames;
      are_sent = one.are_sent;
      counted = one.counted;
      live = one.live;
      numbers' = rw (append-nil (recorded' ++ old.current ∷ [])) at one.numbers';
    })
one_served snapshots request old replies numbers new ends recorded' accepted a acks unread version
    (nack is advances nothing) acked live n =
    let n' = numbers_dropped recorded' accepted acks unread old.current version [] a unread refl n in
    rw nothing (advances_one recorded' accepted acks unread version snapshots request.resource_names old replies new ends
    advances live (reached_current old old.last request refl live is.reply) n')
one_served snapshots request old replies numbers new ends recorded' accepted a acks unread version
    (ignored a' b' c' nothing same stops none') acked live n =
    let n' = numbers_dropped recorded' accepted acks unread old.current version [] a unread refl n in
    rw (none', same) (none_sent recorded' accepted acks unread version replies old ends nothing live.counted (λ is. live) n')

-- ---- all requests of a call

pub record AreServedSo (recorded' accepted unread version : List ℕ) (others : List (List ℕ)) (replies numbers : List ℕ)
    (new : ServedValue) (ends : Bool) : Type 0 where
  pub responses : List (List ℕ)
  pub sent' : List ℕ
  pub left : List ℕ
  pub frames : replies ≡ frames_of responses
  pub are_sent : AllZip IsSent responses sent'
  pub counted : IsCounted new
  pub live : ends ≡ false → IsLive new
  pub asked : ends ≡ false → AreAsked others left
  pub numbers' : Numbers (recorded' ++ numbers) accepted left (unread ++ sent') new.current version

-- the others are served behind one
served_more : (recorded' accepted acks unread version : List ℕ) (others : List (List ℕ))
    (replies before behind numbers now later : List ℕ) (then' new : ServedValue) (ends : Bool)
    (one : IsServedOne recorded' accepted acks unread version before now then' false)
    → replies ≡ before ++ behind → numbers ≡ now ++ later
    → AreServedSo (recorded' ++ now) accepted (unread ++ one.sent') version others behind later new ends
    → AreServedSo recorded' accepted unread version others replies numbers new ends
served_more recorded' accepted acks unread version others replies before behind numbers now later then' new ends one both
    reported all = record {
      responses = one.responses ++ all.responses;
      sent' = one.sent' ++ all.sent';
      left = all.left;
      frames = both ∙ frames_append before behind one.responses all.responses one.frames all.frames;
      are_sent = zip_append IsSent one.responses all.responses one.sent' all.sent' one.are_sent all.are_sent;
      counted = all.counted;
      live = all.live;
      asked = all.asked;
      numbers' = rw (reported, ← append_assoc recorded' now later, ← append_assoc unread one.sent' all.sent') all.numbers';
    }

pub all_served : (messages : List (List ℕ)) (snapshots : List (List ResourceValue)) (old : ServedValue)
    (replies numbers : List ℕ) (new : ServedValue) (ends : Bool) (others : List (List ℕ))
    (recorded' accepted acks unread version : List ℕ)
    → AreServed snapshots old messages replies numbers new ends → AreAsked (messages ++ others) acks
    → IsLive old → Numbers recorded' accepted acks unread old.current version
    → AreServedSo recorded' accepted unread version others replies numbers new ends
all_served [] snapshots old replies numbers new ends others recorded' accepted acks unread version
    (nothing, none', same, goes_on) asked live n = record {
      responses = [];
      sent' = [];
      left = acks;
      frames = nothing;
      are_sent = tt;
      counted = rw same live.counted;
      live = λ is. rw same live;
      asked = λ is. asked;
      numbers' = rw (none', same, append-nil recorded', append-nil unread) n;
    }
all_served (m ∷ messages) snapshots old replies numbers new ends others recorded' accepted acks unread version
    (inl (fault, nothing, none', same, stops)) asked live n = record {
      responses = [];
      sent' = [];
      left = acks;
      frames = nothing;
      are_sent = tt;
      counted = rw same live.counted;
      live = λ is. rw same live;
      asked = λ is. absurd (true≢false (sym stops ∙ is));
      numbers' = rw (none', same, append-nil recorded', append-nil unread) n;
    }
all_served (m ∷ messages) snapshots old replies numbers new ends others recorded' accepted acks unread version
    (inr (inl (request, reads, serves, stops))) (a, more, is, whole, rest) live n =
    let one = one_served snapshots request old replies numbers new true recorded' accepted a more unread version serves
    (λ acks'. is.1 request reads old live acks') live (rw whole at n) in record {
      responses = one.responses;
      sent' = one.sent';
      left = more;
      frames = one.frames;
      are_sent = one.are_sent;
      counted = one.counted;
      live = λ goes_on. absurd (true≢false (sym stops ∙ goes_on));
      asked = λ goes_on. absurd (true≢false (sym stops ∙ goes_on));
      numbers' = one.numbers';
    }
all_served (m ∷ messages) snapshots old replies numbers new ends others recorded' accepted acks unread version
    (inr (inr (request, before, behind, now, later, then', reads, serves, both, reported, rest')))
    (a, more, is, whole, rest) live n =
    let one = one_served snapshots request old before now then' false recorded' accepted a more unread version serves
    (λ acks'. is.1 request reads old live acks') live (rw whole at n) in
    served_more recorded' accepted more unread version others replies before behind numbers now later then' new ends one
    both reported
    (all_served messages snapshots then' behind later new ends others (recorded' ++ now) accepted more
    (unread ++ one.sent') version rest' rest (one.live refl) one.numbers')
