-- The serving of messages, one after the other, and of the resources that are asked for.
use Rattle.std.proofs.Common.{◌≡◌, inl, inr, ℕ, zero, suc, ◌+◌, ◌-◌, ◌<◌, ◌≤◌, ◌==◌, arith, Option, Some, None, Bool, true, false, List, [], ◌∷◌, ◌++◌, length, map, take, get_or, refl, ap, sym, ◌∙◌, append_assoc, append-nil, bytes_eq, decimal, if◌then◌else◌}
use Rattle.std.specs.List.{AllZip, HoldsAt, list_any}
use Rattle.std.specs.Prelude.{MatchOption, IfSome, is_some}
use Rattle.std.specs.String.{string_bytes}
use Rattle.std.specs.Borrow.{Bor}
use Rattle.std.proofs.lemmas.List.{map_more, map-append, length-append, length-map}
use Rattle.std.proofs.lemmas.Bool.{eqb-false, eqb-true}
use Rattle.xds_wire.specs.Frames.{frame_of}
use Rattle.xds_wire.specs.Discovery.{RequestMessage, ResponseMessage}
use Rattle.xds_wire.specs.Written.{ExtensionWritten, ResponseWritten}
use Rattle.ads.specs.Control.{ResourceValue, ServedValue, AreServed, IsFirst, IsAck, IsNack, Sends, sent, too_long, too_many, sent_one, Advances, at_last, next, advanced, recorded, Serves, first, ack, nack, ignored, IsSnapshot, IsSentAs, IsResponseOf, asked, extension_of}
use Rattle.ads.specs.Exchanges.{AreExchanged, IsExchange, IsSentFor, Says}
use Rattle.ads.specs.declared.ended.Ended.{Ended}
use Rattle.ads.specs.declared.exchange.Exchange.{Exchange}
use Rattle.ads.specs.declared.serving.Serving.{Serving}
use Rattle.ads.specs.Answer.{extension_type}
use Rattle.ads.specs.declared.snapshot.Resource.{Resource}
use Rattle.ads.specs.declared.snapshot.Snapshot.{Snapshot}
use Rattle.ads.specs.Views.{resource_view, served_view, snapshot_view, snapshots_view}
use Rattle.ads.specs.private.Serving.{any_of, AddsReplies, IsServed, ResponseIsOf, MessageIsServed, a_request, no_request, sent_since}
use Rattle.ads.proofs.Lists.{zip_push}

-- whether the resource is asked for
abbrev is_wanted : List (List ℕ) → ResourceValue → Bool
is_wanted names r = list_any (λ name. bytes_eq name r.name) names

-- those of two lists
asked_append : (names : List (List ℕ)) (xs ys : List ResourceValue)
    → asked names (xs ++ ys) ≡ asked names xs ++ asked names ys
asked_append names [] ys = refl
asked_append names (x ∷ xs) ys = by (is_wanted names x) (asked_append names xs ys)
  where
    by : (b : Bool) → asked names (xs ++ ys) ≡ asked names xs ++ asked names ys
        → (if b then x ∷ asked names (xs ++ ys) else asked names (xs ++ ys))
        ≡ (if b then x ∷ asked names xs else asked names xs) ++ asked names ys
    by true more = ap (λ zs. x ∷ zs) more
    by false more = more

module _ (names : List (List ℕ)) (xs : List Resource) (i : ℕ) (item : Resource) (within : i < length xs)
    (here : item ≡ get_or xs i item) where
  asked_more : asked names (map resource_view (take (i + 1) xs))
      ≡ asked names (map resource_view (take i xs)) ++ asked names (resource_view item ∷ [])
  asked_more =
      let more : map resource_view (take (i + 1) xs) ≡ map resource_view (take i xs) ++ resource_view item ∷ [] =
      rw (← here) at (map_more resource_view xs i item within) in
      ap (asked names) more
      ∙ asked_append names (map resource_view (take i xs)) (resource_view item ∷ [])

  -- one resource more that is not asked for
  pub asked_no : is_wanted names (resource_view item) ≡ false
      → asked names (map resource_view (take (i + 1) xs)) ≡ asked names (map resource_view (take i xs))
  asked_no not =
      let none : asked names (resource_view item ∷ []) ≡ [] = rw not refl in
      asked_more ∙ ap (λ ys. asked names (map resource_view (take i xs)) ++ ys) none ∙ append-nil _

  -- one that is asked for
  pub asked_yes : is_wanted names (resource_view item) ≡ true
      → asked names (map resource_view (take (i + 1) xs))
      ≡ asked names (map resource_view (take i xs)) ++ resource_view item ∷ []
  asked_yes is =
      let one : asked names (resource_view item ∷ []) ≡ resource_view item ∷ [] =
      rw is refl in
      asked_more ∙ ap (λ ys. asked names (map resource_view (take i xs)) ++ ys) one

  -- its message is not among the others
  pub same_more : (items now : List (List ℕ))
      → AllZip (λ r b. ExtensionWritten (extension_of r) b) (asked names (map resource_view (take i xs))) items
      → is_wanted names (resource_view item) ≡ false → now ≡ items
      → AllZip (λ r b. ExtensionWritten (extension_of r) b) (asked names (map resource_view (take (i + 1) xs))) now
  same_more items now so_far not same = rw (same, asked_no not) so_far

  -- its message stands behind the others
  pub sent_more : {B : Type 0} (view : B → List ℕ) (items now : List B) (bytes : B)
      → AllZip (λ r b. ExtensionWritten (extension_of r) b) (asked names (map resource_view (take i xs))) (map view items)
      → is_wanted names (resource_view item) ≡ true
      → ExtensionWritten (extension_of (resource_view item)) (view bytes)
      → now ≡ items ++ bytes ∷ []
      → AllZip (λ r b. ExtensionWritten (extension_of r) b) (asked names (map resource_view (take (i + 1) xs)))
      (map view now)
  sent_more view items now bytes so_far is written pushed =
      rw (pushed, map-append view items (bytes ∷ []), asked_yes is)
      (zip_push (λ r b. ExtensionWritten (extension_of r) b) (asked names (map resource_view (take i xs)))
      (map view items) (resource_view item) (view bytes) so_far written)

-- messages as resources of a response
pub sent_as : {B : Type 0} (view : B → List ℕ) (rs : List ResourceValue) (values : List B)
    → AllZip (λ r b. ExtensionWritten (extension_of r) b) rs (map view values)
    → AllZip IsSentAs rs (map (λ b. any_of (view b)) values)
sent_as view [] [] all = tt
sent_as view [] (b ∷ values) all = absurd all
sent_as view (r ∷ rs) [] all = absurd all
sent_as view (r ∷ rs) (b ∷ values) (one, all) = ((refl, one), sent_as view rs values all)

-- a response with these messages sends the snapshot
pub is_response : {B : Type 0} (view : B → List ℕ) (snapshot : List ResourceValue) (names : List (List ℕ))
    (number count : ℕ) (version nonce bytes : List ℕ) (values : List B)
    → version ≡ decimal number → nonce ≡ decimal count
    → AllZip (λ r b. ExtensionWritten (extension_of r) b) (asked names snapshot) (map view values)
    → ResponseIsOf version nonce (map (λ b. any_of (view b)) values) bytes
    → (response : ResponseMessage) × IsResponseOf snapshot names number count response
    × ResponseWritten response bytes
is_response view snapshot names number count version nonce bytes values is_version is_nonce each written = (
  record {
    version_info = version;
    resources = map (λ b. any_of (view b)) values;
    type_url = extension_type;
    nonce = nonce;
  },
  record {
    version = is_version;
    resources = sent_as view (asked names snapshot) values each;
    type_url = refl;
    nonce = is_nonce;
  },
  written,
)

-- a place of a list
place_is : (xs : List Snapshot) (k : ℕ) (d : Snapshot) → k < length xs
    → (before after : List (List ResourceValue))
    × (snapshots_view xs ≡ before ++ snapshot_view (get_or xs k d) ∷ after) × (k ≡ length before)
place_is [] k d within = absurd (omega arith)
place_is (x ∷ xs) zero d within = ([], snapshots_view xs, refl, refl)
place_is (x ∷ xs) (suc k) d within =
    let more = place_is xs k d (omega arith) in
    (snapshot_view x ∷ more.0, more.1, ap (λ ys. snapshot_view x ∷ ys) more.2, ap (λ n. suc n) more.3)

-- the snapshot of a number is the one at the place below it
pub at_place : (xs : List Snapshot) (number place : ℕ) (found : Option (Bor Snapshot)) → 1 ≤ number
    → place ≡ number - 1
    → MatchOption found (length xs ≤ place) (λ x. (place < length xs) × HoldsAt (λ y. x.now ≡ y) xs place)
    → IfSome found (λ x. x.now ≡ get_or xs place x.now)
    → MatchOption found ((s : List ResourceValue) → IsSnapshot (snapshots_view xs) number s → ⊥)
    (λ s. IsSnapshot (snapshots_view xs) number (snapshot_view s.now))
at_place xs number place None some below past here = λ s (before, after, whole, is).
    absurd (omega (arith, ap length whole, length-append before (s ∷ after), length-map xs snapshot_view))
at_place xs number place (Some x) some below (within, at) here =
    let found = place_is xs place x.now within in
    (found.0, found.1, rw (← here) at found.2, omega (arith, found.3))

-- a text without bytes
pub no_bytes : (bytes : List ℕ) → length bytes ≡ 0 → bytes ≡ []
no_bytes [] none = refl
no_bytes (b ∷ bytes) none = absurd (omega (arith, none))

-- what holds of the messages so far: whatever the others are served, all are served so
abbrev pub GoesOn : List (List ResourceValue) → ServedValue → List (List ℕ) → List ℕ → List Exchange → ServedValue
    → List (List ℕ) → List ℕ → List Exchange → Type 0
GoesOn snapshots start all before reported now rest after later =
    (done numbers : List ℕ) × (added : List Exchange) × (after ≡ before ++ done) × (later ≡ reported ++ added)
    × ((others : List Exchange) (more nums : List ℕ) (new : ServedValue) (reason : Option Ended)
    → AreExchanged snapshots now rest others more nums new reason
    → AreExchanged snapshots start all (added ++ others) (done ++ more) (numbers ++ nums) new reason)

module _ (snapshots : List (List ResourceValue)) (start : ServedValue) (all : List (List ℕ)) (before : List ℕ)
    (reported : List Exchange) where
  pub goes_on_from : GoesOn snapshots start all before reported start all before reported
  goes_on_from =
      ([], [], [], sym (append-nil before), sym (append-nil reported), λ others more nums new reason is. is)

  -- all messages are served, and the replies and the exchanges stand behind those that were there
  abbrev pub AllExchanged : Serving → Option Ended → Type 0
  AllExchanged now reason = (exchanges : List Exchange) × (replies numbers : List ℕ)
      × AreExchanged snapshots start all exchanges replies numbers (served_view now.served) reason
      × (now.exchanges.items ≡ reported ++ exchanges) × (now.replies.items ≡ before ++ replies)

  -- what holds of the messages so far, as the draft has it
  abbrev pub SoFar : Serving → List (List ℕ) → Type 0
  SoFar now rest =
      GoesOn snapshots start all before reported (served_view now.served) rest now.replies.items now.exchanges.items

  -- one message more is served
  pub goes_on_more : (now new : Serving) (message : List ℕ) (rest : List (List ℕ)) → SoFar now (message ∷ rest)
      → MessageIsServed snapshots message now new None → SoFar new rest
  goes_on_more now new message rest (done, numbers, added, so_far, reported_so, whole)
      (a_request request reads (replies, nums, x, serves, is, grown, pushed)) = (
        done ++ replies,
        numbers ++ nums,
        added ++ x ∷ [],
        grown ∙ ap (λ xs. xs ++ replies) so_far ∙ append_assoc before done replies,
        pushed ∙ ap (λ xs. xs ++ x ∷ []) reported_so ∙ append_assoc reported added (x ∷ []),
        λ others more later last reason rest'.
            rw (append_assoc done replies more, append_assoc numbers nums later, append_assoc added (x ∷ []) others)
            (whole (x ∷ others) (replies ++ more) (nums ++ later) last reason
            (inr (inr (
              request,
              x,
              others,
              replies,
              more,
              nums,
              later,
              served_view new.served,
              reads,
              serves,
              is,
              refl,
              refl,
              refl,
              rest',
            )))),
      )
  goes_on_more now new message rest so_far (no_request e fault is same) = absurd cc

  -- no message is left
  pub goes_on_end : (now : Serving) → SoFar now [] → AllExchanged now None
  goes_on_end now (done, numbers, added, so_far, reported_so, whole) = (
    added,
    done,
    numbers,
    rw (append-nil done, append-nil numbers, append-nil added) at
        (whole [] [] [] (served_view now.served) None (refl, refl, refl, refl, refl)),
    reported_so,
    so_far,
  )

  -- a message ends the stream
  pub goes_on_stop : (now new : Serving) (message : List ℕ) (rest : List (List ℕ)) (reason : Ended)
      → SoFar now (message ∷ rest) → MessageIsServed snapshots message now new (Some reason)
      → AllExchanged new (Some reason)
  goes_on_stop now new message rest reason (done, numbers, added, so_far, reported_so, whole)
      (a_request request reads ((replies, nums, x, serves, is, grown, pushed), why)) = (
        added ++ x ∷ [],
        done ++ replies,
        numbers ++ nums,
        whole (x ∷ []) replies nums (served_view new.served) (Some reason)
            (inr (inl (request, x, reads, serves, is, refl, ap Some why))),
        pushed ∙ ap (λ xs. xs ++ x ∷ []) reported_so ∙ append_assoc reported added (x ∷ []),
        grown ∙ ap (λ xs. xs ++ replies) so_far ∙ append_assoc before done replies,
      )
  goes_on_stop now new message rest reason (done, numbers, added, so_far, reported_so, whole)
      (no_request e fault is same) = (
        added,
        done,
        numbers,
        rw (append-nil done, append-nil numbers, append-nil added) at
            (whole [] [] [] (served_view new.served) (Some reason)
            (inl ((e, fault, is), refl, refl, refl, ap (λ (s : Serving). served_view s.served) same))),
        ap (λ (s : Serving). s.exchanges.items) same ∙ reported_so,
        ap (λ (s : Serving). s.replies.items) same ∙ so_far,
      )

-- what is reported of the messages behind nothing
pub from_exchanged : (snapshots : List (List ResourceValue)) (start : ServedValue) (ms : List (List ℕ))
    (before : List ℕ) (reported : List Exchange) (now : Serving) (reason : Option Ended) → before ≡ [] → reported ≡ []
    → AllExchanged snapshots start ms before reported now reason
    → (numbers : List ℕ)
    × AreExchanged snapshots start ms now.exchanges.items now.replies.items numbers (served_view now.served) reason
from_exchanged snapshots start ms before reported now reason none empty (exchanges, replies, numbers, is, each, all) =
    let sent : now.replies.items ≡ replies = all ∙ ap (λ xs. xs ++ replies) none in
    let heard : now.exchanges.items ≡ exchanges = each ∙ ap (λ xs. xs ++ exchanges) empty in
    (numbers, rw (sent, heard) is)

-- ---- what was sent for a request

since_same : (n : ℕ) (s : ServedValue) (replies : List ℕ) → s.sent ≡ n → replies ≡ []
    → IsSentFor replies (sent_since n s)
since_same n s replies same none = by (s.sent == n) refl
  where
    by : (b : Bool) → s.sent == n ≡ b
        → IsSentFor replies (if b then None else Some (record { snapshot = s.current; count = s.sent }))
    by true is = none
    by false is = absurd (eqb-false s.sent n is same)

since_more : (n : ℕ) (s : ServedValue) (replies message : List ℕ) (response : ResponseMessage) → s.sent ≡ n + 1
    → ResponseWritten response message → replies ≡ frame_of message → response.version_info ≡ decimal s.current
    → response.nonce ≡ decimal s.sent → IsSentFor replies (sent_since n s)
since_more n s replies message response more written frame version nonce = by (s.sent == n) refl
  where
    by : (b : Bool) → s.sent == n ≡ b
        → IsSentFor replies (if b then None else Some (record { snapshot = s.current; count = s.sent }))
    by false is = (response, message, written, frame, version, nonce)
    by true is = absurd (omega (arith, eqb-true s.sent n is, more))

sends_since : (snapshots : List (List ResourceValue)) (names : List (List ℕ)) (old new : ServedValue)
    (replies : List ℕ) (ends : Bool) → Sends snapshots names old replies new ends
    → IsSentFor replies (sent_since old.sent new)
sends_since snapshots names old new replies ends (Sends.none none nothing same goes) =
    since_same old.sent new replies (ap (λ (s : ServedValue). s.sent) same) nothing
sends_since snapshots names old new replies ends (sent snapshot response message there few is written short frame same goes) =
    rw same (since_more old.sent (sent_one old) replies message response refl written frame is.version is.nonce)
sends_since snapshots names old new replies ends (too_long snapshot response message there few is written long nothing same stops) =
    since_same old.sent new replies (ap (λ (s : ServedValue). s.sent) same) nothing
sends_since snapshots names old new replies ends (too_many snapshot there many nothing same stops) =
    since_same old.sent new replies (ap (λ (s : ServedValue). s.sent) same) nothing

advances_since : (snapshots : List (List ResourceValue)) (names : List (List ℕ)) (old new : ServedValue)
    (replies : List ℕ) (ends : Bool) → Advances snapshots names old replies new ends
    → IsSentFor replies (sent_since old.sent new)
advances_since snapshots names old new replies ends (at_last last nothing same goes) =
    since_same old.sent new replies (ap (λ (s : ServedValue). s.sent) same) nothing
advances_since snapshots names old new replies ends (next more sends) =
    sends_since snapshots names (advanced old) new replies ends sends

-- what was sent for a request is the response that its serving counted
pub served_since : (snapshots : List (List ResourceValue)) (request : RequestMessage) (old new : ServedValue)
    (replies numbers : List ℕ) (ends : Bool) → Serves snapshots request old replies numbers new ends
    → IsSentFor replies (sent_since old.sent new)
served_since snapshots request old new replies numbers ends (first is sends none) =
    sends_since snapshots request.resource_names old new replies ends sends
served_since snapshots request old new replies numbers ends (ack is advances one) =
    advances_since snapshots request.resource_names (recorded old) new replies ends advances
served_since snapshots request old new replies numbers ends (nack is advances none) =
    advances_since snapshots request.resource_names old new replies ends advances
served_since snapshots request old new replies numbers ends (ignored x y z nothing same goes none) =
    since_same old.sent new replies (ap (λ (s : ServedValue). s.sent) same) nothing

-- the exchange of a request that was served stands behind the others
pub taken_so : (snapshots : List (List ResourceValue)) (request : RequestMessage) (old now : ServedValue)
    (before after : List ℕ) (xs ys : List Exchange) (x : Exchange) (ends reported : Bool) → reported ≡ ends
    → IsServed snapshots request old before after now reported → string_bytes x.version ≡ request.version_info
    → string_bytes x.nonce ≡ request.response_nonce → Says request x.meaning → x.sent ≡ sent_since old.sent now
    → ys ≡ xs ++ x ∷ [] → (replies numbers : List ℕ) × (y : Exchange)
    × Serves snapshots request old replies numbers now ends × IsExchange request replies y
    × (after ≡ before ++ replies) × (ys ≡ xs ++ y ∷ [])
taken_so snapshots request old now before after xs ys x ends reported is (numbers, (added, serves, grown)) version nonce says
    since pushed = (
      added,
      numbers,
      x,
      rw is at serves,
      record {
        version = version;
        nonce = nonce;
        says = says;
        sent = rw since (served_since snapshots request old now added numbers reported serves);
      },
      grown,
      pushed,
    )

-- the messages are served as they are reported
pub exchanged_served : (snapshots : List (List ResourceValue)) (old : ServedValue) (ms : List (List ℕ))
    (xs : List Exchange) (replies numbers : List ℕ) (new : ServedValue) (reason : Option Ended)
    → AreExchanged snapshots old ms xs replies numbers new reason
    → AreServed snapshots old ms replies numbers new (is_some reason)
exchanged_served snapshots old [] xs replies numbers new reason (none, nothing, empty, same, goes) =
    (nothing, empty, same, ap (λ (o : Option Ended). is_some o) goes)
exchanged_served snapshots old (m ∷ ms) xs replies numbers new reason
    (inl ((e, fault, is), none, nothing, empty, same)) =
    inl ((e, fault), nothing, empty, same, ap (λ (o : Option Ended). is_some o) is)
exchanged_served snapshots old (m ∷ ms) xs replies numbers new reason
    (inr (inl (request, x, reads, serves, is, one, why))) =
    inr (inl (request, reads, serves, ap (λ (o : Option Ended). is_some o) why))
exchanged_served snapshots old (m ∷ ms) xs replies numbers new reason
    (inr (inr (request, x, others, head, more, now, later, between, reads, serves, is, reported, all, nums, rest))) =
    inr (inr (
      request,
      head,
      more,
      now,
      later,
      between,
      reads,
      serves,
      all,
      nums,
      exchanged_served snapshots between ms others more later new reason rest,
    ))

-- a request is served by what it is, for the names that it asks for
module _ (snapshots : List (List ResourceValue)) (request : RequestMessage) (old new : ServedValue)
    (names : List (List ℕ)) (before after : List ℕ) (ends : Bool) (same : names ≡ request.resource_names) where
  pub first_served : IsFirst old request
      → AddsReplies (λ added. Sends snapshots names old added new ends) before after
      → IsServed snapshots request old before after new ends
  first_served kind (added, sends, grown) =
      ([], (added, first kind (rw same at sends) refl, grown))

  pub ack_served : IsAck old request
      → AddsReplies (λ added. Advances snapshots names (recorded old) added new ends) before after
      → IsServed snapshots request old before after new ends
  ack_served kind (added, advances, grown) =
      (old.current ∷ [], (added, ack kind (rw same at advances) refl, grown))

  pub nack_served : IsNack old request
      → AddsReplies (λ added. Advances snapshots names old added new ends) before after
      → IsServed snapshots request old before after new ends
  nack_served kind (added, advances, grown) =
      ([], (added, nack kind (rw same at advances) refl, grown))
