-- What is in flight between a client and a control plane, and the numbers in it.
use Rattle.std.proofs.Common.{◌≡◌, ℕ, ◌+◌, ◌<◌, ◌≤◌, ◌^◌, List, [], ◌∷◌, ◌++◌, length, decimal, ap, ap₂, sym, subst, ◌∙◌, arith, append_assoc}
use Rattle.std.specs.Prelude.{IfSome}
use Rattle.std.specs.List.{AllByRecursion, AllZip}
use Rattle.std.proofs.lemmas.List.Concat.{flat_map-append}
use Rattle.xds_wire.specs.Frames.{frame_of, frames_of}
use Rattle.xds_wire.specs.Discovery.{RequestMessage, ResponseMessage, IsRequest, IsResponse}
use Rattle.ads.specs.Control.{ServedValue, IsAck}
use Rattle.ads.specs.Schedules.{NeverFalls, IsPart, IsLast}
use Rattle.ads.proofs.PartLemmas.{part_same, part_append, part_without, falls_part, all_part, all_weaker, all_put, falls_put, last_put}

-- ---- what a control plane has counted

-- a number is current only once another was sent
pub record IsCounted (s : ServedValue) : Type 0 where
  pub reached : s.current ≤ s.sent + 1
  pub few : s.sent < 2 ^ 64

-- the last response on this stream sent the current number
pub record IsLive (s : ServedValue) : Type 0 where
  pub counted : IsCounted s
  pub last : IfSome s.last (λ n. (n ≤ s.sent) × (s.current ≤ s.sent))

-- ---- messages in flight

-- the message is in a frame, and where it is a response, this is its number
abbrev pub IsSent : List ℕ → ℕ → Type 0
IsSent message k = (length message < 2 ^ 32) × (k < 2 ^ 64)
    × ((r : ResponseMessage) → IsResponse message r → r.version_info ≡ decimal k)

-- the message is in a frame, and where it is an acknowledgement, it is of these numbers
abbrev pub IsAsked : List ℕ → List ℕ → Type 0
IsAsked message acks = (length message < 2 ^ 32) × ((r : RequestMessage) → IsRequest message r
    → (s : ServedValue) → IsLive s → IsAck s r → acks ≡ s.current ∷ [])

-- the numbers that the messages acknowledge, in order
abbrev pub AreAsked : List (List ℕ) → List ℕ → Type 0
AreAsked [] acks = acks ≡ []
AreAsked (m ∷ ms) acks = (a more : List ℕ) × IsAsked m a × (acks ≡ a ++ more) × AreAsked ms more

pub asked_append : (ms ns : List (List ℕ)) (a b : List ℕ) → AreAsked ms a → AreAsked ns b
    → AreAsked (ms ++ ns) (a ++ b)
asked_append [] ns a b none asked = rw none asked
asked_append (m ∷ ms) ns a b (here, more, is, whole, rest) asked = (
  here,
  more ++ b,
  is,
  ap (λ (t : List ℕ). t ++ b) whole ∙ append_assoc here more b,
  asked_append ms ns more b rest asked,
)

pub asked_framed : (ms : List (List ℕ)) (acks : List ℕ) → AreAsked ms acks
    → AllByRecursion (λ message. length message < 2 ^ 32) ms
asked_framed [] acks none = tt
asked_framed (m ∷ ms) acks (here, more, is, whole, rest) = (is.0, asked_framed ms more rest)

pub sent_framed : (ms : List (List ℕ)) (ks : List ℕ) → AllZip IsSent ms ks
    → AllByRecursion (λ message. length message < 2 ^ 32) ms
sent_framed [] ks all = tt
sent_framed (m ∷ ms) [] all = absurd all
sent_framed (m ∷ ms) (k ∷ ks) (is, all) = (is.0, sent_framed ms ks all)

pub zip_append : {A B : Type 0} (R : A → B → Type 0) (xs us : List A) (ys vs : List B) → AllZip R xs ys
    → AllZip R us vs → AllZip R (xs ++ us) (ys ++ vs)
zip_append R [] us [] vs all more = more
zip_append R [] us (y ∷ ys) vs all more = absurd all
zip_append R (x ∷ xs) us [] vs all more = absurd all
zip_append R (x ∷ xs) us (y ∷ ys) vs (is, all) more = (is, zip_append R xs us ys vs all more)

-- frames behind frames
pub frames_append : (before behind : List ℕ) (ms ns : List (List ℕ)) → before ≡ frames_of ms
    → behind ≡ frames_of ns → before ++ behind ≡ frames_of (ms ++ ns)
frames_append before behind ms ns whole is =
    ap₂ (λ (x y : List ℕ). x ++ y) whole is ∙ sym (flat_map-append frame_of ms ns)

-- ---- numbers

-- what was recorded, what was accepted, the acknowledgements in flight and the responses in flight, by their numbers;
-- the current number and the client's version
pub record Numbers (recorded accepted acks unread : List ℕ) (current : ℕ) (version : List ℕ) : Type 0 where
  pub falls : NeverFalls (accepted ++ unread)
  pub within : AllByRecursion (λ n. n ≤ current) (accepted ++ unread)
  pub part : IsPart (recorded ++ acks) accepted
  pub last : (k : ℕ) → IsLast k accepted → version ≡ decimal k

module _ (recorded accepted acks unread : List ℕ) (current : ℕ) (version : List ℕ) where
  -- the client accepts the next response
  pub number_accepted : (k : ℕ) → Numbers recorded accepted acks (k ∷ unread) current version
      → Numbers recorded (accepted ++ k ∷ []) (acks ++ k ∷ []) unread current (decimal k)
  number_accepted k n =
      let same : (accepted ++ k ∷ []) ++ unread ≡ accepted ++ k ∷ unread =
      append_assoc accepted (k ∷ []) unread in record {
        falls = subst NeverFalls (sym same) n.falls;
        within = subst (AllByRecursion (λ m. m ≤ current)) (sym same) n.within;
        part = subst (λ xs. IsPart xs (accepted ++ k ∷ [])) (append_assoc recorded acks (k ∷ []))
            (part_append accepted (recorded ++ acks) (k ∷ []) (k ∷ []) n.part (part_same (k ∷ [])));
        last = λ m is. ap decimal (sym (last_put accepted k m is));
      }

  -- numbers in flight are dropped
  pub numbers_dropped : (some a left : List ℕ) → unread ≡ some ++ left
      → Numbers recorded accepted (a ++ acks) unread current version
      → Numbers recorded accepted acks left current version
  numbers_dropped some a left is n =
      let whole : IsPart (accepted ++ left) (accepted ++ unread) =
      rw is (part_without (accepted ++ (some ++ left)) accepted some left (part_same (accepted ++ (some ++ left)))) in
      record {
        falls = falls_part (accepted ++ unread) (accepted ++ left) whole n.falls;
        within = all_part (λ m. m ≤ current) (accepted ++ unread) (accepted ++ left) whole n.within;
        part = part_without accepted recorded a acks n.part;
        last = n.last;
      }

  -- the control plane records an acknowledgement
  pub number_recorded : (k : ℕ) → Numbers recorded accepted (k ∷ acks) unread current version
      → Numbers (recorded ++ k ∷ []) accepted acks unread current version
  number_recorded k n = record {
    falls = n.falls;
    within = n.within;
    part = subst (λ xs. IsPart xs accepted) (sym (append_assoc recorded (k ∷ []) acks)) n.part;
    last = n.last;
  }

  -- the current number is sent
  pub number_sent : Numbers recorded accepted acks unread current version
      → Numbers recorded accepted acks (unread ++ current ∷ []) current version
  number_sent n =
      let same : (accepted ++ unread) ++ current ∷ [] ≡ accepted ++ (unread ++ current ∷ []) =
      append_assoc accepted unread (current ∷ []) in record {
        falls = subst NeverFalls same (falls_put (accepted ++ unread) current n.falls n.within);
        within = subst (AllByRecursion (λ m. m ≤ current)) same
            (all_put (λ m. m ≤ current) (accepted ++ unread) current n.within (omega arith));
        part = n.part;
        last = n.last;
      }

  -- a later number is current
  pub number_raised : (next : ℕ) → current ≤ next → Numbers recorded accepted acks unread current version
      → Numbers recorded accepted acks unread next version
  number_raised next above n = record {
    falls = n.falls;
    within = all_weaker (λ m. m ≤ current) (λ m. m ≤ next) (λ m below. omega (arith, below, above))
        (accepted ++ unread) n.within;
    part = n.part;
    last = n.last;
  }
