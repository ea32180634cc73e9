-- The rounds of a proxy: in each round it reads its update stream, and serves one connection.
use Rattle.std.specs.Prelude.{◌≡◌, ◌⊎◌, ℕ, zero, suc, Bool, true, false, List, Option, Some, None, Result, Ok, Err}
use Rattle.attributes.specs.Conn.{Facts}
use Rattle.proxy_core.specs.Step.{ProxyValue}
use Rattle.ads.specs.Control.{ControlValue}
use Rattle.stream_pumps.specs.ControlPump.{ServesStream}
use Rattle.stream_pumps.specs.Pumps.{EndsUpdates, Opens, Serves, TakesResponse}

-- an update stream that is up: the bytes that it has left to read, and the bytes that were written to it
abbrev pub Link : Type 0
Link = Option (List ℕ) × Option (List ℕ)

-- the stream if it is up, otherwise none
abbrev pub link_after : Link → Bool → Option Link
link_after link true = Some link
link_after link false = None

-- one response of the stream was taken, or the stream was lost
pub record TakesOne (old new : ProxyValue) (link : Link) (after : Option Link) : Type 0 where
  pub next : Link
  pub is_up : Bool
  pub takes : TakesResponse old new link.0 next.0 link.1 next.1 is_up
  pub left : after ≡ link_after next is_up

-- if the stream is up, one response of it was taken; if it is not, nothing happened
abbrev pub TakesWhereUp : Bool → ProxyValue → ProxyValue → Link → Option Link → Type 0
TakesWhereUp true old new link after = TakesOne old new link after
TakesWhereUp false old new link after = (new ≡ old) × (after ≡ None)

-- the stream came up, and one response of it was taken; or it was lost
pub record ComesUp (old new : ProxyValue) (link : Link) (after : Option Link) : Type 0 where
  pub between : ProxyValue
  pub out : Option (List ℕ)
  pub is_up : Bool
  pub opens : Opens old between link.1 out is_up
  pub takes : TakesWhereUp is_up between new (link.0, out) after

-- the ends of a stream that was opened or accepted; None if none was
abbrev pub link_of : {R W E : Type 0} → (R → Option (List ℕ)) → (W → Option (List ℕ)) → Result (R × W) E → Option Link
link_of remaining contents (Ok ends) = Some (remaining ends.0, contents ends.1)
link_of remaining contents (Err e) = None

-- the update stream in a round. If it is up, one response is taken; if it is not, it comes up first. If it cannot be
-- connected, it is lost. `Connects` says which stream connecting gives, or that it gives none
module _ (Connects : Option Link → Type 0) where
  pub data ReceivesUpdates (old new : ProxyValue) (before after : Option Link) : Type 0 where
    up : (link : Link) → before ≡ Some link → TakesOne old new link after → ReceivesUpdates old new before after
    connected : (link : Link) → before ≡ None → Connects (Some link) → ComesUp old new link after
        → ReceivesUpdates old new before after
    unreachable : before ≡ None → Connects None → EndsUpdates old new false → after ≡ None
        → ReceivesUpdates old new before after

-- one connection with these facts was served, or none was accepted. `Accepts` says which is accepted, or that none is
abbrev pub ServesOne : (Option Link → Type 0) → Facts → ProxyValue → ProxyValue → Type 0
ServesOne Accepts facts old new = (Accepts None × (new ≡ old))
    ⊎ ((link : Link) × Accepts (Some link)
    × ((input_new out_new : Option (List ℕ)) × Serves old new link.0 input_new link.1 out_new facts))

module _ (Connects Accepts : Option Link → Type 0) (facts : Facts) where
  -- one round: the update stream first, then a connection
  pub record IsRound (old new : ProxyValue) (before after : Option Link) : Type 0 where
    pub between : ProxyValue
    pub receives : ReceivesUpdates Connects old between before after
    pub serves : ServesOne Accepts facts between new

  -- this many rounds
  abbrev pub Rounds : ℕ → ProxyValue → ProxyValue → Option Link → Option Link → Type 0
  Rounds zero old new before after = (new ≡ old) × (after ≡ before)
  Rounds (suc rounds) old new before after = (next : ProxyValue) × (link : Option Link)
      × IsRound old next before link × Rounds rounds next new link after

-- one stream of the control plane was served, or none was accepted. `Accepts` says which is accepted, or that none is
abbrev pub ServesOneStream : (Option Link → Type 0) → ControlValue → ControlValue → Type 0
ServesOneStream Accepts old new = (Accepts None × (new ≡ old))
    ⊎ ((link : Link) × Accepts (Some link)
    × ((input_new out_new : Option (List ℕ)) × ServesStream old new link.0 input_new link.1 out_new))
