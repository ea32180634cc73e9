-- One round more, and what a round does with the streams that it was given.
use Rattle.std.proofs.Common.{◌≡◌, ◌⊎◌, ◌+◌, ℕ, zero, suc, Bool, false, List, Option, Some, None, Result, Ok, Err, inl, inr, refl}
use Rattle.std.specs.Prelude.{IfOk, OnErr}
use native.Mathlib.Numerals.{unary_clauses}
use Rattle.attributes.specs.Conn.{Facts}
use Rattle.ads.specs.Control.{ControlValue}
use Rattle.proxy_core.specs.Step.{ProxyValue}
use Rattle.stream_pumps.specs.ControlPump.{ServesStream}
use Rattle.stream_pumps.specs.Pumps.{EndsUpdates, Opens, Serves}
use Rattle.stream_pumps.specs.Rounds.{ComesUp, ReceivesUpdates, IsRound, Link, Rounds, ServesOne, ServesOneStream, TakesWhereUp, link_of}

module _ (Connects Accepts : Option Link → Type 0) (facts : Facts) where
  rounds_more : (rounds : ℕ) (old then new : ProxyValue) (before link after : Option Link)
      → Rounds Connects Accepts facts rounds old then before link → IsRound Connects Accepts facts then new link after
      → Rounds Connects Accepts facts (suc rounds) old new before after
  rounds_more zero old then new before link after (same, still) round =
      (new, after, rw (same, still) at round, (refl, refl))
  rounds_more (suc rounds) old then new before link after (next, between, first, rest) round =
      (next, between, first, rounds_more rounds next then new between link after rest round)

  -- counted as the loop does
  pub rounds_next : (rounds : ℕ) (old then new : ProxyValue) (before link after : Option Link)
      → Rounds Connects Accepts facts rounds old then before link → IsRound Connects Accepts facts then new link after
      → Rounds Connects Accepts facts (rounds + 1) old new before after
  rounds_next rounds old then new before link after so_far round =
      simp unary_clauses (rounds_more rounds old then new before link after so_far round)

-- what is accepted by a listener is accepted at its address
serves_at : (Accepts At : Option Link → Type 0) (facts : Facts) (old new : ProxyValue)
    → ((link : Option Link) → Accepts link → At link) → ServesOne Accepts facts old new → ServesOne At facts old new
serves_at Accepts At facts old new there (inl (none, same)) = inl (there None none, same)
serves_at Accepts At facts old new there (inr (link, accepted, serves)) = inr (link, there (Some link) accepted, serves)

-- what is connected by sockets is connected to the address
receives_at : (Connects To : Option Link → Type 0) (old new : ProxyValue) (before after : Option Link)
    → ((link : Option Link) → Connects link → To link) → ReceivesUpdates Connects old new before after
    → ReceivesUpdates To old new before after
receives_at Connects To old new before after to (ReceivesUpdates.up link is takes) = ReceivesUpdates.up link is takes
receives_at Connects To old new before after to (ReceivesUpdates.connected link is connects comes) =
    ReceivesUpdates.connected link is (to (Some link) connects) comes
receives_at Connects To old new before after to (ReceivesUpdates.unreachable is connects ends none) =
    ReceivesUpdates.unreachable is (to None connects) ends none

pub rounds_at : (Connects To Accepts At : Option Link → Type 0) (facts : Facts) (rounds : ℕ) (old new : ProxyValue)
    (before after : Option Link) → ((link : Option Link) → Connects link → To link)
    → ((link : Option Link) → Accepts link → At link)
    → Rounds Connects Accepts facts rounds old new before after → Rounds To At facts rounds old new before after
rounds_at Connects To Accepts At facts zero old new before after to there done = done
rounds_at Connects To Accepts At facts (suc rounds) old new before after to there (next, link, first, rest) = (
  next,
  link,
  record {
    between = first.between;
    receives = receives_at Connects To old first.between before link to first.receives;
    serves = serves_at Accepts At facts first.between next there first.serves;
  },
  rounds_at Connects To Accepts At facts rounds next new link after to there rest,
)

module _ {R W E : Type 0} (remaining : R → Option (List ℕ)) (contents : W → Option (List ℕ)) (ends : Result (R × W) E) where
  -- the update stream that was opened, or none
  pub receives_of : (Connects : Option Link → Type 0) (old new : ProxyValue) (after : Option Link)
      → Connects (link_of remaining contents ends)
      → IfOk ends (λ e. ComesUp old new (remaining e.0, contents e.1) after)
      → OnErr ends (EndsUpdates old new false × (after ≡ None)) → ReceivesUpdates Connects old new None after
  receives_of Connects old new after connects up lost = receives ends connects up lost
    where
      receives : (ends : Result (R × W) E) → Connects (link_of remaining contents ends)
          → IfOk ends (λ e. ComesUp old new (remaining e.0, contents e.1) after)
          → OnErr ends (EndsUpdates old new false × (after ≡ None)) → ReceivesUpdates Connects old new None after
      receives (Ok e) connects up lost = ReceivesUpdates.connected _ refl connects up
      receives (Err e) connects up lost = ReceivesUpdates.unreachable refl connects lost.0 lost.1

  -- the connection that was accepted, or none
  pub serves_of : (Accepts : Option Link → Type 0) (facts : Facts) (old new : ProxyValue)
      → Accepts (link_of remaining contents ends)
      → IfOk ends (λ e. (input_new out_new : Option (List ℕ))
      × Serves old new (remaining e.0) input_new (contents e.1) out_new facts)
      → OnErr ends (new ≡ old) → ServesOne Accepts facts old new
  serves_of Accepts facts old new accepts served none = serves ends accepts served none
    where
      serves : (ends : Result (R × W) E) → Accepts (link_of remaining contents ends)
          → IfOk ends (λ e. (input_new out_new : Option (List ℕ))
          × Serves old new (remaining e.0) input_new (contents e.1) out_new facts)
          → OnErr ends (new ≡ old) → ServesOne Accepts facts old new
      serves (Ok e) accepts served none = inr ((remaining e.0, contents e.1), accepts, served)
      serves (Err e) accepts served none = inl (accepts, none)

  -- the same of a control plane
  pub stream_of : (Accepts At : Option Link → Type 0) (old new : ControlValue)
      → ((link : Option Link) → Accepts link → At link) → Accepts (link_of remaining contents ends)
      → IfOk ends (λ e. (input_new out_new : Option (List ℕ))
      × ServesStream old new (remaining e.0) input_new (contents e.1) out_new)
      → OnErr ends (new ≡ old) → ServesOneStream At old new
  stream_of Accepts At old new there accepts served none = serves ends accepts served none
    where
      serves : (ends : Result (R × W) E) → Accepts (link_of remaining contents ends)
          → IfOk ends (λ e. (input_new out_new : Option (List ℕ))
          × ServesStream old new (remaining e.0) input_new (contents e.1) out_new)
          → OnErr ends (new ≡ old) → ServesOneStream At old new
      serves (Ok e) accepts served none =
          inr ((remaining e.0, contents e.1), there (Some (remaining e.0, contents e.1)) accepts, served)
      serves (Err e) accepts served none = inl (there None accepts, none)

-- an update stream that was opened comes up, or is lost
pub comes_up : (old between new : ProxyValue) (input output out : Option (List ℕ)) (is_up : Bool) (after : Option Link)
    → Opens old between output out is_up → TakesWhereUp is_up between new (input, out) after
    → ComesUp old new (input, output) after
comes_up old between new input output out is_up after opens takes = record {
  between = between;
  out = out;
  is_up = is_up;
  opens = opens;
  takes = takes;
}
