-- The messages of an update stream, answered one after the other.
use Rattle.std.proofs.Common.{◌≡◌, inl, inr, ℕ, Bool, true, false, true≢false, List, [], ◌∷◌, ◌++◌, refl, sym, ap}
use Rattle.std.specs.Prelude.{is_none}
use Rattle.proto_wire.specs.declared.refusal.Refusal.{Refusal}
use Rattle.xds_wire.specs.Discovery.{ResponseFault}
use Rattle.xds_wire.specs.Frames.{Tail, unfinished, broken}
use Rattle.ads.specs.Config.{ConfigValue}
use Rattle.ads.specs.Answer.{Accepted}
use Rattle.ads.specs.Client.{AreAnswered, stream_after}
use Rattle.proxy_core.specs.Run.{Acknowledged, AreExchanges, AreSent, Exchange, StreamGoesOn, is_unfinished, bad_frame, no_response, acknowledged_after}
use Rattle.proxy_core.proofs.Standing.{StandsFor, answer_stands}

pub after_append : (a : Acknowledged) (xs ys : List Exchange)
    → acknowledged_after a (xs ++ ys) ≡ acknowledged_after (acknowledged_after a xs) ys
after_append a [] ys = refl
after_append a (x ∷ xs) ys = after_append x.after xs ys

pub exchanges_append : (c : ConfigValue) (a : Acknowledged) (ms ns : List (List ℕ)) (xs ys : List Exchange)
    → AreExchanges c a ms xs → AreExchanges c (acknowledged_after a xs) ns ys → AreExchanges c a (ms ++ ns) (xs ++ ys)
exchanges_append c a [] ns xs ys none more = rw none (rw none at more)
exchanges_append c a (m ∷ ms) ns [] ys bad more = absurd bad
exchanges_append c a (m ∷ ms) ns (x ∷ xs) ys (reads, answers, all) more =
    (reads, answers, exchanges_append c x.after ms ns xs ys all more)

-- those behind others are answered from what was acknowledged after these
pub exchanges_behind : (c : ConfigValue) (a : Acknowledged) (ms : List (List ℕ)) (xs ys : List Exchange)
    → AreExchanges c a ms (xs ++ ys) → (ns : List (List ℕ)) × AreExchanges c (acknowledged_after a xs) ns ys
exchanges_behind c a ms [] ys all = (ms, all)
exchanges_behind c a [] (x ∷ xs) ys all = absurd cc
exchanges_behind c a (m ∷ ms) (x ∷ xs) ys (reads, answers, all) = exchanges_behind c x.after ms xs ys all

-- the messages that were answered, and why the others were not
pub data Left (others : List (List ℕ)) (ends : Bool) : Type 0 where
  all_read : others ≡ [] → ends ≡ false → Left others ends
  one_faulty : (message : List ℕ) (more : List (List ℕ)) (e : Refusal) → others ≡ message ∷ more
      → ResponseFault message e → ends ≡ true → Left others ends

pub record Walked (c : ConfigValue) (w : Acknowledged) (messages : List (List ℕ)) (replies : List ℕ) (new : Accepted)
    (ends : Bool) : Type 0 where
  pub read : List (List ℕ)
  pub others : List (List ℕ)
  pub exchanges : List Exchange
  pub whole : messages ≡ read ++ others
  pub are : AreExchanges c w read exchanges
  pub sent : AreSent exchanges replies
  pub stands : StandsFor c.limits new (acknowledged_after w exchanges)
  pub left : Left others ends

pub walked : (messages : List (List ℕ)) (c : ConfigValue) (old : Accepted) (replies : List ℕ) (versions : List (List ℕ))
    (new : Accepted) (ends : Bool) (w : Acknowledged) → AreAnswered c old messages replies versions new ends
    → StandsFor c.limits old w → Walked c w messages replies new ends
walked [] c old replies versions new ends w (none, nothing, same, stops) s = record {
  read = [];
  others = [];
  exchanges = [];
  whole = refl;
  are = refl;
  sent = none;
  stands = rw same s;
  left = all_read refl stops;
}
walked (m ∷ messages) c old replies versions new ends w (inl ((e, fault), none, nothing, same, stops)) s = record {
  read = [];
  others = m ∷ messages;
  exchanges = [];
  whole = refl;
  are = refl;
  sent = none;
  stands = rw same s;
  left = one_faulty m messages e refl fault stops;
}
walked (m ∷ messages) c old replies versions new ends w
    (inr (response, reply, next, more, later, reads, answers, frame, reported, all)) s =
    let one = answer_stands c response old next reply w answers s in
    let rest = walked messages c next more later new ends one.after all one.stands in record {
      read = m ∷ rest.read;
      others = rest.others;
      exchanges = record { response = response; reply = reply; after = one.after } ∷ rest.exchanges;
      whole = ap (λ (ms : List (List ℕ)). m ∷ ms) rest.whole;
      are = (reads, one.answers, rest.are);
      sent = (more, frame, rest.sent);
      stands = rest.stands;
      left = rest.left;
    }

-- how the stream goes on behind them
pub goes_on : (others : List (List ℕ)) (tail : Tail) (ends : Bool) → Left others ends
    → StreamGoesOn others tail (is_none (stream_after ends tail))
goes_on others (unfinished rest) false (all_read none goes) = is_unfinished rest none refl refl
goes_on others (broken fault) false (all_read none goes) = bad_frame fault none refl refl
goes_on others tail true (all_read none goes) = absurd (true≢false goes)
goes_on others tail false (one_faulty m more e is fault stops) = absurd (true≢false (sym stops))
goes_on others tail true (one_faulty m more e is fault stops) = no_response m more e is fault refl
