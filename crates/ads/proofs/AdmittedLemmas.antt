-- What filters have was admitted for the configuration's limits, whatever responses are answered.
use Rattle.std.proofs.Common.{◌≡◌, inl, inr, ℕ, Bool, true, false, Option, Some, None, List, [], ◌∷◌, map, refl, sym, bytes_eq, if◌then◌else◌}
use Rattle.std.specs.List.{AllZip}
use Rattle.std.proofs.Math.Logic.{∥∥₁_elim, ∥∥₁_prop}
use Rattle.std.proofs.Props.{props}
use Rattle.std.proofs.lemmas.Grind.{merely}
use Rattle.std.proofs.lemmas.Slice.Eq.{bytes_eq-Decides}
use Rattle.attributes.specs.Limits.{LimitsValue}
use Rattle.xds_wire.specs.Discovery.{RequestMessage, ResponseMessage, ExtensionMessage}
use Rattle.proto_wire.specs.Merge.{SomeOf}
use Rattle.ads.specs.Config.{ConfigValue, FilterValue}
use Rattle.ads.specs.Answer.{Accepted, AdmittedValue, Answers, ack, nack, no_memory, Gives, named, replaced}
use Rattle.ads.specs.Client.{AreAnswered, WasAdmitted, WasAdmittedAs, policies_at}

module _ (limits : LimitsValue) where
  -- nothing was accepted
  pub none_admitted : (fs : List FilterValue) → AllZip (WasAdmitted limits) fs (map (λ f. None) fs)
  none_admitted [] = tt
  none_admitted (f ∷ fs) = (tt, none_admitted fs)

  one_admitted : (f : FilterValue) (xs : List ExtensionMessage) (given : Option AdmittedValue)
      → Gives limits f xs given → WasAdmitted limits f given
  one_admitted f [] given none = rw none tt
  one_admitted f (x ∷ []) given (bytes, a, holds, (policies, enforced, admits, same), is) =
      rw (is, same) (refl, bytes, policies, admits)
  one_admitted f (x ∷ y ∷ xs) given bad = absurd bad

  -- what is given takes its place
  replaced_admitted : (xs : List ExtensionMessage) (fs : List FilterValue) (old given : List (Option AdmittedValue))
      → AllZip (WasAdmitted limits) fs old → AllZip (λ f. Gives limits f (named f.name xs)) fs given
      → AllZip (WasAdmitted limits) fs (replaced old given)
  replaced_admitted xs [] [] [] all gives = tt
  replaced_admitted xs [] [] (g ∷ given) all gives = absurd gives
  replaced_admitted xs [] (o ∷ old) given all gives = absurd all
  replaced_admitted xs (f ∷ fs) [] given all gives = absurd all
  replaced_admitted xs (f ∷ fs) (o ∷ old) [] all gives = absurd gives
  replaced_admitted xs (f ∷ fs) (o ∷ old) (Some new ∷ given) (is, all) (gives, others) =
      (one_admitted f (named f.name xs) (Some new) gives, replaced_admitted xs fs old given all others)
  replaced_admitted xs (f ∷ fs) (o ∷ old) (None ∷ given) (is, all) (gives, others) =
      (is, replaced_admitted xs fs old given all others)

  -- what the filter of a name has was admitted
  pub found_admitted : (name : List ℕ) (fs : List FilterValue) (ps : List (Option AdmittedValue)) (a : AdmittedValue)
      → policies_at name fs ps ≡ Some a → AllZip (WasAdmitted limits) fs ps
      → SomeOf (λ f. (f.name ≡ name) × WasAdmitted limits f (Some a)) fs
  found_admitted name [] ps a is all = absurd cc
  found_admitted name (f ∷ fs) [] a is all = absurd all
  found_admitted name (f ∷ fs) (p ∷ ps) a is (one, all) =
      by (bytes_eq name f.name) refl is (λ more. found_admitted name fs ps a more all)
    where
      by : (b : Bool) → bytes_eq name f.name ≡ b → (if b then p else policies_at name fs ps) ≡ Some a
          → (policies_at name fs ps ≡ Some a → SomeOf (λ f. (f.name ≡ name) × WasAdmitted limits f (Some a)) fs)
          → SomeOf (λ f. (f.name ≡ name) × WasAdmitted limits f (Some a)) (f ∷ fs)
      by true same here more = inl (sym ((bytes_eq-Decides name f.name).0 same), rw here at one)
      by false same here more = inr (more here)

  pub its_limits : (name : List ℕ) (fs : List FilterValue) (a : AdmittedValue)
      → SomeOf (λ f. (f.name ≡ name) × WasAdmitted limits f (Some a)) fs → a.limits ≡ limits
  its_limits name [] a some = absurd some
  its_limits name (f ∷ fs) a (inl (same, is)) = is.0
  its_limits name (f ∷ fs) a (inr some) = its_limits name fs a some

-- the filters were admitted, reported of a client's ghost field
pub merely_found : (c : ConfigValue) (name : List ℕ) (ps : List (Option AdmittedValue)) (a : AdmittedValue)
    → policies_at name c.filters ps ≡ Some a → ∥ AllZip (WasAdmitted c.limits) c.filters ps ∥₁
    → ∥ WasAdmittedAs c name a ∥₁
merely_found c name ps a is all =
    ∥∥₁_elim all ∥∥₁_prop (λ each. merely (found_admitted c.limits name c.filters ps a is each))

pub merely_limits : (c : ConfigValue) (name : List ℕ) (a : AdmittedValue) → ∥ WasAdmittedAs c name a ∥₁
    → a.limits ≡ c.limits
merely_limits c name a was =
    ∥∥₁_elim was (Prim.hlevel props) (its_limits c.limits name c.filters a)

answer_admitted : (c : ConfigValue) (response : ResponseMessage) (old new : Accepted) (reply : RequestMessage)
    → Answers c response old reply new → AllZip (WasAdmitted c.limits) c.filters old.policies
    → AllZip (WasAdmitted c.limits) c.filters new.policies
answer_admitted c response old new reply (ack accepts reported) all =
    rw accepts.policies
    (replaced_admitted c.limits accepts.extensions c.filters old.policies accepts.given all accepts.gives)
answer_admitted c response old new reply (nack e refuses same reported) all = rw same all
answer_admitted c response old new reply (no_memory admitting same reported) all = rw same all

-- whatever is answered
all_admitted : (c : ConfigValue) (old : Accepted) (messages : List (List ℕ)) (replies : List ℕ)
    (versions : List (List ℕ)) (new : Accepted) (ends : Bool)
    → AreAnswered c old messages replies versions new ends
    → AllZip (WasAdmitted c.limits) c.filters old.policies
    → AllZip (WasAdmitted c.limits) c.filters new.policies
all_admitted c old [] replies versions new ends (none, nothing, same, goes_on) all = rw same all
all_admitted c old (m ∷ messages) replies versions new ends (inl (fault, none, nothing, same, stops)) all =
    rw same all
all_admitted c old (m ∷ messages) replies versions new ends
    (inr (response, reply, next, more, later, reads, answers, frame, reported, others)) all =
    all_admitted c next messages more later new ends others (answer_admitted c response old next reply answers all)

-- reported of a client's ghost field
pub merely_all : (c : ConfigValue) (old new : Accepted) (messages : List (List ℕ)) (replies : List ℕ)
    (versions : List (List ℕ)) (ends : Bool)
    → AreAnswered c old messages replies versions new ends
    → ∥ AllZip (WasAdmitted c.limits) c.filters old.policies ∥₁
    → ∥ AllZip (WasAdmitted c.limits) c.filters new.policies ∥₁
merely_all c old new messages replies versions ends answered all =
    ∥∥₁_elim all ∥∥₁_prop (λ each. merely (all_admitted c old messages replies versions new ends answered each))

-- of a client that has accepted nothing
pub merely_none : (c d : ConfigValue) (ps : List (Option AdmittedValue)) → d ≡ c → ps ≡ map (λ f. None) c.filters
    → ∥ AllZip (WasAdmitted d.limits) d.filters ps ∥₁
merely_none c d ps same none = rw (same, none) (merely (none_admitted c.limits c.filters))
