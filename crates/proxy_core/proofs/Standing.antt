-- What is enforced stands for what was written, whatever responses are answered.
use Rattle.std.proofs.Common.{◌≡◌, ◌+◌, ◌-◌, ◌^◌, min, ℕ, Option, Some, None, List, [], ◌∷◌, map, refl, ap, ◌∙◌}
use Rattle.std.specs.List.{AllZip}
use Rattle.attributes.specs.Limits.{LimitsValue}
use Rattle.proto_wire.specs.declared.refusal.Refusal.{Refusal}
use Rattle.xds_wire.specs.Discovery.{ExtensionMessage, RequestMessage, ResponseMessage}
use Rattle.rbac_policy.specs.Admission.{IsAdmittedAs}
use Rattle.ads.specs.Config.{ConfigValue, FilterValue}
use Rattle.ads.specs.Answer.{Accepted, AdmittedValue, Answers, AnswersAs, GivesAs, IsEnforcedOf, ack, nack, no_memory, named, nothing_accepted, replaced, request_of, status_of}
use Rattle.proxy_core.specs.Run.{Acknowledged, AreRules, Rules}

-- this is enforced of these rules
abbrev pub IsEnforced : LimitsValue → Option AdmittedValue → Option Rules → Type 0
IsEnforced limits None None = Unit {0}
IsEnforced limits None (Some rules) = ⊥
IsEnforced limits (Some a) None = ⊥
IsEnforced limits (Some a) (Some rules) = (a.limits ≡ limits) × IsAdmittedAs limits rules a.filter

-- what is accepted is enforced of what was acknowledged
pub record StandsFor (limits : LimitsValue) (a : Accepted) (w : Acknowledged) : Type 0 where
  pub version : a.version ≡ w.version
  pub generation : a.generation ≡ w.generation
  pub policies : AllZip (IsEnforced limits) a.policies w.policies

module _ (limits : LimitsValue) where
  none_policies : (fs : List FilterValue) → AllZip (IsEnforced limits) (map (λ f. None) fs) (map (λ f. None) fs)
  none_policies [] = tt
  none_policies (f ∷ fs) = (tt, none_policies fs)

  -- what is given takes its place
  replaced_stands : (os gs : List (Option AdmittedValue)) (vs hs : List (Option Rules)) → AllZip (IsEnforced limits) os vs
      → AllZip (IsEnforced limits) gs hs → AllZip (IsEnforced limits) (replaced os gs) (replaced vs hs)
  replaced_stands [] gs [] hs none all = all
  replaced_stands [] gs (v ∷ vs) hs bad all = absurd bad
  replaced_stands (o ∷ os) gs [] hs bad all = absurd bad
  replaced_stands (o ∷ os) [] (v ∷ vs) [] stand none = stand
  replaced_stands (o ∷ os) [] (v ∷ vs) (h ∷ hs) stand bad = absurd bad
  replaced_stands (o ∷ os) (g ∷ gs) (v ∷ vs) [] stand bad = absurd bad
  replaced_stands (o ∷ os) (None ∷ gs) (v ∷ vs) (None ∷ hs) (one, stand) (none, all) =
      (one, replaced_stands os gs vs hs stand all)
  replaced_stands (o ∷ os) (None ∷ gs) (v ∷ vs) (Some h ∷ hs) (one, stand) (bad, all) = absurd bad
  replaced_stands (o ∷ os) (Some g ∷ gs) (v ∷ vs) (None ∷ hs) (one, stand) (bad, all) = absurd bad
  replaced_stands (o ∷ os) (Some g ∷ gs) (v ∷ vs) (Some h ∷ hs) (one, stand) (is, all) =
      (is, replaced_stands os gs vs hs stand all)

  one_gives : (f : FilterValue) (xs : List ExtensionMessage) (given : Option AdmittedValue)
      → GivesAs IsEnforcedOf limits f xs given
      → (rules : Option Rules) × GivesAs AreRules limits f xs rules × IsEnforced limits given rules
  one_gives f [] given none = (None, refl, rw none tt)
  one_gives f (x ∷ []) given (bytes, a, holds, (rules, enforced, admits, same), is) = (
    Some rules,
    (bytes, rules, holds, admits.admissible, refl),
    rw (is, same) (refl, (bytes, f.budget, admits)),
  )
  one_gives f (x ∷ y ∷ xs) given bad = absurd bad

  all_give : (xs : List ExtensionMessage) (fs : List FilterValue) (given : List (Option AdmittedValue))
      → AllZip (λ f. GivesAs IsEnforcedOf limits f (named f.name xs)) fs given
      → (rules : List (Option Rules)) × AllZip (λ f. GivesAs AreRules limits f (named f.name xs)) fs rules
      × AllZip (IsEnforced limits) given rules
  all_give xs [] [] none = ([], tt, tt)
  all_give xs [] (g ∷ given) bad = absurd bad
  all_give xs (f ∷ fs) [] bad = absurd bad
  all_give xs (f ∷ fs) (g ∷ given) (one, all) =
      let first = one_gives f (named f.name xs) g one in
      let more = all_give xs fs given all in
      (first.0 ∷ more.0, (first.1, more.1), (first.2, more.2))

pub none_stands : (c : ConfigValue) → StandsFor c.limits (nothing_accepted c) (nothing_accepted c)
none_stands c = record { version = refl; generation = refl; policies = none_policies c.limits c.filters }

-- the answer that is enforced is that of what was written
pub record Answered (c : ConfigValue) (response : ResponseMessage) (new : Accepted) (reply : RequestMessage)
    (w : Acknowledged) : Type 0 where
  pub after : Acknowledged
  pub answers : AnswersAs AreRules c response w reply after
  pub stands : StandsFor c.limits new after

abbrev refusal : ConfigValue → ResponseMessage → Refusal → List ℕ → RequestMessage
refusal c response e version = request_of c version None response.nonce (Some (status_of e))

pub answer_stands : (c : ConfigValue) (response : ResponseMessage) (old new : Accepted) (reply : RequestMessage)
    (w : Acknowledged) → Answers c response old reply new → StandsFor c.limits old w → Answered c response new reply w
answer_stands c response old new reply w (ack accepts reported) s =
    let given = all_give c.limits accepts.extensions c.filters accepts.given accepts.gives in
    let after : Acknowledged = record {
      version = response.version_info;
      policies = replaced w.policies given.0;
      generation = min (w.generation + 1) (2 ^ 64 - 1);
    } in record {
      after = after;
      answers = AnswersAs.ack (record {
        extensions = accepts.extensions;
        given = given.0;
        type_url = accepts.type_url;
        reads = accepts.reads;
        gives = given.1;
        policies = refl;
        version = refl;
        generation = refl;
      }) reported;
      stands = record {
        version = accepts.version;
        generation = accepts.generation ∙ ap (λ (n : ℕ). min (n + 1) (2 ^ 64 - 1)) s.generation;
        policies = rw accepts.policies
            (replaced_stands c.limits old.policies accepts.given w.policies given.0 s.policies given.2);
      };
    }
answer_stands c response old new reply w (nack e refuses same reported) s = record {
  after = w;
  answers = AnswersAs.nack e refuses refl (reported ∙ ap (refusal c response e) s.version);
  stands = rw same s;
}
answer_stands c response old new reply w (no_memory admitting same reported) s = record {
  after = w;
  answers = AnswersAs.no_memory admitting refl (reported ∙ ap (refusal c response Refusal.Memory) s.version);
  stands = rw same s;
}
