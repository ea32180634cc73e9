-- How the filters of a chain answer a request: Envoy, "HTTP filters", "Filter ordering"; RBAC (config.rbac.v3). That a
-- filter may have no policies yet, and that memory may run out, is this project's own.
use Rattle.std.specs.Prelude.{◌≡◌, ◌⊎◌, ℕ, Bool, true, false, Option, Some, None, List, [], ◌∷◌, ◌++◌, map, codes, bytes_eq, MatchBool, if◌then◌else◌}
use Rattle.attributes.specs.Request.{RequestValue}
use Rattle.proto_wire.specs.Merge.{SomeOf}
use Rattle.ads.specs.Answer.{AcceptedOf}
use Rattle.http_front.specs.Answer.{ReplyValue, answer_of}
use Rattle.http_front.specs.declared.answer.Case.{Case}
use Rattle.http_front.specs.declared.answer.Case.TheVariants as cases
use Rattle.http_front.specs.declared.ask.Ask.{Ask}
use Rattle.http_front.specs.declared.ask.Ask.TheVariants.{Judge, Fault}

-- the verdict of a filter: whether it lets the request through, and the number of the policy that matched
pub record VerdictValue : Type 0 where
  pub allowed : Bool
  pub matched : Option ℕ

-- parameters: which verdict policies give, and whether they ask for a condition
module _ {P : Type 0} (Decides : RequestValue → P → VerdictValue → Type 0) (AsksCondition : RequestValue → P → Type 0) where
  -- each filter has policies. They are tried in configured order, up to the first that refuses. This fixes the verdicts
  -- of the filters that are tried, and whether the request is let through
  abbrev pub Chain : RequestValue → List (Option P) → List VerdictValue → Bool → Type 0
  Chain r [] verdicts is_allowed = (verdicts ≡ []) × (is_allowed ≡ true)
  Chain r (None ∷ filters) verdicts is_allowed = ⊥
  Chain r (Some p ∷ filters) [] is_allowed = ⊥
  Chain r (Some p ∷ filters) (v ∷ verdicts) is_allowed = Decides r p v
      × MatchBool v.allowed (Chain r filters verdicts is_allowed) ((verdicts ≡ []) × (is_allowed ≡ false))

  -- one of the filters that are tried asks for a condition
  abbrev pub ChainAsks : RequestValue → List (Option P) → Type 0
  ChainAsks r [] = ⊥
  ChainAsks r (None ∷ filters) = ⊥
  ChainAsks r (Some p ∷ filters) = AsksCondition r p
      ⊎ ((v : VerdictValue) × Decides r p v × (v.allowed ≡ true) × ChainAsks r filters)

  -- at least one filter has no policies
  abbrev pub IsUnready : List (Option P) → Type 0
  IsUnready filters = SomeOf (λ p. p ≡ None) filters

  -- the case of the answer to a request, and the matches that the answer shows. No filter is tried if one has no
  -- policies. Memory can run out only if a filter that is tried asks for a condition
  pub data Judges (filters : List (Option P)) (r : RequestValue) (case : Case) (matches : List (Option ℕ)) : Type 0 where
    unready : IsUnready filters → case ≡ cases.Unready → matches ≡ [] → Judges filters r case matches
    decided : (verdicts : List VerdictValue) (is_allowed : Bool) → (IsUnready filters → ⊥)
        → Chain r filters verdicts is_allowed → case ≡ (if is_allowed then cases.Allow else cases.Deny)
        → matches ≡ map (λ v. v.matched) verdicts → Judges filters r case matches
    out_of_memory : (IsUnready filters → ⊥) → ChainAsks r filters → case ≡ cases.Memory → matches ≡ []
        → Judges filters r case matches

  -- the answer to the ask of a head. The answer to a HEAD request has no body (RFC 9110, section 9.3.2)
  abbrev pub IsReplyTo : AcceptedOf P → Ask → ReplyValue → Type 0
  IsReplyTo accepted (Judge r closes) reply = Judges accepted.policies r reply.case reply.matches
      × (reply.generation ≡ accepted.generation) × (reply.closes ≡ closes)
      × (reply.is_head ≡ bytes_eq r.method (codes "HEAD"))
  IsReplyTo accepted (Fault fault) reply = reply ≡ record {
    case = cases.Fault fault;
    matches = [];
    generation = accepted.generation;
    closes = true;
    is_head = false;
  }

  -- the bytes are the answers to the asks, in order
  abbrev pub AreRepliesTo : AcceptedOf P → List Ask → List ℕ → Type 0
  AreRepliesTo accepted [] bytes = bytes ≡ []
  AreRepliesTo accepted (ask ∷ asks) bytes = (reply : ReplyValue) × (more : List ℕ) × IsReplyTo accepted ask reply
      × (bytes ≡ answer_of reply ++ more) × AreRepliesTo accepted asks more
