-- Which rules were acknowledged last: xDS REST and gRPC protocol, "ACK and NACK".
use Rattle.std.specs.Prelude.{◌≡◌, ◌⊎◌, ℕ, Option, Some, None, List, [], ◌∷◌, ◌++◌}
use Rattle.xds_wire.specs.Discovery.{ExtensionMessage, RequestMessage, ResponseMessage}
use Rattle.proto_wire.specs.Merge.{SomeOf}
use Rattle.ads.specs.Config.{ConfigValue, FilterValue}
use Rattle.ads.specs.Answer.{HoldsFilter, IsNamed, IsResource, ack_of}
use Rattle.ads.specs.Client.{IsFrameThen}
use Rattle.proxy_core.specs.Run.{AreRules, Exchange, Moment, Rules}

-- a resource of the response gives the filter these rules, which are admissible under the filter's budget
abbrev pub HoldsRules : ConfigValue → FilterValue → ResponseMessage → Rules → Type 0
HoldsRules c f response rules = (extension : ExtensionMessage) × (bytes : List ℕ)
    × SomeOf (λ any. IsResource any extension) response.resources × (extension.name ≡ f.name)
    × HoldsFilter extension bytes × AreRules c.limits f bytes rules

-- the frame of the request is part of the bytes
abbrev pub IsSentIn : List ℕ → RequestMessage → Type 0
IsSentIn bytes request = (before from after : List ℕ) × (bytes ≡ before ++ from) × IsFrameThen request from after

-- the response was acknowledged, and has a resource of the filter's name
abbrev pub IsAckFor : ConfigValue → FilterValue → Exchange → Type 0
IsAckFor c f x = (x.reply ≡ ack_of c x.response) × SomeOf (IsNamed f.name) x.response.resources

-- the response was acknowledged, the frame of that answer is part of `sent`, and the response gave the filter these
-- rules
abbrev pub GaveRules : ConfigValue → FilterValue → Rules → List ℕ → Exchange → Type 0
GaveRules c f rules sent x =
    (x.reply ≡ ack_of c x.response) × HoldsRules c f x.response rules × IsSentIn sent x.reply

-- `Holds` is true of the last element for which `IsSo` is true; there is one
abbrev pub LastOf : {A : Type 0} → (IsSo Holds : A → Type 0) → List A → Type 0
LastOf IsSo Holds [] = ⊥
LastOf IsSo Holds (x ∷ xs) = LastOf IsSo Holds xs ⊎ ((SomeOf IsSo xs → ⊥) × Holds x)

-- the last acknowledged response of the past that has a resource of the filter's name gave the filter these rules
abbrev pub GaveLast : ConfigValue → List Moment → FilterValue → Rules → Type 0
GaveLast c [] f rules = ⊥
GaveLast c (m ∷ past) f rules = LastOf (IsAckFor c f) (GaveRules c f rules m.output.ads) m.exchanges
    ⊎ ((SomeOf (IsAckFor c f) m.exchanges → ⊥) × GaveLast c past f rules)

-- the filter has the rules that it was last given. It has none if no acknowledged response of the past has a resource
-- of its name
abbrev pub HasLast : ConfigValue → List Moment → FilterValue → Option Rules → Type 0
HasLast c past f None = SomeOf (λ m. SomeOf (IsAckFor c f) m.exchanges) past → ⊥
HasLast c past f (Some rules) = GaveLast c past f rules
