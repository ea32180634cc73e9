-- A client's answer to a response, and what it has accepted afterwards: xDS REST and gRPC protocol, "ACK and NACK". The
-- resources are of type `envoy.config.core.v3.TypedExtensionConfig`. The text of a refusal's error is this project's
-- own; its code is that of google.rpc.Code.
use Rattle.std.specs.Prelude.{◌≡◌, ◌≢◌, ◌⊎◌, ℕ, ℤ, pos, ◌+◌, ◌-◌, ◌^◌, min, Option, Some, None, List, [], ◌∷◌, ◌++◌, map, filter, codes, decimal, bytes_eq, IsSomeAnd}
use Rattle.std.specs.List.{AllZip}
use Rattle.attributes.specs.Limits.{LimitsValue}
use Rattle.proto_wire.specs.Refusal.{number_of}
use Rattle.proto_wire.specs.declared.refusal.Refusal.{Refusal}
use Rattle.xds_wire.specs.Discovery.{AnyMessage, RequestMessage, ResponseMessage, ExtensionMessage, NodeMessage, StatusMessage, IsExtension, ExtensionFault}
use Rattle.proto_wire.specs.Merge.{SomeOf}
use Rattle.cel_tree.specs.Checked.{CelChecked}
use Rattle.rbac_policy.specs.Condition.{Program}
use Rattle.rbac_policy.specs.Filter.{Filter}
use Rattle.rbac_policy.specs.Admission.{Admissible, Admits, Fault}
use Rattle.ads.specs.Config.{ConfigValue, FilterValue, names_of}

-- the type URL of the resources
abbrev pub extension_type : List ℕ
extension_type = codes "type.googleapis.com/envoy.config.core.v3.TypedExtensionConfig"

-- the type URL of a filter's message
abbrev pub filter_type : List ℕ
filter_type = codes "type.googleapis.com/envoy.extensions.filters.http.rbac.v3.RBAC"

-- what a filter enforces: the admitted rules as programs, and the limits of requests for which they were admitted
pub record AdmittedValue : Type 0 where
  pub filter : Filter Program
  pub limits : LimitsValue

-- the accepted state: the last version (empty if there is none), the policies of each filter in configured order, and
-- the number of accepted responses. The number is at most 2^64 - 1. Policies are of type `P`: rules as they are
-- written, or as they are enforced
pub record AcceptedOf (P : Type 0) : Type 0 where
  pub version : List ℕ
  pub policies : List (Option P)
  pub generation : ℕ

-- the accepted state, with policies as they are enforced
abbrev pub Accepted : Type 0
Accepted = AcceptedOf AdmittedValue

-- the accepted state of a client that has accepted no response
abbrev pub nothing_accepted : {P : Type 0} → ConfigValue → AcceptedOf P
nothing_accepted c = record { version = []; policies = map (λ f. None) c.filters; generation = 0 }

-- the resource is this extension, and the extension has a name
pub record IsResource (any : AnyMessage) (extension : ExtensionMessage) : Type 0 where
  pub type_url : any.type_url ≡ extension_type
  pub reads : IsExtension any.value extension
  pub name : extension.name ≢ []

-- the faults of a resource: a wrong type, unreadable bytes, or an empty name
pub data ResourceFault (any : AnyMessage) (e : Refusal) : Type 0 where
  wrong_type : any.type_url ≢ extension_type → e ≡ Refusal.WrongType → ResourceFault any e
  unreadable : any.type_url ≡ extension_type → ExtensionFault any.value e → ResourceFault any e
  nameless : (extension : ExtensionMessage) → any.type_url ≡ extension_type
      → IsExtension any.value extension → extension.name ≡ [] → e ≡ Refusal.Missing
      → ResourceFault any e

-- the extension holds a filter's message, with these bytes
abbrev pub HoldsFilter : ExtensionMessage → List ℕ → Type 0
HoldsFilter extension bytes =
    IsSomeAnd extension.typed_config (λ any. (any.type_url ≡ filter_type) × (any.value ≡ bytes))

-- the reasons to refuse a filter's extension: it holds no filter's message, or that message is not admitted
pub data ExtensionIsRefused (limits : LimitsValue) (f : FilterValue) (extension : ExtensionMessage) (e : Refusal)
    : Type 0 where
  no_filter : ((bytes : List ℕ) → HoldsFilter extension bytes → ⊥) → e ≡ Refusal.WrongType
      → ExtensionIsRefused limits f extension e
  not_admitted : (bytes : List ℕ) → HoldsFilter extension bytes → Fault e bytes limits f.budget
      → ExtensionIsRefused limits f extension e

-- the extensions of this name
abbrev pub named : List ℕ → List ExtensionMessage → List ExtensionMessage
named name extensions = filter (λ extension. bytes_eq extension.name name) extensions

-- each given policy replaces the old one; if none is given, the old one stays
abbrev pub replaced : {P : Type 0} → List (Option P) → List (Option P) → List (Option P)
replaced [] given = given
replaced (old ∷ olds) [] = old ∷ olds
replaced (old ∷ olds) (Some new ∷ given) = Some new ∷ replaced olds given
replaced (old ∷ olds) (None ∷ given) = old ∷ replaced olds given

-- the resource is an extension of this name
abbrev pub IsNamed : List ℕ → AnyMessage → Type 0
IsNamed name any = (extension : ExtensionMessage) × IsResource any extension × (extension.name ≡ name)

-- the resource is an extension of the filter's name, and is refused for this reason
abbrev pub IsRefusedFor : LimitsValue → FilterValue → Refusal → AnyMessage → Type 0
IsRefusedFor limits f e any = (extension : ExtensionMessage) × IsResource any extension
    × (extension.name ≡ f.name) × ExtensionIsRefused limits f extension e

-- `P` holds of at least two of the elements
abbrev pub TwoOf : {A : Type 0} → (A → Type 0) → List A → Type 0
TwoOf P [] = ⊥
TwoOf P (x ∷ xs) = (P x × SomeOf P xs) ⊎ TwoOf P xs

-- the response is wrong, for this reason
pub data Refuses (c : ConfigValue) (response : ResponseMessage) (e : Refusal) : Type 0 where
  wrong_type : response.type_url ≢ extension_type → e ≡ Refusal.WrongType → Refuses c response e
  bad_resource : SomeOf (λ any. ResourceFault any e) response.resources → Refuses c response e
  doubled : SomeOf (λ f. TwoOf (IsNamed f.name) response.resources) c.filters
      → e ≡ Refusal.DuplicateResource → Refuses c response e
  refused : SomeOf (λ f. SomeOf (IsRefusedFor c.limits f e) response.resources) c.filters
      → Refuses c response e

-- the node of a configuration, with its id and its cluster
abbrev pub node_of : ConfigValue → NodeMessage
node_of c = record { id = c.node; cluster = c.cluster }

-- a request of a configuration: every request has the same type and the same names
abbrev pub request_of : ConfigValue → List ℕ → Option NodeMessage → List ℕ → Option StatusMessage → RequestMessage
request_of c version node nonce error = record {
  version_info = version;
  node = node;
  resource_names = names_of c.filters;
  type_url = extension_type;
  response_nonce = nonce;
  error_detail = error;
}

-- the first request on a stream: it has the node, and no nonce
abbrev pub first_request : {P : Type 0} → ConfigValue → AcceptedOf P → RequestMessage
first_request c accepted = request_of c accepted.version (Some (node_of c)) [] None

-- the answer to an accepted response: its version and its nonce, without an error
abbrev pub ack_of : ConfigValue → ResponseMessage → RequestMessage
ack_of c response = request_of c response.version_info None response.nonce None

-- the code of a refusal (google.rpc.Code): 8 (resource exhausted) if memory ran out, otherwise 3 (invalid argument)
abbrev pub code_of : Refusal → ℤ
code_of Refusal.Memory = pos 8
code_of other = pos 3

-- the error of a request that refuses: the code, and a text with the number of the refusal
abbrev pub status_of : Refusal → StatusMessage
status_of e = record { code = code_of e; message = codes "policy refused: " ++ decimal (number_of e) }

-- the answer to a refused response: the last accepted version, the response's nonce, and the error
abbrev pub nack_of : {P : Type 0} → ConfigValue → AcceptedOf P → ResponseMessage → Refusal → RequestMessage
nack_of c accepted response e = request_of c accepted.version None response.nonce (Some (status_of e))

-- `P` holds of one of the elements, and `Q` of each before it
abbrev pub FirstOf : {A : Type 0} → (A → Type 0) → (A → Type 0) → List A → Type 0
FirstOf Q P [] = ⊥
FirstOf Q P (x ∷ xs) = P x ⊎ (Q x × FirstOf Q P xs)

-- one extension has the filter's name, and it holds a filter's message, with these bytes
abbrev pub HoldsFilterOf : List ExtensionMessage → FilterValue → List ℕ → Type 0
HoldsFilterOf extensions f bytes = (extension : ExtensionMessage)
    × (named f.name extensions ≡ extension ∷ []) × HoldsFilter extension bytes

-- the filter refuses nothing: no extension has its name, or one does and holds an admissible filter's message
abbrev pub RefusesNothing : LimitsValue → List ExtensionMessage → FilterValue → Type 0
RefusesNothing limits extensions f = (named f.name extensions ≡ [])
    ⊎ ((bytes : List ℕ) × HoldsFilterOf extensions f bytes × Admissible bytes limits f.budget)

-- a filter of the response is judged: all types are right, each resource reads, and the filters before it refuse
-- nothing. One extension has its name, and holds a filter's message
pub record IsAdmitting (c : ConfigValue) (response : ResponseMessage) : Type 0 where
  pub extensions : List ExtensionMessage
  pub type_url : response.type_url ≡ extension_type
  pub reads : AllZip IsResource response.resources extensions
  pub asked : FirstOf (RefusesNothing c.limits extensions)
      (λ f. (bytes : List ℕ) × HoldsFilterOf extensions f bytes) c.filters

-- answers to a response, if `IsGiven` says which policies the bytes of a filter give
module _ {P : Type 0} (IsGiven : LimitsValue → FilterValue → List ℕ → P → Type 0) where
  -- the policies that the extensions of a filter's name give it: none without an extension, and those of its bytes if
  -- there is one. Two extensions are not allowed
  abbrev pub GivesAs : LimitsValue → FilterValue → List ExtensionMessage → Option P → Type 0
  GivesAs limits f [] given = given ≡ None
  GivesAs limits f (extension ∷ []) given = (bytes : List ℕ) × (policies : P)
      × HoldsFilter extension bytes × IsGiven limits f bytes policies × (given ≡ Some policies)
  GivesAs limits f (extension ∷ other ∷ more) given = ⊥

  -- the whole response is right, and `new` is the accepted state after it
  pub record AcceptsAs (c : ConfigValue) (response : ResponseMessage) (old new : AcceptedOf P) : Type 0 where
    pub extensions : List ExtensionMessage
    pub given : List (Option P)
    pub type_url : response.type_url ≡ extension_type
    pub reads : AllZip IsResource response.resources extensions
    pub gives : AllZip (λ f. GivesAs c.limits f (named f.name extensions)) c.filters given
    pub policies : new.policies ≡ replaced old.policies given
    pub version : new.version ≡ response.version_info
    pub generation : new.generation ≡ min (old.generation + 1) (2 ^ 64 - 1)

  -- the answer to a response, and the accepted state after it. If memory runs out while a filter is admitted, nothing
  -- more is claimed about the response
  pub data AnswersAs (c : ConfigValue) (response : ResponseMessage) (old : AcceptedOf P) (reply : RequestMessage)
      (new : AcceptedOf P) : Type 0 where
    ack : AcceptsAs c response old new → reply ≡ ack_of c response → AnswersAs c response old reply new
    nack : (e : Refusal) → Refuses c response e → new ≡ old → reply ≡ nack_of c old response e
        → AnswersAs c response old reply new
    no_memory : IsAdmitting c response → new ≡ old → reply ≡ nack_of c old response Refusal.Memory
        → AnswersAs c response old reply new

-- the bytes are admitted under the filter's budget, and `a` is what is enforced for them
abbrev pub IsEnforcedOf : LimitsValue → FilterValue → List ℕ → AdmittedValue → Type 0
IsEnforcedOf limits f bytes a = (policies : Filter CelChecked) × (enforced : Filter Program)
    × Admits bytes limits f.budget policies enforced × (a ≡ record { filter = enforced; limits = limits })

-- the enforced policies that the extensions of a filter's name give it
abbrev pub Gives : LimitsValue → FilterValue → List ExtensionMessage → Option AdmittedValue → Type 0
Gives = GivesAs IsEnforcedOf

-- the whole response is right, and the new accepted state has its policies as they are enforced
abbrev pub Accepts : ConfigValue → ResponseMessage → Accepted → Accepted → Type 0
Accepts = AcceptsAs IsEnforcedOf

-- the answer to a response, and the accepted state after it, with policies as they are enforced
abbrev pub Answers : ConfigValue → ResponseMessage → Accepted → RequestMessage → Accepted → Type 0
Answers = AnswersAs IsEnforcedOf
