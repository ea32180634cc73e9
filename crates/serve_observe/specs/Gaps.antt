-- What a response that was accepted leaves open (this project's own; docs/REFERENCE.md, "Lines of the logs").
use Rattle.std.specs.Prelude.{◌≡◌, ℕ, Bool, true, ◌==◌, List, [], ◌∷◌, Option, None, Some, bytes_eq, filter, if◌then◌else◌, map, not}
use Rattle.std.specs.FinMap.{len}
use Rattle.std.specs.List.{AllZip, list_any}
use Rattle.ads.specs.Answer.{AdmittedValue}
use Rattle.ads.specs.Client.{ClientValue}
use Rattle.ads.specs.Config.{names_of}
use Rattle.serve_observe.specs.declared.gaps.Gaps.{Gaps}
use Rattle.xds_wire.specs.View.{texts_view}
use Rattle.xds_wire.specs.Discovery.{AnyMessage, ExtensionMessage, IsExtension, IsResponse, ResponseMessage}

-- a filter is without policies: none came yet, or it has none
abbrev pub lacks_policies : Option AdmittedValue → Bool
lacks_policies None = true
lacks_policies (Some admitted) = len admitted.filter.policies == 0

-- the names of the filters that are without policies, in order
abbrev pub names_without : List (List ℕ) → List (Option AdmittedValue) → List (List ℕ)
names_without [] policies = []
names_without (name ∷ names) [] = []
names_without (name ∷ names) (p ∷ policies) =
    if lacks_policies p then name ∷ names_without names policies else names_without names policies

-- one of these names is the extension's
abbrev pub is_asked : List (List ℕ) → List ℕ → Bool
is_asked asked name = list_any (bytes_eq name) asked

-- the names of the extensions that nobody asked for, in order
abbrev pub unasked_of : List (List ℕ) → List ExtensionMessage → List (List ℕ)
unasked_of asked extensions = map (λ e. e.name) (filter (λ e. not (is_asked asked e.name)) extensions)

-- the resource is this extension
abbrev pub IsExtensionOf : AnyMessage → ExtensionMessage → Type 0
IsExtensionOf any extension = IsExtension any.value extension

-- these are the names of these resources that nobody asked for, in order
pub record AreUnaskedIn (asked : List (List ℕ)) (resources : List AnyMessage) (names : List (List ℕ)) : Type 0 where
  pub extensions : List ExtensionMessage
  pub reads : AllZip IsExtensionOf resources extensions
  pub names_are : names ≡ unasked_of asked extensions

-- these are the names of the resources of a response with this message that nobody asked for, in order
pub record AreUnasked (asked : List (List ℕ)) (message : List ℕ) (names : List (List ℕ)) : Type 0 where
  pub response : ResponseMessage
  pub reads : IsResponse message response
  pub unasked : AreUnaskedIn asked response.resources names

-- these are the gaps that a client has once it accepted a response with this message
abbrev pub AreGaps : ClientValue → List ℕ → Gaps → Type 0
AreGaps client message gaps =
    (texts_view gaps.without_policies.items ≡ names_without (names_of client.config.filters) client.accepted.policies)
    × AreUnasked (names_of client.config.filters) message (texts_view gaps.unasked.items)
