-- Each attribute is found under its name, and no other is.
use Rattle.std.proofs.Common.{◌≡◌, ℕ, ◌↔◌, Bool, true, false, cond, List, [], ◌∷◌, Option, Some, None, find, refl, sym, ap, ◌∙◌}
use Rattle.std.specs.Str.{bytes_eq}
use Rattle.attributes.specs.Attributes.{attr_name}
use Rattle.attributes.specs.declared.attribute.AttrId.{AttrId}
use Rattle.attributes.proofs.TextOrder.{same_from_test}

-- every attribute
abbrev pub every_attr : List AttrId
every_attr =
    AttrId.RequestPath ∷ AttrId.RequestUrlPath ∷ AttrId.RequestHost ∷ AttrId.RequestScheme ∷
    AttrId.RequestMethod ∷ AttrId.RequestHeaders ∷ AttrId.RequestReferer ∷
    AttrId.RequestUseragent ∷ AttrId.RequestId ∷ AttrId.RequestProtocol ∷ AttrId.RequestQuery ∷
    AttrId.SourceAddress ∷ AttrId.SourcePort ∷ AttrId.DestinationAddress ∷
    AttrId.DestinationPort ∷ AttrId.ConnectionMtls ∷ AttrId.ConnectionId ∷
    AttrId.ConnectionRequestedServerName ∷ AttrId.ConnectionTlsVersion ∷
    AttrId.ConnectionSubjectPeerCertificate ∷ AttrId.ConnectionDnsSanPeerCertificate ∷
    AttrId.ConnectionUriSanPeerCertificate ∷ []

-- the first attribute of this name
abbrev pub named : List ℕ → Option AttrId
named name = find (λ id. bytes_eq (attr_name id) name) every_attr

-- each is found under its name
named_own : (id : AttrId) → named (attr_name id) ≡ Some id
named_own AttrId.RequestPath = refl
named_own AttrId.RequestUrlPath = refl
named_own AttrId.RequestHost = refl
named_own AttrId.RequestScheme = refl
named_own AttrId.RequestMethod = refl
named_own AttrId.RequestHeaders = refl
named_own AttrId.RequestReferer = refl
named_own AttrId.RequestUseragent = refl
named_own AttrId.RequestId = refl
named_own AttrId.RequestProtocol = refl
named_own AttrId.RequestQuery = refl
named_own AttrId.SourceAddress = refl
named_own AttrId.SourcePort = refl
named_own AttrId.DestinationAddress = refl
named_own AttrId.DestinationPort = refl
named_own AttrId.ConnectionMtls = refl
named_own AttrId.ConnectionId = refl
named_own AttrId.ConnectionRequestedServerName = refl
named_own AttrId.ConnectionTlsVersion = refl
named_own AttrId.ConnectionSubjectPeerCertificate = refl
named_own AttrId.ConnectionDnsSanPeerCertificate = refl
named_own AttrId.ConnectionUriSanPeerCertificate = refl

-- what a search finds passes the test
pub find_passes : {X : Type 0} (p : X → Bool) (xs : List X) (x : X) → find p xs ≡ Some x → p x ≡ true
find_passes p [] x h = let clash : None ≡ Some x = h in cc
find_passes p (y ∷ ys) x h = elim (p y) as (λ b. p y ≡ b → cond b (Some y) (find p ys) ≡ Some x
    → p x ≡ true) [
      | true ↦ λ t k. let same : y ≡ x = cc in rw same at t
      | false ↦ λ t k. find_passes p ys x k
    ] refl h

-- a name is that of one attribute
pub attr_name_unique : (a b : AttrId) → attr_name a ≡ attr_name b → a ≡ b
attr_name_unique a b same =
    let found : Some a ≡ Some b = sym (named_own a) ∙ ap named same ∙ named_own b in cc

-- what the search finds is exactly the attribute of the name
pub named_exactly : (name : List ℕ) (r : Option AttrId) → r ≡ named name
    → (id : AttrId) → (r ≡ Some id) ↔ (name ≡ attr_name id)
named_exactly name r is_found id = (
  λ e. sym (same_from_test (attr_name id) name
      (find_passes (λ a. bytes_eq (attr_name a) name) every_attr id (sym is_found ∙ e))),
  λ e. is_found ∙ ap named e ∙ named_own id,
)
