-- Each fact is found under its name, and no other is.
use Rattle.std.proofs.Common.{◌≡◌, ℕ, ◌↔◌, List, [], ◌∷◌, Option, Some, find, refl, sym, ap, ◌∙◌}
use Rattle.std.specs.Str.{bytes_eq}
use Rattle.attributes.proofs.TextOrder.{same_from_test}
use Rattle.program_texts.specs.Facts.{name_of}
use Rattle.program_texts.specs.declared.fact.Fact.{Fact}
use Rattle.attributes.proofs.Names.{find_passes}

-- every fact
abbrev every_fact : List Fact
every_fact =
    Fact.SourceAddress ∷ Fact.SourcePort ∷ Fact.DestinationAddress ∷ Fact.DestinationPort ∷
    Fact.ConnectionMtls ∷ Fact.ConnectionId ∷ Fact.ConnectionRequestedServerName ∷
    Fact.ConnectionTlsVersion ∷ Fact.ConnectionSubjectPeerCertificate ∷
    Fact.ConnectionDnsSanPeerCertificate ∷ Fact.ConnectionUriSanPeerCertificate ∷
    Fact.DirectRemoteIp ∷ Fact.RemoteIp ∷ Fact.DestinationIp ∷ Fact.RequestScheme ∷ []

-- the first fact of this name
abbrev pub named : List ℕ → Option Fact
named name = find (λ fact. bytes_eq (name_of fact) name) every_fact

-- each is found under its name
named_own : (fact : Fact) → named (name_of fact) ≡ Some fact
named_own Fact.SourceAddress = refl
named_own Fact.SourcePort = refl
named_own Fact.DestinationAddress = refl
named_own Fact.DestinationPort = refl
named_own Fact.ConnectionMtls = refl
named_own Fact.ConnectionId = refl
named_own Fact.ConnectionRequestedServerName = refl
named_own Fact.ConnectionTlsVersion = refl
named_own Fact.ConnectionSubjectPeerCertificate = refl
named_own Fact.ConnectionDnsSanPeerCertificate = refl
named_own Fact.ConnectionUriSanPeerCertificate = refl
named_own Fact.DirectRemoteIp = refl
named_own Fact.RemoteIp = refl
named_own Fact.DestinationIp = refl
named_own Fact.RequestScheme = refl

-- what the search finds is exactly the fact of the name
pub named_exactly : (name : List ℕ) (r : Option Fact) → r ≡ named name
    → (fact : Fact) → (r ≡ Some fact) ↔ (name ≡ name_of fact)
named_exactly name r is_found fact = (
  λ e. sym (same_from_test (name_of fact) name
      (find_passes (λ a. bytes_eq (name_of a) name) every_fact fact (sym is_found ∙ e))),
  λ e. is_found ∙ ap named e ∙ named_own fact,
)
