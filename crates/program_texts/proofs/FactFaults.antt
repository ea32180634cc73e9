-- What a fault of a fact's member says: the member is present, and the value means no facts.
use Rattle.std.proofs.Common.{◌≡◌, ℕ, List, Option, Some, None, inl, inr, refl, ap, sym, ◌∙◌, codes, length, arith}
use Rattle.attributes.specs.Conn.{Facts, only_scheme}
use Rattle.attributes.specs.Limits.{FactsInLimits, IsWithin, largest}
use Rattle.serde_json.specs.Data.{Data, Members, member, no_members, object}
use Rattle.program_texts.specs.Facts.{AreFacts, AreNamed, HasFactFault, HasLongText, HasMember, IsFactName, IsLong, fact_row}
use Rattle.program_texts.specs.declared.fact.Fact.{Fact}
use Rattle.program_texts.specs.declared.fact_fault.FactFault.{FactFault}
use Rattle.program_texts.specs.declared.fact_fault.FactFault.TheVariants.{NoObject, NoFact, NotOfKind, TooLong}

-- any fact may be absent
absent : (fact : Fact) → (fact_row fact).1 None (only_scheme (codes "http"))
absent Fact.SourceAddress = tt
absent Fact.SourcePort = tt
absent Fact.DestinationAddress = tt
absent Fact.DestinationPort = tt
absent Fact.ConnectionMtls = tt
absent Fact.ConnectionId = tt
absent Fact.ConnectionRequestedServerName = tt
absent Fact.ConnectionTlsVersion = tt
absent Fact.ConnectionSubjectPeerCertificate = tt
absent Fact.ConnectionDnsSanPeerCertificate = tt
absent Fact.ConnectionUriSanPeerCertificate = tt
absent Fact.DirectRemoteIp = tt
absent Fact.RemoteIp = tt
absent Fact.DestinationIp = tt
absent Fact.RequestScheme = (None, tt, refl)

-- so where no facts agree with a fact's member, the member is present
pub present : (fact : Fact) (found : Option Data) → ((f : Facts) → (fact_row fact).1 found f → ⊥)
    → (v : Data) × (found ≡ Some v) × ((f : Facts) → (fact_row fact).1 (Some v) f → ⊥)
present fact None none = absurd (none (only_scheme (codes "http")) (absent fact))
present fact (Some v) none = (v, refl, none)

-- each member of members that are named as facts has the name of a fact
named_member : (ms : Members) (name : List ℕ) → AreNamed ms → HasMember name ms → IsFactName name
named_member no_members name named has = absurd has
named_member (member own d ms) name (first, rest) (inl same) = (first.0, sym same ∙ first.1)
named_member (member own d ms) name (first, rest) (inr later) = named_member ms name rest later

-- a value with a fault means no facts
pub means_none : (d : Data) (e : FactFault) (f : Facts) → HasFactFault d e → AreFacts d f → ⊥
means_none d NoObject f none are = none are.names.0 are.names.1
means_none d (NoFact name) f (ms, is, has, unknown) are =
    let same : object are.names.0 ≡ object ms = sym are.names.1 ∙ is in
    let one : are.names.0 ≡ ms = cc in
    unknown (named_member ms name.now (rw one at are.names.2) has)
means_none d (NotOfKind fact) f (v, is, none) are = none f (rw is at (are.reports fact))
means_none d (TooLong fact count) f fault are = fault

-- a text above the limit is not within it
not_within : (fact : Fact) (text : Option (List ℕ)) (e : FactFault) → IsLong fact text e → IsWithin largest.text text → ⊥
not_within fact None e (bytes, is, long, same) within = let clash : None ≡ Some bytes = is in cc
not_within fact (Some own) e (bytes, is, long, same) within =
    let both : Some own ≡ Some bytes = is in
    let one : own ≡ bytes = cc in
    let size : length own ≡ length bytes = ap length one in
    omega (arith, long, within, size)

-- facts with a text above the limit are not within the limits
pub outside : (f : Facts) (e : FactFault) → HasLongText f e → FactsInLimits f largest → ⊥
outside f e (Fact.SourceAddress, long) fits = not_within _ _ e long fits.0
outside f e (Fact.DestinationAddress, long) fits = not_within _ _ e long fits.1.0
outside f e (Fact.ConnectionRequestedServerName, long) fits = not_within _ _ e long fits.1.1.0
outside f e (Fact.ConnectionTlsVersion, long) fits = not_within _ _ e long fits.1.1.1.0
outside f e (Fact.ConnectionSubjectPeerCertificate, long) fits = not_within _ _ e long fits.1.1.1.1.0
outside f e (Fact.ConnectionDnsSanPeerCertificate, long) fits = not_within _ _ e long fits.1.1.1.1.1.0
outside f e (Fact.ConnectionUriSanPeerCertificate, long) fits = not_within _ _ e long fits.1.1.1.1.1.1.0
outside f e (Fact.RequestScheme, long) fits = not_within _ _ e long fits.1.1.1.1.1.1.1.0
outside f e (Fact.SourcePort, (bytes, is, long, same)) fits = let clash : None ≡ Some bytes = is in cc
outside f e (Fact.DestinationPort, (bytes, is, long, same)) fits = let clash : None ≡ Some bytes = is in cc
outside f e (Fact.ConnectionMtls, (bytes, is, long, same)) fits = let clash : None ≡ Some bytes = is in cc
outside f e (Fact.ConnectionId, (bytes, is, long, same)) fits = let clash : None ≡ Some bytes = is in cc
outside f e (Fact.DirectRemoteIp, (bytes, is, long, same)) fits = let clash : None ≡ Some bytes = is in cc
outside f e (Fact.RemoteIp, (bytes, is, long, same)) fits = let clash : None ≡ Some bytes = is in cc
outside f e (Fact.DestinationIp, (bytes, is, long, same)) fits = let clash : None ≡ Some bytes = is in cc
