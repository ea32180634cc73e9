-- A leaf's run is a leaf or has a fault, never both, and it means one matcher at most.
use Rattle.std.proofs.Common.{◌≡◌, ℕ, ◌⊎◌, inl, inr, List, refl, sym, ap, ◌∙◌}
use Rattle.proto_wire.specs.Fields.{Wire}
use Rattle.proto_wire.specs.Values.{payloads}
use Rattle.proto_wire.specs.declared.refusal.Refusal.{Refusal}
use Rattle.rbac_match.specs.Oneof.{MadeOf}
use Rattle.rbac_match.specs.Leaves.{IsLeaf, LeafFault}
use Rattle.rbac_match.specs.declared.matcher.Matcher.{Matcher}
use Rattle.rbac_match.specs.declared.matcher.Matcher.TheVariants as matcher
use Rattle.rbac_match.specs.declared.member.LeafKind.{LeafKind}
use Rattle.rbac_match.specs.declared.member.LeafKind.TheVariants.{Header, Address, Port, PortRange, ServerName, UrlPath, Authenticated}
use Rattle.rbac_match.proofs.HeaderMessages.{header_total, header_disjoint, header_unique}
use Rattle.rbac_match.proofs.CidrMessages.{cidr_total, cidr_disjoint, cidr_unique}
use Rattle.rbac_match.proofs.PortsMessages.{port_total, port_disjoint, port_unique, port_range_total, port_range_disjoint, port_range_unique}
use Rattle.rbac_match.proofs.TextMessages.{text_total, text_disjoint, text_unique}
use Rattle.rbac_match.proofs.PathMessages.{path_total, path_disjoint, path_unique}
use Rattle.rbac_match.proofs.AuthenticatedMessages.{authenticated_total, authenticated_disjoint, authenticated_unique}

-- a matcher made of what was read, or the fault
made_total : {V : Type 0} (Is : V → Type 0) (Fails : Refusal → Type 0) (make : V → Matcher)
    → ((v : V) × Is v) ⊎ ((e : Refusal) × Fails e)
    → ((m : Matcher) × MadeOf Is make m) ⊎ ((e : Refusal) × Fails e)
made_total Is Fails make (inl read) = inl (make read.0, (read.0, read.1, refl))
made_total Is Fails make (inr bad) = inr bad

-- a leaf or a fault
pub leaf_total : (kind : LeafKind) (n : ℕ) (run : List Wire)
    → ((m : Matcher) × IsLeaf kind n run m) ⊎ ((e : Refusal) × LeafFault kind n run e)
leaf_total Header n run = made_total _ _ matcher.Header (header_total (payloads n run))
leaf_total (Address source) n run = made_total _ _ (matcher.Address source) (cidr_total (payloads n run))
leaf_total Port n run = made_total _ _ matcher.Port (port_total n run)
leaf_total PortRange n run = made_total _ _ matcher.PortRange (port_range_total (payloads n run))
leaf_total ServerName n run = made_total _ _ matcher.ServerName (text_total (payloads n run))
leaf_total UrlPath n run = made_total _ _ matcher.UrlPath (path_total (payloads n run))
leaf_total Authenticated n run = made_total _ _ matcher.Authenticated (authenticated_total (payloads n run))

-- not both
pub leaf_disjoint : (kind : LeafKind) (n : ℕ) (run : List Wire) (m : Matcher) (e : Refusal)
    → IsLeaf kind n run m → LeafFault kind n run e → ⊥
leaf_disjoint Header n run m e is bad = header_disjoint (payloads n run) is.0 e is.1 bad
leaf_disjoint (Address source) n run m e is bad = cidr_disjoint (payloads n run) is.0 e is.1 bad
leaf_disjoint Port n run m e is bad = port_disjoint n run is.0 e is.1 bad
leaf_disjoint PortRange n run m e is bad = port_range_disjoint (payloads n run) is.0 e is.1 bad
leaf_disjoint ServerName n run m e is bad = text_disjoint (payloads n run) is.0 e is.1 bad
leaf_disjoint UrlPath n run m e is bad = path_disjoint (payloads n run) is.0 e is.1 bad
leaf_disjoint Authenticated n run m e is bad = authenticated_disjoint (payloads n run) is.0 e is.1 bad

-- one matcher
pub leaf_unique : (kind : LeafKind) (n : ℕ) (run : List Wire) (m w : Matcher) → IsLeaf kind n run m
    → IsLeaf kind n run w → m ≡ w
leaf_unique Header n run m w a b = a.2 ∙ ap matcher.Header (header_unique (payloads n run) a.0 b.0 a.1 b.1) ∙ sym b.2
leaf_unique (Address source) n run m w a b = a.2 ∙ ap (matcher.Address source) (cidr_unique (payloads n run) a.0 b.0 a.1 b.1) ∙ sym b.2
leaf_unique Port n run m w a b = a.2 ∙ ap matcher.Port (port_unique n run a.0 b.0 a.1 b.1) ∙ sym b.2
leaf_unique PortRange n run m w a b = a.2 ∙ ap matcher.PortRange (port_range_unique (payloads n run) a.0 b.0 a.1 b.1) ∙ sym b.2
leaf_unique ServerName n run m w a b = a.2 ∙ ap matcher.ServerName (text_unique (payloads n run) a.0 b.0 a.1 b.1) ∙ sym b.2
leaf_unique UrlPath n run m w a b = a.2 ∙ ap matcher.UrlPath (path_unique (payloads n run) a.0 b.0 a.1 b.1) ∙ sym b.2
leaf_unique Authenticated n run m w a b = a.2 ∙ ap matcher.Authenticated (authenticated_unique (payloads n run) a.0 b.0 a.1 b.1) ∙ sym b.2
