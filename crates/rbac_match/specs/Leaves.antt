-- How the messages of leaves are read: Envoy v3 `config/rbac/v3/rbac.proto`.
use Rattle.std.specs.Prelude.{ℕ, List}
use Rattle.proto_wire.specs.Fields.{Wire}
use Rattle.proto_wire.specs.Values.{payloads}
use Rattle.proto_wire.specs.declared.refusal.Refusal.{Refusal}
use Rattle.rbac_match.specs.Oneof.{MadeOf}
use Rattle.rbac_match.specs.Text.{IsTextMatcher, TextFault}
use Rattle.rbac_match.specs.Path.{IsPathMatcher, PathFault}
use Rattle.rbac_match.specs.Authenticated.{IsAuthenticated, AuthenticatedFault}
use Rattle.rbac_match.specs.Header.{IsHeader, HeaderFault}
use Rattle.rbac_match.specs.Cidr.{IsCidr, CidrFault}
use Rattle.rbac_match.specs.Ports.{IsDestinationPort, PortFault, IsPortRange, PortRangeFault}
use Rattle.rbac_match.specs.declared.matcher.Matcher.{Matcher}
use Rattle.rbac_match.specs.declared.matcher.Matcher.TheVariants as matcher
use Rattle.rbac_match.specs.declared.member.LeafKind.{LeafKind}
use Rattle.rbac_match.specs.declared.member.LeafKind.TheVariants.{Header, Address, Port, PortRange, ServerName, UrlPath, Authenticated}

-- the run of a member of this number is a leaf of the kind, and means the matcher
abbrev pub IsLeaf : LeafKind → ℕ → List Wire → Matcher → Type 0
IsLeaf Header n run m = MadeOf (IsHeader (payloads n run)) matcher.Header m
IsLeaf (Address source) n run m = MadeOf (IsCidr (payloads n run)) (matcher.Address source) m
IsLeaf Port n run m = MadeOf (IsDestinationPort n run) matcher.Port m
IsLeaf PortRange n run m = MadeOf (IsPortRange (payloads n run)) matcher.PortRange m
IsLeaf ServerName n run m = MadeOf (IsTextMatcher (payloads n run)) matcher.ServerName m
IsLeaf UrlPath n run m = MadeOf (IsPathMatcher (payloads n run)) matcher.UrlPath m
IsLeaf Authenticated n run m = MadeOf (IsAuthenticated (payloads n run)) matcher.Authenticated m

-- a fault of a leaf of the kind
abbrev pub LeafFault : LeafKind → ℕ → List Wire → Refusal → Type 0
LeafFault Header n run e = HeaderFault (payloads n run) e
LeafFault (Address source) n run e = CidrFault (payloads n run) e
LeafFault Port n run e = PortFault n run e
LeafFault PortRange n run e = PortRangeFault (payloads n run) e
LeafFault ServerName n run e = TextFault (payloads n run) e
LeafFault UrlPath n run e = PathFault (payloads n run) e
LeafFault Authenticated n run e = AuthenticatedFault (payloads n run) e
