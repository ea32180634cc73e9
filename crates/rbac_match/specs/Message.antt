-- The members of a Permission and a Principal, and the fields of their Sets and of ranges of
-- integers: Envoy v3 `config/rbac/v3/rbac.proto`, `type/v3/range.proto`.
use Rattle.std.specs.Prelude.{ℕ, List, [], ◌∷◌, Option, Some, None}
use Rattle.std.specs.Map.{keys_of}
use Rattle.proto_wire.specs.Keys.{len_key, varint_key}
use Rattle.proto_wire.specs.declared.key.Key.{Key}
use Rattle.rbac_match.specs.declared.cidr.AddressSource.TheVariants.{Destination, DirectRemote, Remote}
use Rattle.rbac_match.specs.declared.member.LeafKind.TheVariants.{Header, Address, Port, PortRange, ServerName, UrlPath, Authenticated}
use Rattle.rbac_match.specs.declared.member.Member.{Member}
use Rattle.rbac_match.specs.declared.member.Member.TheVariants.{And, Or, Any, Not, Leaf}
use Rattle.rbac_match.specs.declared.rule.Side.{Side}
use Rattle.rbac_match.specs.declared.rule.Side.TheVariants.{Permission, Principal}

-- ---- rules

-- the numbers of the fields of a Permission (`config.rbac.v3.Permission`)
abbrev pub permission_field : record { and_rules : ℕ; or_rules : ℕ; any : ℕ; header : ℕ; destination_ip : ℕ; destination_port : ℕ; metadata : ℕ; not_rule : ℕ; requested_server_name : ℕ; url_path : ℕ; destination_port_range : ℕ; matcher : ℕ }
permission_field = record { and_rules = 1; or_rules = 2; any = 3; header = 4; destination_ip = 5; destination_port = 6; metadata = 7; not_rule = 8; requested_server_name = 9; url_path = 10; destination_port_range = 11; matcher = 12 }

-- the numbers of the fields of a Principal (`config.rbac.v3.Principal`): `direct_remote_ip` is where the
-- connection comes from, and `remote_ip` is where the request comes from
abbrev pub principal_field : record { and_ids : ℕ; or_ids : ℕ; any : ℕ; authenticated : ℕ; source_ip : ℕ; header : ℕ; metadata : ℕ; not_id : ℕ; url_path : ℕ; direct_remote_ip : ℕ; remote_ip : ℕ; filter_state : ℕ }
principal_field = record { and_ids = 1; or_ids = 2; any = 3; authenticated = 4; source_ip = 5; header = 6; metadata = 7; not_id = 8; url_path = 9; direct_remote_ip = 10; remote_ip = 11; filter_state = 12 }

-- the members of the oneof; `metadata`, `matcher`, `source_ip` and `filter_state` are not supported
abbrev pub members : Side → List (Key × Option Member)
members Permission = let p = permission_field in
    (len_key p.and_rules, Some And) ∷ (len_key p.or_rules, Some Or) ∷ (varint_key p.any, Some Any)
    ∷ (len_key p.header, Some (Leaf Header))
    ∷ (len_key p.destination_ip, Some (Leaf (Address Destination)))
    ∷ (varint_key p.destination_port, Some (Leaf Port)) ∷ (len_key p.metadata, None)
    ∷ (len_key p.not_rule, Some Not) ∷ (len_key p.requested_server_name, Some (Leaf ServerName))
    ∷ (len_key p.url_path, Some (Leaf UrlPath))
    ∷ (len_key p.destination_port_range, Some (Leaf PortRange)) ∷ (len_key p.matcher, None) ∷ []
members Principal = let p = principal_field in
    (len_key p.and_ids, Some And) ∷ (len_key p.or_ids, Some Or) ∷ (varint_key p.any, Some Any)
    ∷ (len_key p.authenticated, Some (Leaf Authenticated)) ∷ (len_key p.source_ip, None)
    ∷ (len_key p.header, Some (Leaf Header)) ∷ (len_key p.metadata, None)
    ∷ (len_key p.not_id, Some Not) ∷ (len_key p.url_path, Some (Leaf UrlPath))
    ∷ (len_key p.direct_remote_ip, Some (Leaf (Address DirectRemote)))
    ∷ (len_key p.remote_ip, Some (Leaf (Address Remote))) ∷ (len_key p.filter_state, None) ∷ []

-- all fields of a rule: each is a member
abbrev pub rule_keys : Side → List Key
rule_keys side = keys_of (members side)

-- ---- sets of rules, and ranges of integers

-- the number of the field of a Set (`config.rbac.v3.Permission.Set`); a Principal's Set calls it `ids`
abbrev pub set_field : record { rules : ℕ }
set_field = record { rules = 1 }

-- the fields of a Set
abbrev pub set_keys : List Key
set_keys = len_key set_field.rules ∷ []

-- the numbers of the fields of a range (`type.v3.Int32Range`, `type.v3.Int64Range`): its first integer, and
-- the one after its last
abbrev pub range_field : record { start : ℕ; end : ℕ }
range_field = record { start = 1; end = 2 }

-- the fields of a range
abbrev pub range_keys : List Key
range_keys = varint_key range_field.start ∷ varint_key range_field.end ∷ []
