-- Tests of the peer's certificate: Envoy v3 `config/rbac/v3/rbac.proto`, Principal.Authenticated.
use Rattle.std.specs.Option.{option_or, option_map_or}
use Rattle.std.specs.Prelude.{ℕ, Bool, true, false, List, [], ◌∷◌, Option, Some, None}
use Rattle.attributes.specs.Conn.{Facts}
use Rattle.proto_wire.specs.Reading.{Reads, ReadFault, Never, IsOptional, OptionalFault}
use Rattle.proto_wire.specs.declared.refusal.Refusal.{Refusal}
use Rattle.proto_wire.specs.declared.key.Key.{Key}
use Rattle.proto_wire.specs.Keys.{len_key}
use Rattle.rbac_match.specs.Text.{TextTest, text_holds, IsTextMatcher, TextFault}

-- the number of the field of an Authenticated (`config.rbac.v3.Principal.Authenticated`)
abbrev pub authenticated_field : record { principal_name : ℕ }
authenticated_field = record { principal_name = 2 }

-- the fields of an Authenticated
abbrev pub authenticated_keys : List Key
authenticated_keys = len_key authenticated_field.principal_name ∷ []

-- the payloads merge to an Authenticated that means this test of the name; without a principal_name, every
-- name is accepted
abbrev pub IsAuthenticated : List (List ℕ) → Option TextTest → Type 0
IsAuthenticated =
    Reads authenticated_keys (IsOptional IsTextMatcher authenticated_field.principal_name)

-- a fault of an Authenticated: in its fields, or in its principal_name
abbrev pub AuthenticatedFault : List (List ℕ) → Refusal → Type 0
AuthenticatedFault =
    ReadFault authenticated_keys Never (OptionalFault TextFault authenticated_field.principal_name)

-- the peer's name: the first that is present of its URI SAN, its DNS SAN and its subject
abbrev pub peer_name : Facts → Option (List ℕ)
peer_name facts =
    option_or facts.uri_san_peer_certificate
    (option_or facts.dns_san_peer_certificate facts.subject_peer_certificate)

-- whether the name passes the test, if there is one; a missing name passes no test
abbrev pub name_holds : Option TextTest → Option (List ℕ) → Bool
name_holds None name = true
name_holds (Some test) name = option_map_or (text_holds test) name false
