-- The response that changes nothing: envoy/service/discovery/v3/discovery.proto.
use Rattle.std.specs.Prelude.{ℕ, List, ◌∷◌, codes}

-- a DiscoveryResponse whose field 4, `type_url`, is this text of 61 bytes
abbrev pub empty_response : List ℕ
empty_response = 34 ∷ 61 ∷ codes "type.googleapis.com/envoy.config.core.v3.TypedExtensionConfig"
