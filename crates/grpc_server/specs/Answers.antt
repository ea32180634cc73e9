-- The methods that are served, and the fields of their answers (gRPC's PROTOCOL-HTTP2, Requests and Responses).
use Rattle.std.specs.Prelude.{ℕ, Bool, true, List, [], ◌∷◌, codes, if◌then◌else◌}
use Rattle.hpack.specs.Field.{Line, line}
use Rattle.http2.specs.Request.{is_call}
use Rattle.grpc_server.specs.declared.answer.Status.{Status}
use Rattle.grpc_server.specs.declared.answer.Status.TheVariants.{Done, Broken, Unknown}

-- the path of the aggregated stream of xDS
abbrev pub ads_path : List ℕ
ads_path = codes "/envoy.service.discovery.v3.AggregatedDiscoveryService/StreamAggregatedResources"

-- the path of the stream of extension configs
abbrev pub ecds_path : List ℕ
ecds_path = codes "/envoy.service.extension.v3.ExtensionConfigDiscoveryService/StreamExtensionConfigs"

-- a request is a call of one of both
abbrev pub is_served : List Line → Bool
is_served fields = if is_call ads_path fields then true else is_call ecds_path fields

-- the number of a status: OK, INVALID_ARGUMENT, and UNIMPLEMENTED
abbrev pub status_text : Status → List ℕ
status_text Done = codes "0"
status_text Broken = codes "3"
status_text Unknown = codes "12"

-- the fields that begin an answer
abbrev pub opening : List Line
opening = line (codes ":status") (codes "200") ∷ line (codes "content-type") (codes "application/grpc") ∷ []

-- the fields that end one
abbrev pub trailers : Status → List Line
trailers status = line (codes "grpc-status") (status_text status) ∷ []

-- the fields of an answer that has nothing else
abbrev pub refusal : List Line
refusal = line (codes ":status") (codes "200") ∷ line (codes "content-type") (codes "application/grpc")
    ∷ line (codes "grpc-status") (codes "12") ∷ []
