-- The messages that values of the code mean, without their places in memory.
use Rattle.std.specs.Prelude.{ℕ, List, option_map, map}
use Rattle.std.specs.Borrow.{Bor}
use Rattle.xds_wire.specs.Discovery.{AnyMessage, StatusMessage, NodeMessage, RequestMessage, ResponseMessage, ExtensionMessage}
use Rattle.xds_wire.specs.declared.any.Any.{Any}
use Rattle.xds_wire.specs.declared.status.Status.{Status}
use Rattle.xds_wire.specs.declared.node.Node.{Node}
use Rattle.xds_wire.specs.declared.request.DiscoveryRequest.{DiscoveryRequest}
use Rattle.xds_wire.specs.declared.response.DiscoveryResponse.{DiscoveryResponse}
use Rattle.xds_wire.specs.declared.extension.TypedExtensionConfig.{TypedExtensionConfig}

-- the texts of a list
abbrev pub texts_view : List (Bor (List ℕ)) → List (List ℕ)
texts_view texts = map (λ text. text.now) texts

-- the message of an Any
abbrev pub any_view : Any → AnyMessage
any_view any = record { type_url = any.type_url.now; value = any.value.now }

-- the message of a status
abbrev pub status_view : Status → StatusMessage
status_view status = record { code = status.code; message = status.message.now }

-- the message of a node
abbrev pub node_view : Node → NodeMessage
node_view node = record { id = node.id.now; cluster = node.cluster.now }

-- the message of a request
abbrev pub request_view : DiscoveryRequest → RequestMessage
request_view request = record {
  version_info = request.version_info.now;
  node = option_map node_view request.node;
  resource_names = texts_view request.resource_names.items;
  type_url = request.type_url.now;
  response_nonce = request.response_nonce.now;
  error_detail = option_map status_view request.error_detail;
}

-- the message of a response
abbrev pub response_view : DiscoveryResponse → ResponseMessage
response_view response = record {
  version_info = response.version_info.now;
  resources = map any_view response.resources.items;
  type_url = response.type_url.now;
  nonce = response.nonce.now;
}

-- the message of an extension
abbrev pub extension_view : TypedExtensionConfig → ExtensionMessage
extension_view extension = record {
  name = extension.name.now;
  typed_config = option_map any_view extension.typed_config;
}
