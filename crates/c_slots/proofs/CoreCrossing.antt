-- Any thread may have the core of a proxy.
use denote.Param.Send.{IsSend, sendable}
use denote.Array.{Array}
use denote.Struct.Field.{row_field}
use denote.Param.Send.{array_send}
use denote.Param.SendFields.{as_row_send, declared_send}
use Rattle.std.specs.contracts.option.Option as maybe
use Rattle.std.proofs.Crossing as heap
use Rattle.std.proofs.alloc.Global.TheSendSync as global
use Rattle.std.proofs.string.String.TheSendSync as string
use Rattle.ads.specs.contracts.client.Client as client
use Rattle.ads.specs.contracts.config.Config as config
use Rattle.http_front.specs.contracts.front.Front as front
use Rattle.proxy_core.specs.contracts.event.Output as output
use Rattle.proxy_core.specs.contracts.proxy.Proxy as proxy
use Rattle.xds_wire.specs.contracts.frames.Frames as frames
use Rattle.c_slots.proofs.Crossing.{filter_send, limits_send}
use Rattle.c_slots.proofs.KeptCrossing.{conn_send, conn_sync}
use Rattle.c_slots.specs.contracts.proxy_slot.Core as core

frames_send : IsSend frames.the_row
frames_send = search (heap.crosses, sendable) depth 60 fits 20000

config_send : IsSend config.the_row
config_send = search (limits_send, string.the_field_send, heap.crosses, sendable) depth 60 fits 20000

client_send : IsSend client.the_row
client_send = search (filter_send, config_send, frames_send, global.the_field_send, heap.crosses, sendable) depth 60 fits 20000

front_send : IsSend front.the_row
front_send = search (limits_send, conn_send, conn_sync, heap.crosses, sendable) depth 60 fits 20000

output_send : IsSend output.the_row
output_send = search (heap.crosses, sendable) depth 60 fits 20000

maybe_send : IsSend (maybe.the_row front.the_row)
maybe_send = search (front_send, sendable) depth 60 fits 20000

conns_send : IsSend (Array (maybe.the_row front.the_row) 8)
conns_send = array_send (maybe.the_row front.the_row) 8 maybe_send

proxy_send : IsSend proxy.the_row
proxy_send = declared_send proxy.the_type (
  heap.send,
  (client_send, (as_row_send (row_field (Array (maybe.the_row front.the_row) 8)) conns_send, tt)),
)

pub core_send : IsSend core.the_row
core_send = declared_send core.the_type (proxy_send, (output_send, tt))
