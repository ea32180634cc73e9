-- Any thread may have a connection, a request and a chain of filters.
use denote.Param.Send.{IsSend, IsSync, sendable}
use denote.Param.SendFields.{declared_send}
use Rattle.std.proofs.Crossing as heap
use Rattle.std.proofs.sync.ArcStr.TheSendSync as arc_str
use Rattle.std.specs.contracts.alloc.Global as allocator
use Rattle.std.specs.contracts.impls.GlobalAllocator.TheImpl.{ghosts}
use Rattle.std.specs.contracts.sync.ArcStr as text
use Rattle.attributes.specs.contracts.conn.Conn as conn
use Rattle.attributes.specs.contracts.lookup.Headers as headers
use Rattle.attributes.specs.contracts.request.Request as request
use Rattle.c_slots.proofs.Crossing.{owner_send}
use Rattle.c_slots.specs.contracts.chain_slot.Chain as chain
use Rattle.c_slots.specs.contracts.conn_slot.Opened as opened
use Rattle.c_slots.specs.contracts.request_slot.Made as made

text_send : IsSend (text.the_row allocator.the_row ghosts)
text_send = search (arc_str.the_send, heap.crosses, sendable) depth 60 fits 20000

text_sync : IsSync (text.the_row allocator.the_row ghosts)
text_sync = search (arc_str.the_sync, heap.crosses, sendable) depth 60 fits 20000

pub conn_send : IsSend (conn.the_row (text.the_row allocator.the_row ghosts))
conn_send = search (text_send, heap.crosses, sendable) depth 60 fits 20000

pub conn_sync : IsSync (conn.the_row (text.the_row allocator.the_row ghosts))
conn_sync = search (text_sync, heap.crosses, sendable) depth 60 fits 20000

pub opened_send : IsSend opened.the_row
opened_send = declared_send opened.the_type (conn_send, tt)

headers_send : IsSend headers.the_row
headers_send = search (heap.crosses, sendable) depth 60 fits 20000

request_send : IsSend request.the_row
request_send = search (headers_send, conn_send, conn_sync, heap.crosses, sendable) depth 60 fits 20000

pub made_send : IsSend made.the_row
made_send = declared_send made.the_type (request_send, tt)

pub chain_send : IsSend chain.the_row
chain_send = search (owner_send, heap.crosses, sendable) depth 60 fits 20000
