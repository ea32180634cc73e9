use denote.Param.Send.{sendable}
use Rattle.c_slots.proofs.chain_slot.ChainSlot.TheSendSync as chain_slot
use Rattle.c_slots.proofs.conn_slot.ConnSlot.TheSendSync as conn_slot
use Rattle.c_slots.proofs.filter_slot.FilterSlot.TheSendSync as filter_slot
use Rattle.c_slots.proofs.proxy_slot.ProxySlot.TheSendSync as proxy_slot
use Rattle.c_slots.proofs.request_slot.RequestSlot.TheSendSync as request_slot
use Rattle.vupresal_c.proofs.laws.handles_cross_threads.Goals as goal

pub returns : goal.returns
returns c = record {
  filter = search (filter_slot.the_send, sendable) depth 60 fits 20000;
  proxy = search (proxy_slot.the_send, sendable) depth 60 fits 20000;
  connection = search (conn_slot.the_send, sendable) depth 60 fits 20000;
  request = search (request_slot.the_send, sendable) depth 60 fits 20000;
  set = search (chain_slot.the_send, sendable) depth 60 fits 20000;
}
