use Rattle.c_slots.proofs.chain_slot.ChainSlot.TheSendSync as chain
use Rattle.c_slots.proofs.conn_slot.ConnSlot.TheSendSync as connection
use Rattle.c_slots.proofs.filter_slot.FilterSlot.TheSendSync as filter
use Rattle.c_slots.proofs.proxy_slot.ProxySlot.TheSendSync as proxy
use Rattle.c_slots.proofs.request_slot.RequestSlot.TheSendSync as request
use Rattle.c_slots.proofs.laws.slots_cross_threads.Goals as goal

pub returns : goal.returns
returns c = record {
  filter = filter.the_send;
  chain = chain.the_send;
  connection = connection.the_send;
  request = request.the_send;
  proxy = proxy.the_send;
}
