-- What the handles in C's memory hold (this project's own).
use Rattle.std.specs.Prelude.{List, [], Option, None, Some, map, option_map, if◌then◌else◌}
use Rattle.std.specs.Arc.{arc_value}
use Rattle.attributes.specs.Conn.{Facts, conn_view}
use Rattle.attributes.specs.Request.{RequestValue}
use Rattle.rbac_policy.specs.declared.filter.Admitted.{Admitted}
use Rattle.c_slots.specs.declared.chain_slot.Chain.{Chain}
use Rattle.c_slots.specs.declared.proxy_slot.Core.{Core}
use Rattle.vupresal_c.specs.declared.connection.Connection.{Connection}
use Rattle.vupresal_c.specs.declared.filter.Filter.{Filter}
use Rattle.vupresal_c.specs.declared.made_request.MadeRequest.{MadeRequest}
use Rattle.vupresal_c.specs.declared.proxy.Proxy.{Proxy}
use Rattle.vupresal_c.specs.declared.set.Set.{Set}

-- the filter in a handle; none if the handle is empty
abbrev pub filter_in : Filter → Option Admitted
filter_in handle = if handle.held then option_map arc_value handle.slot.held else None

-- the facts of the connection in a handle; none if the handle is empty
abbrev pub facts_in : Connection → Option Facts
facts_in handle = if handle.held then option_map (λ opened. conn_view opened.conn) handle.slot.held else None

-- the request in a handle; none if the handle is empty
abbrev pub request_in : MadeRequest → Option RequestValue
request_in handle = if handle.held then option_map (λ made. made.request) handle.slot.held else None

-- the filters of a chain, in order
abbrev pub chain_filters : Chain → List Admitted
chain_filters chain = map arc_value chain.filters.items

-- the filters of a chain, if there is one
abbrev pub held_filters : Option Chain → List Admitted
held_filters None = []
held_filters (Some chain) = chain_filters chain

-- the filters in a handle, in order; none if the handle is empty
abbrev pub filters_in : Set → List Admitted
filters_in handle = if handle.held then held_filters handle.slot.held else []

-- the core in a handle; none if the handle is empty
abbrev pub core_in : Proxy → Option Core
core_in handle = if handle.held then handle.slot.held else None
