-- What a slot owns (this project's own): nothing, or the box whose pointer it has.
use Rattle.std.specs.Prelude.{Option, None, Some}
use base.Fml.{Fml, ftrue}
use denote.RattleType.{RattleType}
use denote.RawPtr.{Ptr}
use Rattle.std.specs.declared.alloc.Global.{Global}
use Rattle.std.specs.contracts.impls.GlobalAllocator.TheImpl.{ghosts}
use Rattle.std_alloc.specs.Box.Ownership.{box_owns}
use Rattle.std.specs.declared.sync.Arc.{Arc}
use Rattle.std.specs.contracts.alloc.Global as global
use Rattle.std.specs.contracts.sync.Arc as arc
use Rattle.rbac_policy.specs.declared.filter.Admitted.{Admitted}
use Rattle.rbac_policy.specs.contracts.filter.Admitted as admitted
use Rattle.c_slots.specs.declared.chain_slot.Chain.{Chain}
use Rattle.c_slots.specs.declared.conn_slot.Opened.{Opened}
use Rattle.c_slots.specs.declared.proxy_slot.Core.{Core}
use Rattle.c_slots.specs.declared.request_slot.Made.{Made}
use Rattle.c_slots.specs.contracts.chain_slot.Chain as chain
use Rattle.c_slots.specs.contracts.conn_slot.Opened as opened
use Rattle.c_slots.specs.contracts.proxy_slot.Core as core
use Rattle.c_slots.specs.contracts.request_slot.Made as made

-- the one allocator of that type
abbrev pub heap : Global
heap = record { memory = record { seal = tt } }

-- an owner of an admitted filter
abbrev pub Owner : Type 0
Owner = Arc Admitted Global

-- the logic's type of an owner
abbrev pub owner_row : RattleType
owner_row = arc.the_row admitted.the_row global.the_row ghosts

-- what the pointer of a filter's slot owns
abbrev pub slot_owns : Ptr → Option Owner → Fml
slot_owns p None = ftrue
slot_owns p (Some x) = box_owns (ghosts.dealloc_token heap) owner_row p x

-- what the pointer of a core's slot owns
abbrev pub core_owns : Ptr → Option Core → Fml
core_owns p None = ftrue
core_owns p (Some x) = box_owns (ghosts.dealloc_token heap) core.the_row p x

-- what the pointer of a connection's slot owns
abbrev pub conn_owns : Ptr → Option Opened → Fml
conn_owns p None = ftrue
conn_owns p (Some x) = box_owns (ghosts.dealloc_token heap) opened.the_row p x

-- what the pointer of a request's slot owns
abbrev pub request_owns : Ptr → Option Made → Fml
request_owns p None = ftrue
request_owns p (Some x) = box_owns (ghosts.dealloc_token heap) made.the_row p x

-- what the pointer of a chain's slot owns
abbrev pub chain_owns : Ptr → Option Chain → Fml
chain_owns p None = ftrue
chain_owns p (Some x) = box_owns (ghosts.dealloc_token heap) chain.the_row p x
