-- Any thread may have an admitted filter or an owner of it, and several threads may read one filter.
use denote.Param.Send.{IsSend, IsSync, sendable}
use Rattle.std.proofs.Crossing as heap
use Rattle.std.proofs.string.String.TheSendSync as string
use Rattle.std.proofs.sync.ArcStr.TheSendSync as text
use Rattle.attributes.specs.contracts.limits.Limits as limits
use Rattle.cel_value.proofs.cel_type.CelType.TheLaws.TheKnot as cel_type
use Rattle.machine_code.specs.contracts.code.Code as code
use Rattle.machine_code.specs.contracts.verified.Verified as verified
use Rattle.rbac_match.specs.contracts.list.RuleList as rules
use Rattle.rbac_policy.specs.contracts.filter.Admitted as admitted
use Rattle.c_slots.specs.Owns.{owner_row}

pub limits_send : IsSend limits.the_row
limits_send = search (heap.crosses, sendable) depth 60 fits 20000

limits_sync : IsSync limits.the_row
limits_sync = search (heap.crosses, sendable) depth 60 fits 20000

rules_send : IsSend rules.the_row
rules_send = search (heap.crosses, sendable) depth 60 fits 20000

rules_sync : IsSync rules.the_row
rules_sync = search (heap.crosses, sendable) depth 60 fits 20000

code_send : IsSend code.the_row
code_send = search (text.the_field_send, heap.crosses, cel_type.crosses_both, sendable) depth 60 fits 20000

code_sync : IsSync code.the_row
code_sync = search (text.the_field_sync, heap.crosses, cel_type.crosses_both, sendable) depth 60 fits 20000

verified_send : IsSend verified.the_row
verified_send = search (code_send, sendable) depth 60 fits 20000

verified_sync : IsSync verified.the_row
verified_sync = search (code_sync, sendable) depth 60 fits 20000

pub filter_send : IsSend admitted.the_row
filter_send = search (string.the_field_send, limits_send, rules_send, verified_send, heap.crosses, sendable) depth 60 fits 20000

pub filter_sync : IsSync admitted.the_row
filter_sync = search (string.the_field_sync, limits_sync, rules_sync, verified_sync, heap.crosses, sendable) depth 60 fits 20000

pub owner_send : IsSend owner_row
owner_send = heap.Arc-send admitted.the_row filter_send filter_sync
