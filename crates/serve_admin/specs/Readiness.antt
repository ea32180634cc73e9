-- When a server is ready.
use Rattle.std.specs.Prelude.{Bool, ◌&&◌, nat_le, nat_lt, not, is_some}
use Rattle.std.specs.List.{list_all}
use Rattle.serve_admin.specs.declared.status.FilterStatus.{FilterStatus}
use Rattle.serve_admin.specs.declared.status.Status.{Status}

-- the filter has policies
abbrev pub has_policies : FilterStatus → Bool
has_policies filter = is_some filter.policies

-- a time is set after which the server is not ready, and for so long the control plane was not heard
abbrev pub is_stale : Status → Bool
is_stale status = nat_lt 0 status.stale_after && nat_le status.stale_after status.control_silence

-- each filter has policies, the server does not drain, and its control plane was heard in time
abbrev pub readiness : Status → Bool
readiness status = not status.drains && (not (is_stale status) && list_all has_policies status.filters.items)
