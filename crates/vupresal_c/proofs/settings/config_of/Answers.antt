use Rattle.std.proofs.Common.{sym}
use Rattle.vupresal_c.proofs.Configs.{config_fails}
use Rattle.vupresal_c.proofs.settings.config_of.Goals as goal

pub returns-in-Err : goal.returns-in-Err
returns-in-Err c = record {
  found = tt;
  fault = rw c.from.ensures (config_fails c.args.settings.now c.in-Some.limits c.in_ok-node.node
      c.in_ok-cluster.cluster c.in_ok-filters.filters.items c.in-Err.fault (sym (rw c.in-Some.is at c.limits_of.ensures))
      c.in_ok-node.ensures.found c.in_ok-cluster.ensures.found c.in_ok-filters.ensures.found c.in-Err.ensures.fault);
}
