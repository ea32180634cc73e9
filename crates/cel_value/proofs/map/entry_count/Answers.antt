use Rattle.std.proofs.Common.{sym}
use Rattle.cel_value.proofs.Views.{count_entries}
use Rattle.cel_value.proofs.map.entry_count.Goals as goal

pub returns : goal.returns
returns c = sym (count_entries c.args.entries.now)
