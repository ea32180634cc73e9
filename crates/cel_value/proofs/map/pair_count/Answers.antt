use Rattle.std.proofs.Common.{sym}
use Rattle.cel_value.proofs.Views.{count_pairs}
use Rattle.cel_value.proofs.map.pair_count.Goals as goal

pub returns : goal.returns
returns c = sym (count_pairs c.args.pairs.now)
