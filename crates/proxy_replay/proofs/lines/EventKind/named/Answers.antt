use Rattle.proxy_replay.proofs.KindNames.{exactly}
use Rattle.proxy_replay.proofs.lines.EventKind.named.Goals as goal

pub returns : goal.returns
returns c = exactly c.args.name.now c.kind_named.result c.kind_named.ensures
