use Rattle.http2.proofs.Separate.{keeps_others}
use Rattle.http2.proofs.laws.streams_do_not_mix.Goals as goal

pub returns : goal.returns
returns c = keeps_others
