use Rattle.std.proofs.Common.{false}
use Rattle.hpack.proofs.Faulty.{fault_nothing}
use Rattle.hpack.proofs.laws.faulty_means_nothing.Goals as goal

pub returns : goal.returns
returns c = λ most before block f fields after h m. fault_nothing most false before block f fields after h m
