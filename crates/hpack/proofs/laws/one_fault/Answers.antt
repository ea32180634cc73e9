use Rattle.std.proofs.Common.{false}
use Rattle.hpack.proofs.Faulty.{fault_one}
use Rattle.hpack.proofs.laws.one_fault.Goals as goal

pub returns : goal.returns
returns c = λ most before block f g a b. fault_one most false before block f g a b
