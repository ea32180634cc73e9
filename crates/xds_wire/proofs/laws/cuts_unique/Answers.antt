use Rattle.std.proofs.Common.{ℕ, List, ◌++◌, subst}
use Rattle.xds_wire.specs.Frames.{Cut}
use Rattle.xds_wire.specs.Stream.{bytes_fed, messages_taken}
use Rattle.xds_wire.proofs.OneCut.{cut_one}
use Rattle.xds_wire.proofs.StreamLemmas.{runs_cut}
use Rattle.xds_wire.proofs.laws.cuts_unique.Goals as goal

pub returns : goal.returns
returns c = λ max calls others kept also runs runs' same.
    let P : List ℕ → Type 0 = λ bytes. Cut bytes max (messages_taken calls ++ kept.messages) kept.tail in
    let cut = subst P same (runs_cut max calls kept runs) in
    cut_one (bytes_fed others) max _ _ kept.tail also.tail cut (runs_cut max others also runs')
