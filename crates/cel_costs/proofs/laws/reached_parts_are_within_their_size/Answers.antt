use Rattle.cel_costs.proofs.Reached.{placed, placed_within}
use Rattle.cel_costs.proofs.laws.reached_parts_are_within_their_size.Goals as goal

pub returns : goal.returns
returns c e r l p ls sizes g sound fits there =
    let at = placed r sound l fits e g p ls sizes there in
    (at.within, placed_within r sound l fits p ls sizes at)
