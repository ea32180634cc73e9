use Rattle.cel_costs.proofs.Reached.{placed}
use Rattle.cel_costs.proofs.laws.reached_parts_are_well_typed.Goals as goal

pub returns : goal.returns
returns c e r l p ls sizes g sound fits there =
    let at = placed r sound l fits e g p ls sizes there in (at.types, at.typed, at.locals)
