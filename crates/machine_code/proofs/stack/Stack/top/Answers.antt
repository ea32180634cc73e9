use Rattle.std.proofs.Common.{◌∙◌, ap, arith, take, reverse}
use Rattle.machine_code.proofs.Tops.{tail_reverse}
use Rattle.machine_code.proofs.stack.Stack.top.Goals as goal

pub returns : goal.returns
returns g c =
    tail_reverse c.self.inside.items.items c.args.count (rw (← c.self.view_is) at c.requires) _ _
    c.deref.ensures.value (omega arith)
    ∙ ap (λ v. reverse (take c.args.count v)) c.self.view_is
