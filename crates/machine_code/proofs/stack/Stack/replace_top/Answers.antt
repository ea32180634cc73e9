use Rattle.std.proofs.Common.{◌∙◌, ◌∷◌, ap, arith, drop}
use Rattle.machine_code.proofs.Tops.{set_top}
use Rattle.machine_code.proofs.stack.Stack.replace_top.Goals as goal

pub returns : goal.returns
returns g c =
    set_top c.args.item c.self.inside.items.items _ (omega arith) (rw (← c.self.view_is) at c.requires)
    ∙ ap (λ v. c.args.item ∷ drop 1 v) c.self.view_is
