use Rattle.std.proofs.Common.{◌∙◌, ap, arith, drop, reverse}
use Rattle.machine_code.proofs.Tops.{drop_reverse}
use Rattle.machine_code.proofs.stack.Stack.drop_top.Goals as goal

pub returns : goal.returns
returns g c =
    ap reverse c.truncate.ensures.items
    ∙ drop_reverse c.self.inside.items.items c.args.count (rw (← c.self.view_is) at c.requires) _ (omega arith)
    ∙ ap (drop c.args.count) c.self.view_is
