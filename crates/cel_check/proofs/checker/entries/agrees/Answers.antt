use Rattle.std.proofs.Common.{refl}
use Rattle.std.specs.Cmp.Lexicographic.{bytes_decides}
use Rattle.cel_tree.specs.View.{name_view}
use Rattle.cel_value.specs.Texts.{points_of}
use Rattle.cel_check.proofs.checker.entries.agrees.Goals as goal

pub returns-in-None : goal.returns-in-None
returns-in-None c =
    let d = bytes_decides (name_view c.args.reference.now.name) (points_of c.args.name.now) in
    rw (c.is_name.ensures, c.in-None.is) (λ t. (d.0 t, refl), λ p. d.1 p.0)
