use Rattle.cel_types.proofs.CheckNames.{empty_name}
use Rattle.cel_meaning.proofs.known.is_nameless.Goals as goal

pub returns : goal.returns
returns c =
    rw (← c.as_str.ensures.value)
    (empty_name c.as_str.result.now c.as_str.utf8 c.is_empty.result c.is_empty.ensures)
