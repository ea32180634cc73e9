use Rattle.cel_types.proofs.CheckNames.{joined_points}
use Rattle.cel_types.proofs.names.joined_name.Goals as goal

pub returns : goal.returns
returns c =
    rw (
      c.in_ok-push_str-3.ensures.bytes,
      c.in_ok-push_str-2.ensures.bytes,
      c.in_ok-push_str.ensures.bytes,
      c.in_ok-name.ensures.bytes,
    ) (joined_points c.args.root.now c.args.field.now c.utf8.root)
