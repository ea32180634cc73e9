use Rattle.std.proofs.Common.{◌+◌, ◌∙◌, sym, ap}
use Rattle.cel_value.specs.Masses.{left_of}
use Rattle.stack_machine.proofs.Headers.{count_headers}
use Rattle.stack_machine.proofs.branches.spend_names.Goals as goal

pub returns : goal.returns
returns c =
    c.spend_turns.ensures
    ∙ ap (λ n. left_of c.args.fuel (1 + n)) (c.len.ensures ∙ sym (count_headers c.args.headers.now))
