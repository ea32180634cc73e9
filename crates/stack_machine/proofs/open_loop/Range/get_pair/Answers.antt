use Rattle.std.proofs.Common.{◌∙◌, ap}
use Rattle.std.proofs.lemmas.Result.{IfOk-weaker}
use Rattle.std.specs.Prelude.{slice_get}
use Rattle.std.specs.Option.{option_map}
use Rattle.stack_machine.specs.private.Pairs.{pair_answers}
use Rattle.stack_machine.proofs.Walking.{borrowed_pairs}
use Rattle.stack_machine.proofs.open_loop.Range.get_pair.Goals as goal

pub returns-in-Items : goal.returns-in-Items
returns-in-Items c =
    IfOk-weaker c.item_pair.result _ _
    (λ found same. same ∙ ap (λ ps. option_map pair_answers (slice_get ps c.args.index))
    (borrowed_pairs c.args.self.now c.in-Items.items c.deref.result.now _ c.in-Items.is
    c.deref.ensures c.deref-in-Items.ensures.value))
    c.item_pair.ensures
