use Rattle.std.proofs.Common.{◌≡◌, take}
use Rattle.std.proofs.lemmas.Bool.{eq-eqb, ne_eqb}
use Rattle.std.proofs.lemmas.List.{take_all}
use Rattle.rbac_match.proofs.Runs.{another_number, from_place, same_number}
use Rattle.rbac_match.proofs.fields.trailing_run.Goals as goal
use Rattle.rbac_match.proofs.fields.trailing_run.Goals.{then-fields-start, else-fields-start}

pub loop-place-preserved : goal.loop-place-preserved
loop-place-preserved c =
    let fields = c.args.fields.now in
    elim c.if-fields-start.branch [
      | then-fields-start w ↦
          rw w.start-is (another_number fields c.loop-place.place c.loop-place.start _ c.loop-place-test.true
          c.loop-place.invariant (ne_eqb _ _ w.if-fields-start.true))
      | else-fields-start w ↦
          rw w.start-is (same_number fields c.loop-place.place c.loop-place.start _ c.loop-place-test.true
          c.loop-place.invariant (eq-eqb _ _ w.if-fields-start.false))
    ]

pub returns : goal.returns
returns c =
    let fields = c.args.fields.now in
    let whole : take c.loop-place.place fields ≡ fields = take_all c.loop-place.place fields c.loop-place-test.false in
    from_place fields c.loop-place.start (rw whole at c.loop-place.invariant)
