use Rattle.std.proofs.Common.{◌∙◌, arith, refl, sym, [], append-nil}
use Rattle.xds_wire.specs.Frames.{frame_of}
use Rattle.ads.specs.Control.{too_many, too_long, sent}
use Rattle.ads.specs.Views.{snapshot_view}
use Rattle.ads.proofs.AnswerLemmas.{reported_no, reported_yes}
use Rattle.ads.proofs.serving.send.Goals as goal

pub returns-in_default-checked_add-clause-sent : goal.returns-in_default-checked_add-clause-sent
returns-in_default-checked_add-clause-sent c = (
  [],
  too_many (snapshot_view c.in-Some.snapshot.now) c.in-Some.ensures (omega (arith, c.in_default-checked_add.ensures))
      refl refl refl,
  sym (append-nil _),
)

pub returns-then-branch-clause-sent : goal.returns-then-branch-clause-sent
returns-then-branch-clause-sent c =
    let is = c.in_ok-message.ensures in
    let count = c.in-Some-checked_add.ensures in
    let message = c.in_ok-message.message in
    let long = reported_yes c.in_ok-put_message.field-0 _ _ c.if-branch.true c.in_ok-put_message.ensures.found in
    let over = rw c.deref.ensures.value at long.0 in (
      [],
      too_long (snapshot_view c.in-Some.snapshot.now) is.0 message.items c.in-Some.ensures (omega (arith, count.0))
          (rw count.1 at is.1) is.2 over refl refl refl,
      long.1 ∙ sym (append-nil _),
    )

pub returns-clause-sent : goal.returns-clause-sent
returns-clause-sent c =
    let is = c.in_ok-message.ensures in
    let count = c.in-Some-checked_add.ensures in
    let message = c.in_ok-message.message in
    let short = reported_no c.in_ok-put_message.field-0 _ _ c.if-branch.false c.in_ok-put_message.ensures.found in
    let within = rw c.deref.ensures.value at short in (
      frame_of message.items,
      sent (snapshot_view c.in-Some.snapshot.now) is.0 message.items c.in-Some.ensures (omega (arith, count.0))
          (rw count.1 at is.1) is.2 within.0 refl (rw count.1 refl) refl,
      within.1,
    )
