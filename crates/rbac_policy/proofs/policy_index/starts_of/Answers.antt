use Rattle.std.proofs.Common.{◌≡◌, ◌+◌, refl, arith, ◌∙◌}
use Rattle.std.proofs.lemmas.List.{length-set}
use Rattle.rbac_policy.proofs.IndexLemmas.{starts_more}
use Rattle.rbac_policy.proofs.policy_index.starts_of.Goals as goal

pub loop-count-init : goal.loop-count-init
loop-count-init c = record {
  room = refl;
  number = refl;
  starts = λ k le. let zero : k ≡ 0 = omega (arith, le) in rw zero refl;
}

pub loop-count-preserved : goal.loop-count-preserved
loop-count-preserved c =
    let count = c.loop-count.count in
    let number = c.next_number-number.result in
    let room = c.loop-count.invariant.room in
    let below = c.loop-count-test.true in
    record {
      room = length-set c.loop-count.starts (count + 1) number ∙ room;
      number = c.next_number-number.ensures;
      starts = starts_more c.args.path.now c.loop-count.starts count number (omega (arith, room, below)) c.loop-count.invariant.starts c.next_number-number.ensures;
    }

pub returns-then-count-most : goal.returns-then-count-most
returns-then-count-most c = λ k le room.
    let past = c.if-count-most.true in
    c.loop-count.invariant.starts k (omega (arith, le, past))

pub returns : goal.returns
returns c = λ k le room.
    let past = c.loop-count-test.false in
    c.loop-count.invariant.starts k (omega (arith, room, past))
