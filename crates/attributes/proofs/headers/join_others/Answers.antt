-- Each field is joined to those before it.
use Rattle.std.proofs.Common.{◌<◌, ◌∙◌, length, ap, arith}
use Rattle.std.specs.FinMap.{entries}
use Rattle.attributes.specs.Headers.{headers_of}
use Rattle.attributes.proofs.JoinSteps.{other_follows, other_kept, other_more, other_named}
use Rattle.attributes.proofs.Parts.{begins_trans}
use Rattle.attributes.proofs.headers.join_others.Goals as goal

pub join_next-requires-clause-next : goal.join_next-requires-clause-next
join_next-requires-clause-next c =
    let below : c.loop-next.next-index < length c.args.others.now = omega (arith, c) in
    other_kept c.args.text.now.items c.loop-next.text.items c.loop-next.invariant.grown
    c.args.last.now c.args.others.now c.requires.others c.loop-next.next-index _ below

pub join_next-requires-clause-ordered : goal.join_next-requires-clause-ordered
join_next-requires-clause-ordered c =
    let below : c.loop-next.next-index < length c.args.others.now = omega (arith, c) in
    other_follows c.args.text.now.items c.loop-next.text.items c.loop-next.invariant.grown
    c.args.last.now c.args.others.now c.requires.others c.loop-next.next-index _ below
    c.requires.sorted c.loop-next.last c.loop-next.invariant.name

pub loop-next-preserved : goal.loop-next-preserved
loop-next-preserved c =
    let t = c.args.text.now.items in
    let u = c.loop-next.text.items in
    let i = c.loop-next.next-index in
    let others = c.args.others.now in
    let before = c.loop-next.invariant in
    let step = c.in_ok-join_next.ensures in
    let below : i < length others = omega (arith, c) in
    record {
      grown = begins_trans t u c.join_next.new.text.items before.grown step.grown;
      parts = step.parts;
      last = step.last;
      name = step.name
          ∙ other_named t u before.grown c.args.last.now others c.requires.others i _ below;
      joined = λ es so_far. step.joined _ (before.joined es so_far)
          ∙ ap (λ ds. entries (headers_of ds))
          (other_more t u before.grown c.args.last.now others c.requires.others i _ below es);
    }
