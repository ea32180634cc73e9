-- Each field has another name than the one before it.
use Rattle.std.proofs.Common.{◌≡◌, ◌<◌, ◌∙◌, get_or, length, refl, sym, arith, suc, ◌+◌}
use Rattle.std.proofs.lemmas.List.{get_or_default}
use Rattle.attributes.specs.declared.headers.Field.{Field}
use Rattle.attributes.proofs.Distinct.{all_joined, first_joined, next_joined}
use Rattle.attributes.proofs.headers.are_distinct_from.Goals as goal

pub loop-next-init : goal.loop-next-init
loop-next-init c = record {
  field = c.requires.first;
  there = refl;
  joined = first_joined c.args.text.now c.args.first c.args.others.now;
}

pub has_name-requires-clause-next : goal.has_name-requires-clause-next
has_name-requires-clause-next c =
    (c.requires.others c.loop-next.next-index _ c.loop-next-test.true).name

pub loop-next-preserved : goal.loop-next-preserved
loop-next-preserved c =
    let i = c.loop-next.next-index in
    let none : Field = record {
      start = 0;
      name = record { from = 0; to = 0 };
      value = record { from = 0; to = 0 };
    } in
    let next : Field = get_or c.args.others.now i none in
    let below : i < length c.args.others.now = c.loop-next-test.true in
    let up : i + 1 ≡ suc i = omega arith in
    record {
      field = c.requires.others i _ below;
      there = rw up (get_or_default c.args.others.now i none next below);
      joined = next_joined c.args.text.now c.args.first c.args.others.now i none c.loop-next.last below
          c.loop-next.invariant.there c.requires.sorted (sym c.has_name.ensures ∙ c.if-has_name.false)
          c.loop-next.invariant.joined;
    }

pub returns : goal.returns
returns c =
    all_joined c.args.text.now c.args.first c.args.others.now c.loop-next.next-index c.loop-next.last
    (omega (arith, c)) c.loop-next.invariant.there c.loop-next.invariant.joined
