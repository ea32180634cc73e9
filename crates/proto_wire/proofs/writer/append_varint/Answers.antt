use Rattle.std.proofs.Common.{◌+◌, ◌%◌, List, ℕ, [], ◌∷◌, ◌++◌, ap, ◌∙◌, append_assoc}
use Rattle.proto_wire.proofs.ShortestLemmas.{begun_more, begun_done}
use Rattle.proto_wire.proofs.writer.append_varint.Goals as goal

pub loop-rest-preserved : goal.loop-rest-preserved
loop-rest-preserved c =
    let so_far = c.loop-rest.invariant in
    let rest = c.loop-rest.rest in
    let last : List ℕ = (rest % 128 + 128) ∷ [] in (
      so_far.0 ++ last,
      begun_more c.args.value rest so_far.0 so_far.1 c.loop-rest-test.true,
      c.in_ok-push.ensures.items ∙ ap (λ (xs : List ℕ). xs ++ last) so_far.2
          ∙ append_assoc c.args.out.now.items so_far.0 last,
    )

pub returns-clause-written : goal.returns-clause-written
returns-clause-written c =
    let so_far = c.loop-rest.invariant in
    let rest = c.loop-rest.rest in
    let last : List ℕ = rest ∷ [] in (
      so_far.0 ++ last,
      begun_done c.args.value rest so_far.0 so_far.1 c.loop-rest-test.false c.ranges.value.fits,
      c.in_ok-push-2.ensures.items ∙ ap (λ (xs : List ℕ). xs ++ last) so_far.2
          ∙ append_assoc c.args.out.now.items so_far.0 last,
    )
