use Rattle.std.proofs.Common.{◌∙◌, ◌++◌, ap, arith, refl}
use Rattle.std.specs.Prelude.{[]}
use Rattle.std.proofs.KnownBytes.{Consumes-nil, Consumes-trans}
use Rattle.http_front.specs.Front.{fed_front, keeping}
use Rattle.rbac_judge.specs.private.Reading.{head_ask}
use Rattle.rbac_judge.proofs.InputLemmas.{consumed_none, found_of_front, found_of_taken, front_fed, none_of_all, nothing_read, unfinished_of_front}
use Rattle.rbac_judge.proofs.input.first_ask.Goals as goal

pub loop-init : goal.loop-init
loop-init g c = (
  [],
  ap (λ k. keeping c.args.front.now k) c.requires,
  Consumes-nil (g.R.Read.remaining c.args.input.now),
  nothing_read,
)

pub returns-in-Some-clause-found : goal.returns-in-Some-clause-found
returns-in-Some-clause-found g c =
    let f = c.args.front.now in
    let (bytes, front, taken, needed) = c.loop.invariant in
    let takes = rw (front, c.in-Some.is) at c.in_ok-ask.ensures.found in
    let is = found_of_front f.limits f.facts bytes c.in-Some.ask c.next.new.self takes in
    rw c.head_ask.ensures (found_of_taken f.limits f.facts (g.R.Read.remaining c.args.input.now) _ bytes (head_ask c.in-Some.ask) taken is)

pub loop-preserved : goal.loop-preserved
loop-preserved g c =
    let f = c.args.front.now in
    let (bytes, front, taken, needed) = c.loop.invariant in
    let feeds = c.in_ok-read_chunk-in-None.ensures in
    let half = rw (front, c.in-None.is) at c.in_ok-ask.ensures.found in (
      bytes ++ feeds.chunk,
      feeds.front ∙ ap (λ f. fed_front f feeds.chunk) half.1 ∙ front_fed f.limits f.facts bytes feeds.chunk,
      Consumes-trans _ _ _ _ _ taken feeds.taken,
      record {
        before = bytes;
        last = feeds.chunk;
        whole = refl;
        few = omega (arith, feeds.count, feeds.few);
        needed = λ _. unfinished_of_front f.limits f.facts bytes half.0;
      },
    )

pub returns-then-branch-eq0-clause-found : goal.returns-then-branch-eq0-clause-found
returns-then-branch-eq0-clause-found g c =
    let f = c.args.front.now in
    let (bytes, front, taken, needed) = c.loop.invariant in
    let feeds = c.in_ok-read_chunk-in-None.ensures in
    let half = rw (front, c.in-None.is) at c.in_ok-ask.ensures.found in
    let all = consumed_none _ _ _ bytes feeds.chunk _ taken feeds.taken feeds.count c.if-branch-eq0.true in
    none_of_all f.limits f.facts _ _ bytes all (feeds.end c.if-branch-eq0.true)
    (unfinished_of_front f.limits f.facts bytes half.0)

pub returns-then-branch-eq0-clause-no_more : goal.returns-then-branch-eq0-clause-no_more
returns-then-branch-eq0-clause-no_more g c =
    let (bytes, front, taken, needed) = c.loop.invariant in
    let feeds = c.in_ok-read_chunk-in-None.ensures in
    (bytes, consumed_none _ _ _ bytes feeds.chunk _ taken feeds.taken feeds.count c.if-branch-eq0.true, needed)
