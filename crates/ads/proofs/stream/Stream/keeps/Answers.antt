use Rattle.std.proofs.Common.{◌≡◌, true, false, refl, rules}
use Rattle.ads.proofs.AnswerLemmas.{reported_no, reported_yes}
use Rattle.ads.proofs.StreamLemmas.{no_part, part_fed}
use Rattle.ads.proofs.stream.Stream.keeps.Goals as goal

pub returns-then-not-stays_partial-clause-kept : goal.returns-then-not-stays_partial-clause-kept
returns-then-not-stays_partial-clause-kept c =
    let no : c.stays_partial.result ≡ false = search rules in
    let none = reported_no c.stays_partial.result _ _ no c.stays_partial.ensures in
    rw (← c.self.view_is) (no_part c.self.inside.frames c.args.bytes.now c.self.invariant none, refl)

pub invariant_of-self-2 : goal.invariant_of-self-2
invariant_of-self-2 c =
    let yes : c.stays_partial.result ≡ true = search rules in
    let partial = reported_yes c.stays_partial.result _ _ yes c.stays_partial.ensures in
    let fed = part_fed c.self.inside.frames c.feed_frames.new.frames c.args.bytes.now c.self.invariant partial
    c.in_ok-feed_frames.ensures.found.0 in
    fed.1

pub returns-clause-kept : goal.returns-clause-kept
returns-clause-kept c =
    let yes : c.stays_partial.result ≡ true = search rules in
    let partial = reported_yes c.stays_partial.result _ _ yes c.stays_partial.ensures in
    let fed = part_fed c.self.inside.frames c.feed_frames.new.frames c.args.bytes.now c.self.invariant partial
    c.in_ok-feed_frames.ensures.found.0 in
    rw (← c.self.view_is) (fed.0, fed.2)
