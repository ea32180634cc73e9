use Rattle.std.proofs.Common.{◌≡◌, ◌≢◌, ◌<◌, ◌-◌, get_or, sym, ◌∙◌, arith}
use Rattle.std.specs.Char.{to_ascii_lowercase}
use Rattle.rbac_match.proofs.Borders.{hit, miss, next, shrinks}
use Rattle.rbac_match.proofs.search.advance.Goals as goal

pub returns-then-to_ascii_lowercase-lower : goal.returns-then-to_ascii_lowercase-lower
returns-then-to_ascii_lowercase-lower c =
    let same : to_ascii_lowercase (get_or c.args.part.now c.loop-matched.kept 0) ≡ to_ascii_lowercase c.args.byte =
    sym c.to_ascii_lowercase.ensures.value ∙ c.if-to_ascii_lowercase-lower.true ∙ c.to_ascii_lowercase-lower.ensures.value in
    λ bytes longest. hit c.args.part.now c.args.borders.now c.requires.borders c.args.byte c.loop-matched.kept
    c.loop-matched.invariant.below same bytes (c.loop-matched.invariant.may bytes longest)

pub returns-then-kept-eq0 : goal.returns-then-kept-eq0
returns-then-kept-eq0 c =
    let other : to_ascii_lowercase (get_or c.args.part.now c.loop-matched.kept 0) ≢ to_ascii_lowercase c.args.byte =
    λ e. c.if-to_ascii_lowercase-lower.false (c.to_ascii_lowercase.ensures.value ∙ e ∙ sym c.to_ascii_lowercase-lower.ensures.value) in
    λ bytes longest. miss c.args.part.now c.args.borders.now c.requires.borders c.args.byte c.loop-matched.kept
    c.loop-matched.invariant.below other c.if-kept-eq0.true bytes (c.loop-matched.invariant.may bytes longest)

pub loop-matched-preserved : goal.loop-matched-preserved
loop-matched-preserved c =
    let k = c.loop-matched.kept in
    let other : to_ascii_lowercase (get_or c.args.part.now k 0) ≢ to_ascii_lowercase c.args.byte =
    λ e. c.if-to_ascii_lowercase-lower.false (c.to_ascii_lowercase.ensures.value ∙ e ∙ sym c.to_ascii_lowercase-lower.ensures.value) in
    let less : get_or c.args.borders.now (k - 1) 0 < k =
    shrinks c.args.part.now c.args.borders.now c.requires.borders c.args.byte k c.loop-matched.invariant.below other
    c.if-kept-eq0.false c.loop-matched.invariant.known in
    record {
      below = omega (arith, less);
      known = omega (arith, less);
      may = λ bytes longest. next c.args.part.now c.args.borders.now c.requires.borders c.args.byte k
          c.loop-matched.invariant.below other c.if-kept-eq0.false c.loop-matched.invariant.known bytes
          (c.loop-matched.invariant.may bytes longest);
    }

pub loop-matched-smaller : goal.loop-matched-smaller
loop-matched-smaller c =
    let k = c.loop-matched.kept in
    let other : to_ascii_lowercase (get_or c.args.part.now k 0) ≢ to_ascii_lowercase c.args.byte =
    λ e. c.if-to_ascii_lowercase-lower.false (c.to_ascii_lowercase.ensures.value ∙ e ∙ sym c.to_ascii_lowercase-lower.ensures.value) in
    shrinks c.args.part.now c.args.borders.now c.requires.borders c.args.byte k c.loop-matched.invariant.below other
    c.if-kept-eq0.false c.loop-matched.invariant.known
