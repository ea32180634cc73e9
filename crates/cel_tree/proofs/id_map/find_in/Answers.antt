use Rattle.std.proofs.Common.{◌≡◌, ◌+◌, ◌-◌, ◌/◌, ◌<◌, ◌≤◌, ℕ, length, w64, to_z, of_z, to_z-of_z, sym, ◌∙◌, arith}
use Rattle.cel_tree.proofs.IdPlaces.{above_drop, below_take, found_at, not_found}
use Rattle.cel_tree.proofs.id_map.find_in.Goals as goal

pub returns-in-Equal : goal.returns-in-Equal
returns-in-Equal g c =
    let es = c.args.entries.now in
    let middle : ℕ = c.loop-low.low + (c.loop-low.high - c.loop-low.low) / 2 in
    let within : middle < length es = omega (arith, c.loop-low-test.true, c.loop-low.invariant.1) in
    let same : to_z w64 (of_z w64 c.args.id) ≡ c.args.id = to_z-of_z c.ranges.id in
    sym (found_at c.args.id es middle c.index-entries-middle.result _ c.requires within
    (rw same at (sym c.cmp.ensures ∙ c.in-Equal.is)))

pub loop-low-preserved-in-Less : goal.loop-low-preserved-in-Less
loop-low-preserved-in-Less g c =
    let es = c.args.entries.now in
    let low = c.loop-low.low in
    let high = c.loop-low.high in
    let middle : ℕ = low + (high - low) / 2 in
    let within : middle < length es = omega (arith, c.loop-low-test.true, c.loop-low.invariant.1) in
    let on : middle + 1 ≤ high = omega (arith, c.loop-low-test.true) in (
      on,
      c.loop-low.invariant.1,
      below_take _ es middle (middle + 1) c.index-entries-middle.result c.requires within (sym c.cmp.ensures ∙ c.in-Less.is)
          (omega arith),
      c.loop-low.invariant.3,
    )

pub loop-low-preserved : goal.loop-low-preserved
loop-low-preserved g c =
    let es = c.args.entries.now in
    let low = c.loop-low.low in
    let high = c.loop-low.high in
    let middle : ℕ = low + (high - low) / 2 in
    let within : middle < length es = omega (arith, c.loop-low-test.true, c.loop-low.invariant.1) in
    let on : low ≤ middle = omega arith in
    let most : middle ≤ length es = omega (arith, within) in (
      on,
      most,
      c.loop-low.invariant.2,
      above_drop _ es middle c.index-entries-middle.result c.requires within (sym c.cmp.ensures ∙ c.in-Greater.is),
    )

pub returns : goal.returns
returns g c =
    let same : to_z w64 (of_z w64 c.args.id) ≡ c.args.id = to_z-of_z c.ranges.id in
    let met : c.loop-low.high ≡ c.loop-low.low = omega (arith, c.loop-low-test.false, c.loop-low.invariant.0) in
    sym (not_found c.args.id c.args.entries.now c.loop-low.low (rw same at c.loop-low.invariant.2)
    (rw (met, same) at c.loop-low.invariant.3))
