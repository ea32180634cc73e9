use Rattle.std.proofs.Common.{◌≡◌, ◌-◌, ◌<◌, length, suc, w64, to_z, of_z, to_z-of_z, sym, ap, ◌∙◌, arith}
use Rattle.std.specs.Ordering.{is_lt}
use Rattle.cel_tree.proofs.IdPlaces.{below_take, is_less}
use Rattle.cel_tree.proofs.id_map.place_of.Goals as goal

pub returns-then-is_lt : goal.returns-then-is_lt
returns-then-is_lt g c =
    let es = c.args.entries.now in
    let at = c.loop-at.at in
    let same : to_z w64 (of_z w64 c.args.id) ≡ c.args.id = to_z-of_z c.ranges.id in
    let within : at - 1 < length es = omega (arith, c.loop-at-test.true, c.loop-at.invariant.0) in
    let next : at ≡ suc (at - 1) = omega (arith, c.loop-at-test.true) in
    let less = is_less _ (ap is_lt (sym c.cmp.ensures) ∙ sym c.is_lt.ensures ∙ c.if-is_lt.true) in
    record {
      within = c.loop-at.invariant.0;
      before = rw same at (below_take _ es (at - 1) at c.index-entries-at.result c.requires within less next);
      behind = rw same at c.loop-at.invariant.1;
    }
