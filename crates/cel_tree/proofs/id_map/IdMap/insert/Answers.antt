use Rattle.std.proofs.Common.{◌≡◌, ◌<◌, length, drop, false, true, w64, to_z, of_z, to_z-of_z, sym, ◌∙◌}
use Rattle.std.specs.FinMap.{put}
use Rattle.std.specs.List.{insert}
use Rattle.std.specs.Ordering.{int_cmp}
use Rattle.cel_tree.specs.private.Places.{IsPlace, starts_with}
use Rattle.cel_tree.proofs.IdPlaces.{put_new, put_old, put_sorted}
use Rattle.cel_tree.proofs.id_map.IdMap.insert.Goals as goal

pub returns : goal.returns
returns g c =
    let es = c.self.inside.entries.items in
    let at = c.place_of-at.result in
    let same : to_z w64 (of_z w64 c.args.id) ≡ c.args.id = to_z-of_z c.ranges.id in
    let place : IsPlace c.args.id es at = rw (same, c.deref.ensures.value) at c.place_of-at.ensures in
    let new : starts_with c.args.id (drop at es) ≡ false =
    rw (same, c.deref-2.ensures.value) at (sym c.stands_at.ensures.first ∙ c.if-stands_at.false) in
    let done : c.insert.new.self.items ≡ insert es at (c.args.id, c.args.value) = rw same at c.in_ok-insert.ensures.items in
    rw (← c.self.view_is) (done ∙ sym (put_new c.args.id c.args.value es at place new))

pub invariant_of-self-2 : goal.invariant_of-self-2
invariant_of-self-2 g c =
    let es = c.self.inside.entries.items in
    let at = c.place_of-at.result in
    let same : to_z w64 (of_z w64 c.args.id) ≡ c.args.id = to_z-of_z c.ranges.id in
    let place : IsPlace c.args.id es at = rw (same, c.deref.ensures.value) at c.place_of-at.ensures in
    let new : starts_with c.args.id (drop at es) ≡ false =
    rw (same, c.deref-2.ensures.value) at (sym c.stands_at.ensures.first ∙ c.if-stands_at.false) in
    let done : c.insert.new.self.items ≡ insert es at (c.args.id, c.args.value) = rw same at c.in_ok-insert.ensures.items in
    let is : put int_cmp c.args.id c.args.value es ≡ c.insert.new.self.items =
    put_new c.args.id c.args.value es at place new ∙ sym done in
    put_sorted c.args.id c.args.value es c.insert.new.self.items is c.self.invariant

pub returns-then-stands_at : goal.returns-then-stands_at
returns-then-stands_at g c =
    let es = c.self.inside.entries.items in
    let at = c.place_of-at.result in
    let same : to_z w64 (of_z w64 c.args.id) ≡ c.args.id = to_z-of_z c.ranges.id in
    let place : IsPlace c.args.id es at = rw (same, c.deref.ensures.value) at c.place_of-at.ensures in
    let within : at < length es = rw c.deref-2.ensures.value at (c.stands_at.ensures.within c.if-stands_at.true) in
    let old : starts_with c.args.id (drop at es) ≡ true =
    rw (same, c.deref-2.ensures.value) at (sym c.stands_at.ensures.first ∙ c.if-stands_at.true) in
    rw (← c.self.view_is, c.index_mut.ensures.value)
    (sym (put_old c.args.id c.args.value es at c.index_mut.result.now place within old))

pub invariant_of-self : goal.invariant_of-self
invariant_of-self g c =
    let es = c.self.inside.entries.items in
    let at = c.place_of-at.result in
    let same : to_z w64 (of_z w64 c.args.id) ≡ c.args.id = to_z-of_z c.ranges.id in
    let place : IsPlace c.args.id es at = rw (same, c.deref.ensures.value) at c.place_of-at.ensures in
    let within : at < length es = rw c.deref-2.ensures.value at (c.stands_at.ensures.within c.if-stands_at.true) in
    let old : starts_with c.args.id (drop at es) ≡ true =
    rw (same, c.deref-2.ensures.value) at (sym c.stands_at.ensures.first ∙ c.if-stands_at.true) in
    rw c.index_mut.ensures.value (put_sorted c.args.id c.args.value es _
    (put_old c.args.id c.args.value es at c.index_mut.result.now place within old) c.self.invariant)
