use Rattle.std.proofs.Common.{◌≡◌, ◌∙◌, Some, option_map, length, length-append, [], ◌∷◌, refl, ap, arith}
use Rattle.cel_value.specs.Items.{item_at}
use Rattle.cel_value.specs.View.{value_view}
use Rattle.cel_meaning.proofs.PlainSteps.{at_ranged, is_ranged, no_more, one_more, some_left}
use Rattle.cel_meaning.proofs.elements.take_elements.Goals as goal

pub loop-items-init : goal.loop-items-init
loop-items-init c = rw c.new-items.ensures.items (_, refl)

pub loop-items-smaller : goal.loop-items-smaller
loop-items-smaller c =
    let found = at_ranged _ (λ vs. option_map value_view c.in_ok-item.field-0 ≡ item_at vs c.len.result)
    c.requires c.in_ok-item.ensures in
    let left = some_left _ c.len.result (value_view c.in-Some.item) (rw c.in-Some.is at found) in
    let more = ap length c.in_ok-push.ensures.items
    ∙ length-append c.loop-items.items.items (c.in-Some.item ∷ []) in
    omega (arith, left, c.len.ensures, more)

pub loop-items-preserved : goal.loop-items-preserved
loop-items-preserved c =
    let found = at_ranged _ (λ vs. option_map value_view c.in_ok-item.field-0 ≡ item_at vs c.len.result)
    c.requires c.in_ok-item.ensures in
    let n : c.len.result ≡ length c.loop-items.items.items = omega (arith, c.len.ensures) in
    rw c.in_ok-push.ensures.items
    (one_more _ c.loop-items.items.items c.in-Some.item
    (rw c.in-Some.is at found ∙ ap (item_at _) n) c.loop-items.invariant)

pub returns : goal.returns
returns c =
    let found = at_ranged _ (λ vs. option_map value_view c.in_ok-item.field-0 ≡ item_at vs c.len.result)
    c.requires c.in_ok-item.ensures in
    let n : c.len.result ≡ length c.loop-items.items.items = omega (arith, c.len.ensures) in
    is_ranged _ c.requires
    ∙ ap Some (no_more _ c.loop-items.items.items
    (rw c.in_default.is at found ∙ ap (item_at _) n) c.loop-items.invariant)
