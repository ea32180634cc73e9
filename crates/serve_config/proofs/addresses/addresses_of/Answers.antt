-- The next address is that of the next item.
use Rattle.serve_config.specs.Addresses.{IsAddressText}
use Rattle.serve_config.proofs.Items.{items_more}
use Rattle.serve_config.proofs.addresses.addresses_of.Goals as goal

pub loop-item-preserved : goal.loop-item-preserved
loop-item-preserved c =
    items_more IsAddressText c.args.items.now c.loop-item.item-index c.item-item.result _ _ c.in_ok-address.address
    c.loop-item-test.true c.loop-item.invariant (rw (← c.item-item.is) c.in_ok-address.ensures)
    c.in_ok-push.ensures.items
