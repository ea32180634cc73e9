use Rattle.rbac_match.proofs.LeafLists.{goes_on_as_it_is}
use Rattle.rbac_match.proofs.pool.Pool.shrink.Goals as goal

pub returns : goal.returns
returns c = record {
  text = goes_on_as_it_is c.args.self.now.text.items _ c.shrink_to_fit.ensures.items;
  borders = goes_on_as_it_is c.args.self.now.borders.items _ c.shrink_to_fit-2.ensures.items;
  ranges = goes_on_as_it_is c.args.self.now.ranges.items _ c.shrink_to_fit-3.ensures.items;
}
