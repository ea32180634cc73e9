use Rattle.std.proofs.Common.{rules, sym}
use Rattle.cel_value.specs.Texts.{text_view}
use Rattle.cel_value.specs.Values.{text_key}
use Rattle.cel_value.proofs.MapSearching.{pair_found, pair_absent}
use Rattle.cel_value.proofs.map.find_pair.Goals as goal

pub returns-in-Ok : goal.returns-in-Ok
returns-in-Ok c =
    sym (pair_found (text_key (text_view c.args.name.now))
    (λ a r f' k. search rules) c.args.pairs.now _
    c.index-pairs-index.result c.requires c.in-Ok.ensures.bound c.in-Ok.ensures.position)

pub returns-in-Err : goal.returns-in-Err
returns-in-Err c =
    sym (pair_absent (text_key (text_view c.args.name.now))
    (λ a r f' k. search rules) c.args.pairs.now _
    c.requires c.in-Err.ensures.position)
