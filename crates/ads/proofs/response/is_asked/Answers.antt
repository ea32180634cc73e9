use Rattle.std.proofs.Common.{◌∙◌, sym, rules, tests, bytes_eq}
use Rattle.std.proofs.lemmas.Iterator.{YieldsList-from_slice}
use Rattle.std.proofs.lemmas.Iterator.Search.{any_from_yields_List}
use Rattle.proto_wire.proofs.ValueLemmas.{list_any_map}
use Rattle.ads.proofs.response.is_asked.Goals as goal

pub returns : goal.returns
returns c =
    let name = c.args.name.now in
    let names = c.args.names.now in
    any_from_yields_List (λ n. bytes_eq n.now name) _ _ _ c.any.ensures.ran
    (YieldsList-from_slice names cc) (λ x b q k. search (rules, tests))
    ∙ sym (list_any_map (λ n. bytes_eq n name) (λ text. text.now) names)
