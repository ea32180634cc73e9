-- The values so far are the filters so far.
use Rattle.std.proofs.Common.{take}
use Rattle.std.specs.List.{AllZip}
use Rattle.ads.specs.Views.{filters_view}
use Rattle.serde_json.specs.View.{items_view}
use Rattle.proxy_replay.specs.Configuration.{IsFilterObject}
use Rattle.program_texts.specs.Members.{values}
use Rattle.proxy_replay.proofs.configuration.filters_of.Given as goal

abbrev pub invariant-loop-item : goal.invariant-loop-item
invariant-loop-item l =
    AllZip IsFilterObject (values (items_view (take l.item-index l.items))) (filters_view l.filters.items)
