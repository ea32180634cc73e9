-- The files so far were read.
use Rattle.std.proofs.Common.{◌≡◌, map, string_bytes, take}
use Rattle.std.specs.Prelude.{vec_len}
use Rattle.std.specs.List.{AllZip}
use Rattle.ads.specs.Control.{ResourceValue}
use Rattle.ads.specs.Views.{resource_view}
use Rattle.program_jobs.proofs.snapshots.named_snapshot.Given as goal

abbrev pub invariant-loop-path : goal.invariant-loop-path
invariant-loop-path g l =
    (vec_len l.resources ≡ l.path-index)
    × (map (λ (r : ResourceValue). r.name) (map resource_view l.resources.items)
    ≡ map string_bytes (take l.path-index l.names))
    × AllZip (λ path (r : ResourceValue). g.F.Source.holds l.files path r.filter)
    (map string_bytes (take l.path-index l.paths)) (map resource_view l.resources.items)
