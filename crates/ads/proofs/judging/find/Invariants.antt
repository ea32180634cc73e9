use Rattle.std.proofs.Common.{◌≡◌, [], ◌∷◌, map, take}
use Rattle.std.specs.Prelude.{MatchOption}
use Rattle.xds_wire.specs.View.{extension_view}
use Rattle.ads.specs.Answer.{named}
use Rattle.ads.proofs.judging.find.Given as goal

abbrev pub invariant-loop-extension : goal.invariant-loop-extension
invariant-loop-extension l =
    let xs = named l.name (map extension_view (take l.extension-index l.extensions)) in
    MatchOption l.found (xs ≡ []) (λ x. xs ≡ extension_view x ∷ [])
