use Rattle.std.proofs.Common.{◌≡◌, ◌∷◌, ◌++◌, drop}
use Rattle.std.specs.List.{flat_map}
use Rattle.std.specs.String.{string_bytes}
use Rattle.http_front.specs.Answer.{match_list, match_text}
use Rattle.http_front.proofs.answer.match_list.Given as goal

abbrev pub invariant-loop-other : goal.invariant-loop-other
invariant-loop-other l =
    match_list l.matches
    ≡ string_bytes l.text ++ flat_map (λ other. 44 ∷ match_text other) (drop l.other-index l.others)
