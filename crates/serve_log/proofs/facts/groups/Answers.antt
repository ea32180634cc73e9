use Rattle.std.proofs.Common.{◌∙◌, ◌++◌, ◌∷◌, [], List, ℕ, ap, ap₂, drop, slice_index}
use Rattle.std.proofs.lemmas.Result.{IfOk-weaker}
use Rattle.program_texts.specs.WrittenFacts.{colon_groups}
use Rattle.serve_log.proofs.IpGroups.{eight_groups, two_fours}
use Rattle.serve_log.proofs.facts.groups.Goals as goal

-- the groups of the first 16 bytes of a list
abbrev sixteen : List ℕ → List ℕ
sixteen l =
    drop 1 (colon_groups (slice_index l 0 ∷ slice_index l 1 ∷ slice_index l 2 ∷ slice_index l 3 ∷ slice_index l 4
    ∷ slice_index l 5 ∷ slice_index l 6 ∷ slice_index l 7 ∷ slice_index l 8 ∷ slice_index l 9 ∷ slice_index l 10
    ∷ slice_index l 11 ∷ slice_index l 12 ∷ slice_index l 13 ∷ slice_index l 14 ∷ slice_index l 15 ∷ []))

pub returns : goal.returns
returns c =
    let b = c.to_be_bytes.result in
    let joined = eight_groups (slice_index b 0) (slice_index b 1) (slice_index b 2) (slice_index b 3) (slice_index b 4)
    (slice_index b 5) (slice_index b 6) (slice_index b 7) (slice_index b 8) (slice_index b 9) (slice_index b 10)
    (slice_index b 11) (slice_index b 12) (slice_index b 13) (slice_index b 14) (slice_index b 15) _ _ _ _ _ _ _ _
    c.in_ok-first.ensures c.in_ok-second.ensures c.in_ok-third.ensures c.in_ok-fourth.ensures
    c.in_ok-fifth.ensures c.in_ok-sixth.ensures c.in_ok-seventh.ensures c.in_ok-eighth.ensures in
    IfOk-weaker c.two_halves.result _ _
    (λ text is. is ∙ ap₂ (λ x y. x ++ (58 ∷ y)) c.in_ok-high.ensures c.in_ok-low.ensures ∙ two_fours _ _ _ _ _ ∙ joined ∙ ap sixteen c.to_be_bytes.ensures)
    c.two_halves.ensures
