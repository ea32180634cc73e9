use Rattle.std.proofs.Common.{◌≡◌, ℕ, List, [], ◌∷◌, ◌++◌, length, ap, ap₂, set, ◌∙◌, sym, rules, arith, append_assoc, length-append}
use Rattle.std.proofs.lemmas.List.{take-append-drop, set_at}
use Rattle.xds_wire.specs.Frames.{Cut}
use Rattle.xds_wire.specs.private.Pieces.{tail_view}
use Rattle.xds_wire.proofs.CutLemmas.{cut_whole_data}
use Rattle.xds_wire.proofs.state.finish.Goals as goal

pub returns-clause-found : goal.returns-clause-found
returns-clause-found c =
    let found = c.in_ok-state.ensures.found in
    let old : List (List ℕ) = c.args.messages.now.items in
    let part : List ℕ = c.args.kept.now.bytes.items in
    let own : List ℕ = c.split_at.result.0.now in
    let behind : List ℕ = c.split_at.result.1.now in
    let whole : List ℕ = part ++ own in
    let n = c.args.kept.now.length in
    let is : c.new-4.result ≡ whole =
    c.new-4.ensures ∙ ap (λ v. v.items) c.replace-whole.ensures.value ∙ c.in_ok-append.ensures.found in
    let joined : own ++ behind ≡ c.args.bytes.now =
    ap₂ (λ (x y : List ℕ). x ++ y) c.split_at.ensures.front c.split_at.ensures.back
    ∙ take-append-drop _ c.args.bytes.now in
    let long : length whole ≡ n = omega (arith, length-append part own, c.split_at.ensures.front_len, ap length c.in_ok-append.ensures.found) in
    let bytes : part ++ c.args.bytes.now ≡ whole ++ behind =
    ap (λ t. part ++ t) (sym joined) ∙ sym (append_assoc part own behind) in
    let cut : Cut behind c.args.max found.0 (tail_view c.in_ok-state.state) =
    rw c.empty.ensures.nothing at found.1 in
    let place : length old ≡ c.len-place.result = search rules in
    let items : c.cut_frames.new.messages.items ≡ old ++ c.new-2.result ∷ found.0 =
    found.2 ∙ ap (λ t. t ++ found.0) c.in_ok-push_back.ensures.items ∙ append_assoc old (c.new-2.result ∷ []) found.0 in
    let queue : set c.cut_frames.new.messages.items c.len-place.result c.new-4.result ≡ old ++ whole ∷ found.0 =
    ap₂ (λ (xs : List (List ℕ)) (m : List ℕ). set xs c.len-place.result m) items is
    ∙ set_at old c.new-2.result found.0 whole c.len-place.result place in (
      whole ∷ found.0,
      cut_whole_data c.args.max n part c.args.bytes.now whole behind found.0
          (tail_view c.in_ok-state.state) c.requires.allowed long bytes cut,
      queue,
      found.3,
    )
