use Rattle.std.proofs.Common.{◌∷◌, ◌∙◌, [], subst, sym}
use Rattle.std.proofs.lemmas.Result.{on_ok_weaker}
use Rattle.proxy_core.specs.Events.{ads_lost, ads_up}
use Rattle.serve_log.specs.Beginnings.{TakesBytes, empty_frames, forgotten, frames_of}
use Rattle.serve_log.proofs.BeginningLemmas.{bytes_whole, feeds_down, feeds_up}
use Rattle.serve_log.proofs.FileLemmas.{stays_whole}
use Rattle.serve_log.proofs.beginning.put_updates.Goals as goal

pub returns-then-is_up : goal.returns-then-is_up
returns-then-is_up g c = λ whole.
    let contents = g.W.Write.contents in
    let updates = c.args.updates.now in
    let up = c.in_ok-put.ensures ads_up (c.as_str.ensures.value ∙ c.in_ok-up_line.ensures) whole in
    let first = stays_whole contents (ads_up ∷ []) c.args.file.now _ up whole in
    let empty = subst (λ n. TakesBytes contents (empty_frames n) c.put.new.self c.put_empty.new.file) c.forgotten.ensures
    (c.in_ok-put_empty.ensures first) in
    let second = bytes_whole contents (empty_frames (forgotten updates)) _ _ empty first in
    let kept = subst (λ l. TakesBytes contents (frames_of l) c.put_empty.new.file c.put_kept.new.file) c.kept.ensures
    (c.in_ok-put_kept.ensures second) in
    let third = bytes_whole contents (frames_of updates.kept.items) _ _ kept second in
    on_ok_weaker c.put_bytes.result
    (λ last. feeds_up contents updates c.args.file.now _ _ _ _ (sym c.if-is_up.ensures) up empty kept
    (subst (λ l. TakesBytes contents l c.put_kept.new.file c.put_bytes.new.file) c.unfinished.ensures last))
    (c.put_bytes.ensures third)

pub returns : goal.returns
returns g c = λ whole.
    let contents = g.W.Write.contents in
    let updates = c.args.updates.now in
    let up = c.in_ok-put.ensures ads_up (c.as_str.ensures.value ∙ c.in_ok-up_line.ensures) whole in
    let first = stays_whole contents (ads_up ∷ []) c.args.file.now _ up whole in
    let empty = subst (λ n. TakesBytes contents (empty_frames n) c.put.new.self c.put_empty.new.file) c.forgotten.ensures
    (c.in_ok-put_empty.ensures first) in
    let second = bytes_whole contents (empty_frames (forgotten updates)) _ _ empty first in
    let kept = subst (λ l. TakesBytes contents (frames_of l) c.put_empty.new.file c.put_kept.new.file) c.kept.ensures
    (c.in_ok-put_kept.ensures second) in
    let third = bytes_whole contents (frames_of updates.kept.items) _ _ kept second in
    on_ok_weaker c.put-2.result
    (λ last. feeds_down contents updates c.args.file.now _ _ _ _ (sym c.if-is_up.ensures) up empty kept last)
    (c.put-2.ensures ads_lost (c.as_str-2.ensures.value ∙ c.in_ok-lost_line.ensures) third)
