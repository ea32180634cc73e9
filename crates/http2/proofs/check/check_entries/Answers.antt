use Rattle.std.proofs.Common.{◌∙◌, sym, rules, length, List, ℕ, ◌≤◌}
use Rattle.http2.proofs.Frames.{entries_step}
use Rattle.http2.proofs.check.check_entries.Goals as goal

pub entries-preserved : goal.entries-preserved
entries-preserved c =
    let bytes : List ℕ = c.entries.rest.now in
    let long : 6 ≤ length bytes = search rules in
    let fine = sym (rw c.word.ensures at c.in_ok-check_setting.ensures) in
    rw c.behind-rest.ensures (sym (entries_step c.args.pushes bytes long fine) ∙ c.entries.invariant)
