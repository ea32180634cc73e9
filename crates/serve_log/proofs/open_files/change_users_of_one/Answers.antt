use Rattle.serve_log.proofs.FileListLemmas.{none_at_same, none_same}
use Rattle.std.proofs.Common.{◌<◌, arith, length}
use Rattle.serve_log.proofs.open_files.change_users_of_one.Goals as goal

pub returns-then-number : goal.returns-then-number
returns-then-number g c =
    let below : c.loop-file.file-index < length c.loop-file.files = omega arith in
    none_at_same g.W.Write.contents c.args.files.now c.loop-file.files c.loop-file.file-index _ c.change_users.new.self
    c.loop-file.invariant below c.change_users.ensures.same

pub returns : goal.returns
returns g c = rw c.loop-file.invariant (none_same g.W.Write.contents c.args.files.now)
