use Rattle.std.proofs.Common.{refl}
use Rattle.serve_log.proofs.recorder.begun_file.Goals as goal

pub returns : goal.returns
returns g c = record {
  empty = c.new-file.result;
  by = c.new-file.ensures.out.0;
  nothing = (c.new-file.ensures.out.1, c.new-file.ensures.whole.2, c.new-file.ensures.whole.1, c.new-file.ensures.whole.0);
  takes = c.in_ok-begin.ensures.begins c.new-file.ensures.whole.2;
  written = c.in_ok-begin.ensures.written;
}
