use Rattle.std.proofs.Common.{◌++◌, ◌∙◌, add-one, ap, ap₂, arith, sym}
use Rattle.serve_log.specs.Beginnings.{empty_frames}
use Rattle.serve_log.proofs.BeginningLemmas.{empty_more}
use Rattle.serve_log.proofs.beginning.empty_bytes.Goals as goal

pub frames-preserved : goal.frames-preserved
frames-preserved c = (
  omega arith,
  c.in_ok-extend_from_slice.ensures.items
      ∙ ap₂ (λ a b. a ++ b) c.frames.invariant.1 (c.deref.ensures.value ∙ c.in_ok-frame.ensures)
      ∙ empty_more c.frames.done ∙ ap empty_frames (sym (add-one c.frames.done)),
)
