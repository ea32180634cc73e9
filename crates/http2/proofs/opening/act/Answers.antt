use Rattle.std.proofs.Common.{ℕ, List, Some, None, ◌∷◌, ◌++◌, refl, sym, ap, ◌∙◌}
use Rattle.http2.specs.Lines.{unread}
use Rattle.http2.specs.Trail.{Step, got}
use Rattle.http2.specs.Controls.{control_view}
use Rattle.http2.specs.Control.{goes_on}
use Rattle.http2.specs.Call.{replies_to, by_frame, by_memory}
use Rattle.http2.specs.Frame.{Parts}
use Rattle.http2.specs.declared.end.End.{End}
use Rattle.http2.specs.declared.end.End.TheVariants.{Broken}
use Rattle.http2.specs.declared.fault.Fault.TheVariants.{Memory}
use Rattle.http2.proofs.Calls.{same_law, begins_got, begins_replies, is_going, is_ended, replies_follow, replies_owed, replies_replied}
use Rattle.http2.proofs.opening.act.Goals as goal

pub returns-in-Ok-clause-answers : goal.returns-in-Ok-clause-answers
returns-in-Ok-clause-answers c = λ first trail came sent took gave law begins follows answered.
    let frame : List ℕ = c.args.frame.now.bytes.items in
    let after = rw c.in-Ok-None.field-0-is at c.in-Ok-None.ensures.after in
    let written = c.in-Ok.ensures.replied in
    let here : List Step = got frame ∷ trail in (
      written.0 ++ here,
      written.1 here came sent took gave law,
      is_going first (written.0 ++ here) (control_view c.after.new.self) None (unread c.reply.new.pipe) refl
          (begins_replies first written.0 here (replies_to frame) written.2 (begins_got first frame trail begins))
          (replies_follow written.0 here (replies_to frame) (goes_on (control_view c.after.new.self)) written.2
          (control_view c.args.control.now, follows, after))
          (replies_replied written.0 here (replies_to frame) written.2
          ∙ ap (λ (ps : List Parts). ps ++ replies_to frame) answered
          ∙ sym (replies_owed written.0 here (replies_to frame) written.2)),
    )

pub returns-in-Err-reply-clause-answers : goal.returns-in-Err-reply-clause-answers
returns-in-Err-reply-clause-answers c = λ first trail came sent took gave law begins follows answered.
    let frame : List ℕ = c.args.frame.now.bytes.items in
    let here : List Step = got frame ∷ trail in
    let end : End = Broken Memory in (
      here,
      same_law c.args.pipe.now c.reply.new.pipe c.in-Err-reply.ensures.fault here came sent took gave law,
      is_ended first here (control_view c.after.new.self) (Some end) (unread c.reply.new.pipe) end refl
          (begins_got first frame trail begins) (by_memory refl),
    )

pub returns-in-Ok-Some-clause-answers : goal.returns-in-Ok-Some-clause-answers
returns-in-Ok-Some-clause-answers c = λ first trail came sent took gave law begins follows answered.
    let frame : List ℕ = c.args.frame.now.bytes.items in
    let here : List Step = got frame ∷ trail in
    let end : End = c.in-Ok-Some.end in
    let after = rw c.in-Ok-Some.field-0-is at c.in-Ok-Some.ensures.after in (
      here,
      law,
      is_ended first here (control_view c.after.new.self) (Some end) (unread c.args.pipe.now) end refl
          (begins_got first frame trail begins) (by_frame (control_view c.args.control.now, follows, after)),
    )

pub returns-in-Err-clause-answers : goal.returns-in-Err-clause-answers
returns-in-Err-clause-answers c = λ first trail came sent took gave law begins follows answered.
    let frame : List ℕ = c.args.frame.now.bytes.items in
    let here : List Step = got frame ∷ trail in
    let end : End = Broken Memory in (
      here,
      law,
      is_ended first here (control_view c.after.new.self) (Some end) (unread c.args.pipe.now) end refl
          (begins_got first frame trail begins) (by_memory refl),
    )
