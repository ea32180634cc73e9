use Rattle.std.proofs.Common.{ap, ◌∙◌}
use Rattle.http2.specs.Frame.{Parts}
use Rattle.http2.proofs.acting.head.Goals as goal

pub returns-clause-law : goal.returns-clause-law
returns-clause-law c =
    let written = c.in_ok-control.ensures.law in
    let are = written.1 in (
      written.0,
      record {
        kind = ap (λ (p : Parts). p.kind) are;
        flags_are = ap (λ (p : Parts). p.flags) are;
        on_stream = ap (λ (p : Parts). p.stream) are ∙ c.number-number.ensures;
        means = λ most table. rw (ap (λ (p : Parts). p.payload) are, c.deref.ensures.value) (c.in_ok-block.ensures most table);
      },
      written.2,
      written.3,
    )
