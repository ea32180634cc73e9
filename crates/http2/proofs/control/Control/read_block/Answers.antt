use Rattle.std.proofs.Common.{◌≡◌, Bool, [], map, refl, ap, ◌∙◌, Some, None, unwrap_or, false, rules}
use Rattle.std.proofs.lemmas.Result.{IfOk-weaker}
use Rattle.hpack.specs.Field.{line_of}
use Rattle.hpack.specs.Block.{within}
use Rattle.hpack.proofs.Faulty.{fault_nothing}
use Rattle.http2.specs.Control.{fields, garbled, ends, is_over}
use Rattle.http2.specs.Controls.{control_view, told_view}
use Rattle.http2.specs.declared.end.End.{End}
use Rattle.http2.proofs.Calls.{fields_next}
use Rattle.http2.proofs.control.Control.read_block.Goals as goal

pub returns-in-Ok-Some-clause-gathers : goal.returns-in-Ok-Some-clause-gathers
returns-in-Ok-Some-clause-gathers c =
    let old = c.args.self.now in
    let means = c.in-Ok-Some.ensures.means in
    let same : c.deref.result.now ≡ old.block.items = search rules in
    let empty : c.replace-block.new.dest.items ≡ [] = search rules in
    let given = rw (c.in-Ok-Some.field-0-is, old.fields) at means.2 in
    let list : Some (map line_of c.deref-in-Ok-Some.result.now) ≡ within 16384 means.0 = rw c.deref-in-Ok-Some.ensures.value given in
    IfOk-weaker c.fields_came.result _ _
    (λ over next. fields c.requires.light refl means.0 c.decode.new.self.table (rw (old.table, same) at means.1)
    (next ∙ fields_next old.stage c.replace-block.new.dest.items old.weight c.decode.new.self.table old.left (told_view old.told)
    c.unwrap_or-last.result (unwrap_or old.unfinished false) _ _ empty c.unwrap_or-last.ensures list)) c.fields_came.ensures.next

pub returns-in-Ok-None-clause-gathers : goal.returns-in-Ok-None-clause-gathers
returns-in-Ok-None-clause-gathers c =
    let old = c.args.self.now in
    let means = c.in-Ok-None.ensures.means in
    let same : c.deref.result.now ≡ old.block.items = search rules in
    let last : Bool = unwrap_or old.unfinished false in
    let list : None ≡ within 16384 means.0 = rw (c.in-Ok-None.field-0-is, old.fields) at means.2 in
    fields c.requires.light refl means.0 c.decode.new.self.table (rw (old.table, same) at means.1)
    (ap (λ (e : End). is_over e (record { stage = old.stage; told = told_view old.told })) c.failed.ensures
    ∙ fields_next old.stage [] old.weight c.decode.new.self.table old.left (told_view old.told) last last None (within 16384 means.0) refl refl list)

pub returns-in-Err-Compression-clause-gathers : goal.returns-in-Err-Compression-clause-gathers
returns-in-Err-Compression-clause-gathers c =
    let old = c.args.self.now in
    let same : c.deref.result.now ≡ old.block.items = search rules in
    let refuses = rw c.in-Err-Compression.field-0-is at (c.in-Err-Compression.ensures.refused c.requires.alive) in
    garbled c.requires.light refl
    (λ fields table means. fault_nothing 4096 false old.decoder.table old.block.items _ fields table (rw (old.table, same) at refuses) means)
    (ap (λ (e : End). ends e (control_view old)) c.broken.ensures)
