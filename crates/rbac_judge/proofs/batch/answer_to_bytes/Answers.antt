use Rattle.std.proofs.Common.{◌∙◌, ap, codes}
use Rattle.std.proofs.lemmas.Bool.{false≢true}
use Rattle.std.proofs.lemmas.Result.{IfOk-weaker}
use Rattle.serde_json.specs.Read.{max_depth}
use Rattle.serde_json.specs.View.{view}
use Rattle.rbac_judge.proofs.BatchLemmas.{answered_at, answered_none_at, id_within}
use Rattle.rbac_judge.proofs.batch.answer_to_bytes.Goals as goal

pub with_id-requires : goal.with_id-requires
with_id-requires c = id_within (λ v. view v.now) c.get.result _ (codes "id") max_depth c.get.ensures c.in-Ok.ensures.nests

pub returns-in_ok-text-in-Ok : goal.returns-in_ok-text-in-Ok
returns-in_ok-text-in-Ok c =
    let read = c.in-Ok.ensures.ok in
    IfOk-weaker c.with_id.result _ _ (λ line found short. answered_at _ _ _ c.args.number c.args.line.now _ _ _ found.0
    read.0 read.1 short c.in_ok-text-in-Ok.ensures (rw c.get.ensures at found.1) found.2) c.with_id.ensures

pub returns-in_ok-text-in-Err-2 : goal.returns-in_ok-text-in-Err-2
returns-in_ok-text-in-Err-2 c = λ short.
    let none = c.in-Err.ensures.err (λ memory. false≢true (rw c.if-is_memory.false at (c.is_memory.ensures.1 memory))) in
    answered_none_at _ _ _ c.args.number c.args.line.now _ c.as_str.result.now none short
    (ap (λ v. v.items) c.into_bytes.ensures.value ∙ c.in_ok-text-in-Err-2.ensures)
