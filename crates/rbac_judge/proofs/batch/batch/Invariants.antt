-- The lines so far were read and have answers, which are written or pending, and the next has the next number.
use Rattle.std.proofs.Common.{◌≡◌, ◌++◌, ◌+◌, List, ℕ, length}
use Rattle.std.specs.Io.KnownBytes.{Appends}
use Rattle.attributes.specs.Conn.{conn_view}
use Rattle.rbac_policy.specs.Admitted.{filter_view}
use Rattle.rbac_judge.specs.Batches.{Answer, Answered, answers_text}
use Rattle.rbac_judge.specs.Batches.{OfPolicies}
use Rattle.rbac_judge.proofs.batch.batch.Given as goal

abbrev pub invariant-loop-number : goal.invariant-loop-number
invariant-loop-number g l = (lines : List (List ℕ)) × (answers : List Answer) × (done : List ℕ)
    × OfPolicies (filter_view l.basis.admitted) (λ policy budget.
    Answered policy budget (conn_view l.basis.conn) l.basis.explain (g.R.Read.remaining l.fn.input) lines answers
    (g.R.Read.remaining l.input))
    × (answers_text answers ≡ done ++ l.pending.items)
    × Appends (g.W.Write.contents l.fn.out) (g.W.Write.contents l.out) done
    × (l.number ≡ length lines + 1)
