use Rattle.std.proofs.Common.{inl, inr, string_bytes, subst}
use Rattle.std.proofs.lemmas.Result.{err_from_is_err_and}
use Rattle.program_jobs.specs.Jobs.{StopsProxy}
use Rattle.stream_pumps.proofs.RoundLemmas.{rounds_at}
use Rattle.program_jobs.proofs.serve.run_rounds.Goals as goal

pub returns-in_err-config-clause-fault : goal.returns-in_err-config-clause-fault
returns-in_err-config-clause-fault g c =
    let p = err_from_is_err_and c.from_residual.result c.from_residual.ensures.1 in
    rw (p.1, p.2) (elim (rw c.as_str.ensures.value at c.in_err-config.ensures.fault) [
      | inl memory ↦ inl memory
      | inr lacks ↦ inr (StopsProxy.no_config lacks)
    ])

pub returns-in_err-conn-clause-fault : goal.returns-in_err-conn-clause-fault
returns-in_err-conn-clause-fault g c =
    let p = err_from_is_err_and c.from_residual-in_err-conn.result c.from_residual-in_err-conn.ensures.1 in
    let config = rw c.as_str.ensures.value at c.in_ok-config.ensures.found in
    rw (p.1, p.2) (elim (rw c.limits.ensures at c.in_err-conn.ensures.fault) [
      | inl memory ↦ inl memory
      | inr lacks ↦ inr (StopsProxy.no_facts _ config lacks)
    ])

pub returns-in_err-log-clause-fault : goal.returns-in_err-log-clause-fault
returns-in_err-log-clause-fault g c =
    let p = err_from_is_err_and c.from_residual-in_err-log.result c.from_residual-in_err-log.ensures.1 in
    rw (p.1, p.2) (elim c.in_err-log.ensures.fault [
      | inl memory ↦ inl memory
      | inr cannot ↦ inr (StopsProxy.no_log _ _ (record {
        config = rw c.as_str.ensures.value at c.in_ok-config.ensures.found;
        conn = c.in_ok-conn.ensures.found.0;
        fits = rw c.limits.ensures at c.in_ok-conn.ensures.found.1;
      }) cannot)
    ])

pub returns-in_err-listener-clause-fault : goal.returns-in_err-listener-clause-fault
returns-in_err-listener-clause-fault g c =
    let p = err_from_is_err_and c.from_residual-in_err-listener.result c.from_residual-in_err-listener.ensures.1 in
    rw (p.1, p.2) (elim (rw c.as_str-2.ensures.value at c.in_err-listener.ensures.fault) [
      | inl memory ↦ inl memory
      | inr cannot ↦ inr (StopsProxy.no_listener _ _ (record {
        config = rw c.as_str.ensures.value at c.in_ok-config.ensures.found;
        conn = c.in_ok-conn.ensures.found.0;
        fits = rw c.limits.ensures at c.in_ok-conn.ensures.found.1;
      }) cannot)
    ])

pub returns-clause-found : goal.returns-clause-found
returns-clause-found g c = record {
  c = _;
  facts = _;
  configured = record {
    config = rw c.as_str.ensures.value at c.in_ok-config.ensures.found;
    conn = c.in_ok-conn.ensures.found.0;
    fits = rw c.limits.ensures at c.in_ok-conn.ensures.found.1;
  };
  after = _;
  link = c.serve_rounds.ensures.0;
  rounds = rw c.in_ok-proxy.ensures at (rounds_at _
      (g.F.Sockets.connects c.args.system.now (string_bytes c.args.words.control)) _
      (g.F.Sockets.accepts c.args.system.now (string_bytes c.args.words.listen)) _ _ _ _ _ _
      (λ link given. subst (λ a. g.F.Sockets.connects c.args.system.now a link) c.as_str-3.ensures.value given)
      (rw c.as_str-2.ensures.value at c.in_ok-listener.ensures.found) c.serve_rounds.ensures.1);
}
