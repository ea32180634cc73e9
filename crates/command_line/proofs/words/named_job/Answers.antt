use Rattle.std.proofs.Common.{codes, refl}
use Rattle.std.proofs.lemmas.Result.{IfOk-weaker}
use Rattle.command_line.proofs.WordLemmas.{names_no_job, no_subcommand}
use Rattle.command_line.proofs.words.named_job.Goals as goal

pub returns-in-Some-clause-none : goal.returns-in-Some-clause-none
returns-in-Some-clause-none c =
    let met = c.in-Some.ensures.found in
    IfOk-weaker c.check_job.result _ _
    (λ job none. names_no_job c.args.matches.now (codes "check") _ job (met.0 refl) c.in-Some.ensures.rows none)
    c.check_job.ensures.none

pub returns-in-Some-subcommand_matches-clause-none : goal.returns-in-Some-subcommand_matches-clause-none
returns-in-Some-subcommand_matches-clause-none c =
    let met = c.in-Some-subcommand_matches.ensures.found in
    IfOk-weaker c.judge_job.result _ _
    (λ job none. names_no_job c.args.matches.now (codes "judge") _ job (met.0 refl) c.in-Some-subcommand_matches.ensures.rows none)
    c.judge_job.ensures.none

pub returns-in-Some-subcommand_matches-2-clause-none : goal.returns-in-Some-subcommand_matches-2-clause-none
returns-in-Some-subcommand_matches-2-clause-none c =
    let met = c.in-Some-subcommand_matches-2.ensures.found in
    IfOk-weaker c.check_config_job.result _ _
    (λ job none. names_no_job c.args.matches.now (codes "check-config") _ job (met.0 refl) c.in-Some-subcommand_matches-2.ensures.rows none)
    c.check_config_job.ensures.none

pub returns-in-Some-subcommand_matches-3-clause-none : goal.returns-in-Some-subcommand_matches-3-clause-none
returns-in-Some-subcommand_matches-3-clause-none c =
    let met = c.in-Some-subcommand_matches-3.ensures.found in
    IfOk-weaker c.replay_job.result _ _
    (λ job none. names_no_job c.args.matches.now (codes "replay") _ job (met.0 refl) c.in-Some-subcommand_matches-3.ensures.rows none)
    c.replay_job.ensures.none

pub returns-in-Some-subcommand_matches-4-clause-none : goal.returns-in-Some-subcommand_matches-4-clause-none
returns-in-Some-subcommand_matches-4-clause-none c =
    let met = c.in-Some-subcommand_matches-4.ensures.found in
    IfOk-weaker c.control_job.result _ _
    (λ job none. names_no_job c.args.matches.now (codes "control") _ job (met.0 refl) c.in-Some-subcommand_matches-4.ensures.rows none)
    c.control_job.ensures.none

pub returns-in-Some-subcommand_matches-5-clause-none : goal.returns-in-Some-subcommand_matches-5-clause-none
returns-in-Some-subcommand_matches-5-clause-none c =
    let met = c.in-Some-subcommand_matches-5.ensures.found in
    IfOk-weaker c.proxy_job.result _ _
    (λ job none. names_no_job c.args.matches.now (codes "proxy") _ job (met.0 refl) c.in-Some-subcommand_matches-5.ensures.rows none)
    c.proxy_job.ensures.none

pub returns-in-Some-subcommand_matches-6-clause-none : goal.returns-in-Some-subcommand_matches-6-clause-none
returns-in-Some-subcommand_matches-6-clause-none c =
    let met = c.in-Some-subcommand_matches-6.ensures.found in
    IfOk-weaker c.serve_job.result _ _
    (λ job none. names_no_job c.args.matches.now (codes "serve") _ job (met.0 refl) c.in-Some-subcommand_matches-6.ensures.rows none)
    c.serve_job.ensures.none

pub returns-in-None-clause-none : goal.returns-in-None-clause-none
returns-in-None-clause-none c =
    no_subcommand c.args.matches.now (λ met. c.in_default.ensures.found.1 met)
    (λ met. c.in_default-subcommand_matches.ensures.found.1 met)
    (λ met. c.in_default-subcommand_matches-2.ensures.found.1 met)
    (λ met. c.in_default-subcommand_matches-3.ensures.found.1 met)
    (λ met. c.in_default-subcommand_matches-4.ensures.found.1 met)
    (λ met. c.in_default-subcommand_matches-5.ensures.found.1 met) (λ met. c.in-None.ensures.found.1 met)
