-- The program's command line, and the job that its words name.
use Rattle.std.specs.Prelude.{◌≡◌, ◌≤◌, ◌*◌, ◌⊎◌, ◌↔◌, ⊤, ℕ, List, [], ◌∷◌, Bool, true, false, IsTrue, Ok, Option, Some, None, length, map, option_map, codes, string_bytes}
use Rattle.std.specs.Str.Parse.{ParsesUnsigned}
use Rattle.clap.specs.Words.{App, IsAmong, Row, Rule, Text, all_of, fault_of, first_of, one_of, new_app, new_rule, subcommand_of, with_rule, with_subcommand}
use Rattle.clap.specs.Simple.{on_top}
use Rattle.clap.specs.declared.builder.action.ArgAction.TheVariants.{Append, SetTrue}
use Rattle.clap.specs.declared.builder.value_parser.ValueParser.TheVariants as parsers
use Rattle.clap.specs.declared.error.kind.ErrorKind.{ErrorKind}
use Rattle.clap.specs.declared.error.kind.ErrorKind.TheVariants.{ValueValidation}
use Rattle.cost_bound.specs.Budgets.{IsBudget}
use Rattle.cost_bound.specs.declared.budget.Budget.{Budget}
use Rattle.command_line.specs.declared.control_words.SnapshotFiles.{SnapshotFiles}
use Rattle.command_line.specs.declared.control_words.SnapshotFiles.TheVariants.{Filters, Responses}
use Rattle.command_line.specs.declared.words.Job.{Job}
use Rattle.command_line.specs.declared.words.Job.TheVariants.{Batch, Check, CheckConfig, Control, Judge, Proxy, Replay, Serve}

-- `--policy FILE`, required
abbrev pub policy_rule : Rule
policy_rule = record (new_rule (codes "policy")) {
  long = Some (codes "policy");
  value_names = 1;
  required = true;
}

-- `--facts FILE`
abbrev pub facts_rule : Rule
facts_rule = record (new_rule (codes "facts")) {
  long = Some (codes "facts");
  value_names = 1;
}

-- `--budget N`, a number from 1 to 100,000,000; 1,000,000 if it is absent
abbrev pub budget_rule : Rule
budget_rule = record (new_rule (codes "budget")) {
  long = Some (codes "budget");
  value_names = 1;
  parser = Some (parsers.Unsigned 1 100000000);
  defaults = codes "1000000" ∷ [];
}

-- `--visits N`, a number from 1 to 2^63 - 1; 4,194,304 if it is absent
abbrev pub visits_rule : Rule
visits_rule = record (new_rule (codes "visits")) {
  long = Some (codes "visits");
  value_names = 1;
  parser = Some (parsers.Unsigned 1 9223372036854775807);
  defaults = codes "4194304" ∷ [];
}

-- `--json`
abbrev pub json_rule : Rule
json_rule = record (new_rule (codes "json")) {
  long = Some (codes "json");
  action = Some SetTrue;
}

-- `--explain`
abbrev pub explain_rule : Rule
explain_rule = record (new_rule (codes "explain")) {
  long = Some (codes "explain");
  action = Some SetTrue;
}

-- `--batch`
abbrev pub batch_rule : Rule
batch_rule = record (new_rule (codes "batch")) {
  long = Some (codes "batch");
  action = Some SetTrue;
}

-- `--config FILE`, required
abbrev pub config_rule : Rule
config_rule = record (new_rule (codes "config")) {
  long = Some (codes "config");
  value_names = 1;
  required = true;
}

-- `--listen ADDR`, required
abbrev pub listen_rule : Rule
listen_rule = record (new_rule (codes "listen")) {
  long = Some (codes "listen");
  value_names = 1;
  required = true;
}

-- `--control ADDR`, required
abbrev pub control_rule : Rule
control_rule = record (new_rule (codes "control")) {
  long = Some (codes "control");
  value_names = 1;
  required = true;
}

-- `--name F`, any number of times
abbrev pub name_rule : Rule
name_rule = record (new_rule (codes "name")) {
  long = Some (codes "name");
  value_names = 1;
  action = Some Append;
}

-- `--log FILE`
abbrev pub log_rule : Rule
log_rule = record (new_rule (codes "log")) {
  long = Some (codes "log");
  value_names = 1;
}

-- `FILE...`, any number of them
abbrev pub files_rule : Rule
files_rule = record (new_rule (codes "file")) {
  value_names = 1;
  action = Some Append;
}

-- `--response FILE`, any number of times
abbrev pub response_rule : Rule
response_rule = record (new_rule (codes "response")) {
  long = Some (codes "response");
  value_names = 1;
  action = Some Append;
}

-- `--rounds N`, a number from 0 to 1,000,000, required
abbrev pub rounds_rule : Rule
rounds_rule = record (new_rule (codes "rounds")) {
  long = Some (codes "rounds");
  value_names = 1;
  required = true;
  parser = Some (parsers.Unsigned 0 1000000);
}

-- `--connection K`, a number below 2^64
abbrev pub connection_rule : Rule
connection_rule = record (new_rule (codes "connection")) {
  long = Some (codes "connection");
  value_names = 1;
  parser = Some (parsers.Unsigned 0 18446744073709551615);
}

-- `--check`
abbrev pub check_rule : Rule
check_rule = record (new_rule (codes "check")) {
  long = Some (codes "check");
  action = Some SetTrue;
}

-- `--grpc`
abbrev pub grpc_rule : Rule
grpc_rule = record (new_rule (codes "grpc")) {
  long = Some (codes "grpc");
  action = Some SetTrue;
}

-- `check --policy FILE [--budget N] [--visits N] [--json]`
abbrev pub check_app : App
check_app = with_rule (with_rule (with_rule (with_rule (new_app (codes "check")) policy_rule) budget_rule) visits_rule)
    json_rule

-- `judge --policy FILE [--facts FILE] [--budget N] [--visits N] [--json] [--explain] [--batch]`
abbrev pub judge_app : App
judge_app = with_rule (with_rule (with_rule (with_rule (with_rule (with_rule (with_rule (new_app (codes "judge"))
    policy_rule) facts_rule) budget_rule) visits_rule) json_rule) explain_rule) batch_rule

-- `check-config --config FILE`
abbrev pub check_config_app : App
check_config_app = with_rule (new_app (codes "check-config")) config_rule

-- `replay --config FILE [--connection K]`
abbrev pub replay_app : App
replay_app = with_rule (with_rule (new_app (codes "replay")) config_rule) connection_rule

-- `serve --config FILE [--check]`
abbrev pub serve_app : App
serve_app = with_rule (with_rule (new_app (codes "serve")) config_rule) check_rule

-- `control --listen ADDR --name F... [--log FILE] [--grpc] FILE...`, or with `--response FILE...` instead of names and files
abbrev pub control_app : App
control_app = with_rule (with_rule (with_rule (with_rule (with_rule (with_rule (new_app (codes "control")) listen_rule)
    name_rule) files_rule) response_rule) log_rule) grpc_rule

-- `proxy --config FILE --control ADDR --listen ADDR --rounds N [--facts FILE] [--log FILE]`
abbrev pub proxy_app : App
proxy_app = with_rule (with_rule (with_rule (with_rule (with_rule (with_rule (new_app (codes "proxy")) config_rule)
    control_rule) listen_rule) rounds_rule) facts_rule) log_rule

-- the program without its subcommands. It requires a subcommand, has a version, and shows its help if it has no words
abbrev pub bare_app : App
bare_app = on_top (λ s. record s {
  has_version = true;
  subcommand_required = true;
  arg_required_else_help = true;
}) (new_app (codes "rbacd"))

-- the program with its subcommands
abbrev pub rbacd_app : App
rbacd_app = with_subcommand (with_subcommand (with_subcommand (with_subcommand (with_subcommand (with_subcommand
    (with_subcommand bare_app check_app.top) judge_app.top) check_config_app.top) replay_app.top) control_app.top)
    proxy_app.top) serve_app.top

-- the value of this argument is this number
pub record IsValueOf (name : Text) (rows : List Row) (n : ℕ) : Type 0 where
  pub text : Text
  pub given : one_of name rows ≡ Some text
  pub number : ParsesUnsigned {E = ⊤} 64 10 text (Ok n)

-- the values of `--budget` and `--visits` are these steps and visits, and they are allowed
pub record IsBudgetOf (rows : List Row) (budget : Budget) : Type 0 where
  pub steps : IsValueOf (codes "budget") rows budget.steps
  pub visits : IsValueOf (codes "visits") rows budget.visits
  pub allowed : IsBudget budget

-- the value of `--rounds` is this number, and it is allowed
pub record AreRoundsOf (rows : List Row) (rounds : ℕ) : Type 0 where
  pub text : Text
  pub given : one_of (codes "rounds") rows ≡ Some text
  pub number : ParsesUnsigned {E = ⊤} 64 10 text (Ok rounds)
  pub allowed : rounds ≤ 1000000

-- the value of `--connection` is this number; none if it was not given
abbrev pub IsConnectionOf : List Row → Option ℕ → Type 0
IsConnectionOf rows None = first_of (codes "connection") rows ≡ None
IsConnectionOf rows (Some k) = (text : Text) × (one_of (codes "connection") rows ≡ Some text)
    × ParsesUnsigned {E = ⊤} 64 10 text (Ok k)

-- whether the flag was given
abbrev pub HasFlag : Text → List Row → Bool → Type 0
HasFlag name rows given = IsTrue given ↔ (first_of name rows ≡ Some (codes "true"))

-- so many files are some snapshots, each of one file for each of so many names; there is a name
abbrev pub AreGrouped : ℕ → ℕ → Type 0
AreGrouped names files = (1 ≤ names) × ((snapshots : ℕ) × (files ≡ snapshots * names))

-- the files of the snapshots: names and files were given, as many files as the names call for, or responses were
abbrev pub AreFilesOf : Option (List Text) → Option (List Text) → Option (List Text) → SnapshotFiles → Type 0
AreFilesOf names files responses (Filters of_names of_files) = (names ≡ Some (map string_bytes of_names.items))
    × (files ≡ Some (map string_bytes of_files.items)) × (responses ≡ None)
    × AreGrouped (length of_names.items) (length of_files.items)
AreFilesOf names files responses (Responses of_files) = (names ≡ None) × (files ≡ None)
    × (responses ≡ Some (map string_bytes of_files.items))

-- the files of the snapshots are those that the matches have
abbrev pub AreFilesOfRows : List Row → SnapshotFiles → Type 0
AreFilesOfRows rows = AreFilesOf (all_of (codes "name") rows) (all_of (codes "file") rows) (all_of (codes "response") rows)

-- each snapshot has a file for each name
abbrev pub AreWhole : SnapshotFiles → Type 0
AreWhole (Filters names files) = AreGrouped (length names.items) (length files.items)
AreWhole (Responses files) = ⊤

-- the matches of the job's subcommand have the values of the job
abbrev pub IsJobOfRows : List Row → Job → Type 0
IsJobOfRows rows (Check words) = (first_of (codes "policy") rows ≡ Some (string_bytes words.policy))
    × IsBudgetOf rows words.budget × HasFlag (codes "json") rows words.json
IsJobOfRows rows (Judge words) = (first_of (codes "policy") rows ≡ Some (string_bytes words.policy))
    × (first_of (codes "facts") rows ≡ option_map string_bytes words.facts)
    × IsBudgetOf rows words.budget × HasFlag (codes "json") rows words.json
    × HasFlag (codes "explain") rows words.explain × HasFlag (codes "batch") rows false
IsJobOfRows rows (Batch words) = (first_of (codes "policy") rows ≡ Some (string_bytes words.policy))
    × (first_of (codes "facts") rows ≡ option_map string_bytes words.facts)
    × IsBudgetOf rows words.budget × HasFlag (codes "json") rows words.json
    × HasFlag (codes "explain") rows words.explain × HasFlag (codes "batch") rows true
IsJobOfRows rows (CheckConfig config) = first_of (codes "config") rows ≡ Some (string_bytes config)
IsJobOfRows rows (Replay words) = (first_of (codes "config") rows ≡ Some (string_bytes words.config))
    × IsConnectionOf rows words.connection
IsJobOfRows rows (Serve words) = (first_of (codes "config") rows ≡ Some (string_bytes words.config))
    × HasFlag (codes "check") rows words.check
IsJobOfRows rows (Control words) = (first_of (codes "listen") rows ≡ Some (string_bytes words.listen))
    × AreFilesOfRows rows words.snapshots
    × (first_of (codes "log") rows ≡ option_map string_bytes words.log) × HasFlag (codes "grpc") rows words.grpc
IsJobOfRows rows (Proxy words) = (first_of (codes "config") rows ≡ Some (string_bytes words.config))
    × (first_of (codes "control") rows ≡ Some (string_bytes words.control))
    × (first_of (codes "listen") rows ≡ Some (string_bytes words.listen))
    × AreRoundsOf rows words.rounds
    × (first_of (codes "facts") rows ≡ option_map string_bytes words.facts)
    × (first_of (codes "log") rows ≡ option_map string_bytes words.log)

-- the name of the job's subcommand
abbrev pub subcommand_name : Job → Text
subcommand_name (Check words) = codes "check"
subcommand_name (Judge words) = codes "judge"
subcommand_name (Batch words) = codes "judge"
subcommand_name (CheckConfig config) = codes "check-config"
subcommand_name (Replay words) = codes "replay"
subcommand_name (Serve words) = codes "serve"
subcommand_name (Control words) = codes "control"
subcommand_name (Proxy words) = codes "proxy"

-- the job can be run: if it serves snapshots, each has a file for each name
abbrev pub IsRunnable : Job → Type 0
IsRunnable (Control words) = AreWhole words.snapshots
IsRunnable _ = ⊤

-- the subcommand that was found, with its matches, names this job
abbrev pub IsJobOfNamed : Option (Text × List Row) → Job → Type 0
IsJobOfNamed named job = (rows : List Row) × (named ≡ Some (subcommand_name job, rows))
    × IsJobOfRows rows job

-- the subcommand that was found, with its matches, names no job
abbrev pub NamesNoJob : Option (Text × List Row) → Type 0
NamesNoJob named = (job : Job) → ¬ (IsJobOfNamed named job)

-- the parser accepts the words: none of its steps fails
abbrev pub AreTaken : List Text → Type 0
AreTaken words = fault_of rbacd_app words ≡ []

-- the words are accepted and name the job
abbrev pub IsJobOf : List Text → Job → Type 0
IsJobOf words job = AreTaken words × IsJobOfNamed (subcommand_of rbacd_app words) job

-- the words are mistaken: the first step of a parse that fails does so in this way. Or the parse succeeds, but
-- names no job. Then the budget, the rounds or the connection are not allowed, or files and names do not go together
abbrev pub AreMistaken : List Text → ErrorKind → Type 0
AreMistaken words kind = IsAmong kind (fault_of rbacd_app words)
    ⊎ ((kind ≡ ValueValidation) × AreTaken words × NamesNoJob (subcommand_of rbacd_app words))
