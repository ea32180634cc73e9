-- From what a parse says of a subcommand to the job that it names.
use Rattle.std.proofs.Common.{◌≡◌, ◌∙◌, ◌↔◌, List, Bool, true, false, IsTrue, Option, Some, None, String, Global, ap, codes, refl, sym}
use Rattle.std.specs.Prelude.{IfNone, option_map}
use Rattle.std.proofs.lemmas.Bool.{false≢true}
use Rattle.std.specs.Str.{bytes_eq}
use Rattle.std.proofs.lemmas.Slice.Eq.{bytes_eq-Decides}
use Rattle.clap.specs.Words.{Row, Text, subcommand_name_of, subcommand_rows_of}
use Rattle.clap.specs.declared.parser.matches.ArgMatches.{ArgMatches}
use Rattle.clap.specs.declared.parser.matches.ArgMatches.TheViews.{out-ArgMatches}
use Rattle.command_line.specs.declared.words.Job.{Job}
use Rattle.command_line.specs.declared.words.Job.TheVariants.{Batch, Check, CheckConfig, Control, Judge, Proxy, Replay, Serve}
use Rattle.command_line.specs.declared.words.BatchWords.{BatchWords}
use Rattle.command_line.specs.declared.words.CheckWords.{CheckWords}
use Rattle.command_line.specs.declared.words.JudgeWords.{JudgeWords}
use Rattle.command_line.specs.declared.control_words.ControlWords.{ControlWords}
use Rattle.command_line.specs.declared.words.ProxyWords.{ProxyWords}
use Rattle.command_line.specs.declared.words.ReplayWords.{ReplayWords}
use Rattle.command_line.specs.declared.words.ServeWords.{ServeWords}
use Rattle.command_line.specs.declared.control_words.SnapshotFiles.{SnapshotFiles}
use Rattle.command_line.specs.declared.control_words.SnapshotFiles.TheVariants.{Filters, Responses}
use Rattle.command_line.specs.Words.{AreFilesOfRows, AreWhole, IsJobOfRows, IsRunnable, NamesNoJob, subcommand_name}

-- texts that a test tells apart differ
pub apart : (a b : Text) → bytes_eq a b ≡ false → a ≡ b → ⊥
apart a b differ same = false≢true (sym differ ∙ ap (λ t. bytes_eq t b) same ∙ (bytes_eq-Decides b b).1 refl)

-- what holds of each job of a subcommand
module _ (P : Job → Type 0) where
  pub of_check : ((words : CheckWords) → P (Check words)) → (job : Job) → subcommand_name job ≡ codes "check" → P job
  of_check f (Check words) same = f words
  of_check f (Judge words) same = absurd (apart (codes "judge") (codes "check") refl same)
  of_check f (Batch words) same = absurd (apart (codes "judge") (codes "check") refl same)
  of_check f (CheckConfig config) same = absurd (apart (codes "check-config") (codes "check") refl same)
  of_check f (Replay words) same = absurd (apart (codes "replay") (codes "check") refl same)
  of_check f (Control words) same = absurd (apart (codes "control") (codes "check") refl same)
  of_check f (Proxy words) same = absurd (apart (codes "proxy") (codes "check") refl same)
  of_check f (Serve words) same = absurd (apart (codes "serve") (codes "check") refl same)

  pub of_judge : ((words : JudgeWords) → P (Judge words)) → ((words : BatchWords) → P (Batch words)) → (job : Job) → subcommand_name job ≡ codes "judge" → P job
  of_judge f g (Check words) same = absurd (apart (codes "check") (codes "judge") refl same)
  of_judge f g (Judge words) same = f words
  of_judge f g (Batch words) same = g words
  of_judge f g (CheckConfig config) same = absurd (apart (codes "check-config") (codes "judge") refl same)
  of_judge f g (Replay words) same = absurd (apart (codes "replay") (codes "judge") refl same)
  of_judge f g (Control words) same = absurd (apart (codes "control") (codes "judge") refl same)
  of_judge f g (Proxy words) same = absurd (apart (codes "proxy") (codes "judge") refl same)
  of_judge f g (Serve words) same = absurd (apart (codes "serve") (codes "judge") refl same)

  pub of_check_config : ((config : String Global) → P (CheckConfig config)) → (job : Job) → subcommand_name job ≡ codes "check-config" → P job
  of_check_config f (Check words) same = absurd (apart (codes "check") (codes "check-config") refl same)
  of_check_config f (Judge words) same = absurd (apart (codes "judge") (codes "check-config") refl same)
  of_check_config f (Batch words) same = absurd (apart (codes "judge") (codes "check-config") refl same)
  of_check_config f (CheckConfig config) same = f config
  of_check_config f (Replay words) same = absurd (apart (codes "replay") (codes "check-config") refl same)
  of_check_config f (Control words) same = absurd (apart (codes "control") (codes "check-config") refl same)
  of_check_config f (Proxy words) same = absurd (apart (codes "proxy") (codes "check-config") refl same)
  of_check_config f (Serve words) same = absurd (apart (codes "serve") (codes "check-config") refl same)

  pub of_replay : ((words : ReplayWords) → P (Replay words)) → (job : Job) → subcommand_name job ≡ codes "replay" → P job
  of_replay f (Check words) same = absurd (apart (codes "check") (codes "replay") refl same)
  of_replay f (Judge words) same = absurd (apart (codes "judge") (codes "replay") refl same)
  of_replay f (Batch words) same = absurd (apart (codes "judge") (codes "replay") refl same)
  of_replay f (CheckConfig config) same = absurd (apart (codes "check-config") (codes "replay") refl same)
  of_replay f (Replay words) same = f words
  of_replay f (Control words) same = absurd (apart (codes "control") (codes "replay") refl same)
  of_replay f (Proxy words) same = absurd (apart (codes "proxy") (codes "replay") refl same)
  of_replay f (Serve words) same = absurd (apart (codes "serve") (codes "replay") refl same)

  pub of_control : ((words : ControlWords) → P (Control words)) → (job : Job) → subcommand_name job ≡ codes "control" → P job
  of_control f (Check words) same = absurd (apart (codes "check") (codes "control") refl same)
  of_control f (Judge words) same = absurd (apart (codes "judge") (codes "control") refl same)
  of_control f (Batch words) same = absurd (apart (codes "judge") (codes "control") refl same)
  of_control f (CheckConfig config) same = absurd (apart (codes "check-config") (codes "control") refl same)
  of_control f (Replay words) same = absurd (apart (codes "replay") (codes "control") refl same)
  of_control f (Control words) same = f words
  of_control f (Proxy words) same = absurd (apart (codes "proxy") (codes "control") refl same)
  of_control f (Serve words) same = absurd (apart (codes "serve") (codes "control") refl same)

  pub of_proxy : ((words : ProxyWords) → P (Proxy words)) → (job : Job) → subcommand_name job ≡ codes "proxy" → P job
  of_proxy f (Check words) same = absurd (apart (codes "check") (codes "proxy") refl same)
  of_proxy f (Judge words) same = absurd (apart (codes "judge") (codes "proxy") refl same)
  of_proxy f (Batch words) same = absurd (apart (codes "judge") (codes "proxy") refl same)
  of_proxy f (CheckConfig config) same = absurd (apart (codes "check-config") (codes "proxy") refl same)
  of_proxy f (Replay words) same = absurd (apart (codes "replay") (codes "proxy") refl same)
  of_proxy f (Control words) same = absurd (apart (codes "control") (codes "proxy") refl same)
  of_proxy f (Proxy words) same = f words
  of_proxy f (Serve words) same = absurd (apart (codes "serve") (codes "proxy") refl same)

  pub of_serve : ((words : ServeWords) → P (Serve words)) → (job : Job) → subcommand_name job ≡ codes "serve" → P job
  of_serve f (Check words) same = absurd (apart (codes "check") (codes "serve") refl same)
  of_serve f (Judge words) same = absurd (apart (codes "judge") (codes "serve") refl same)
  of_serve f (Batch words) same = absurd (apart (codes "judge") (codes "serve") refl same)
  of_serve f (CheckConfig config) same = absurd (apart (codes "check-config") (codes "serve") refl same)
  of_serve f (Replay words) same = absurd (apart (codes "replay") (codes "serve") refl same)
  of_serve f (Control words) same = absurd (apart (codes "control") (codes "serve") refl same)
  of_serve f (Proxy words) same = absurd (apart (codes "proxy") (codes "serve") refl same)
  of_serve f (Serve words) same = f words

-- two maps in turn
maps_in_turn : {X Y Z : Type 0} (g : Y → Z) (f : X → Y) (o : Option X)
    → option_map g (option_map f o) ≡ option_map (λ x. g (f x)) o
maps_in_turn g f (Some x) = refl
maps_in_turn g f None = refl

-- the name of the subcommand that was met stands before its rows
pub name_of_rows : (m : ArgMatches) (name : Text) (rows : List Row)
    → subcommand_rows_of m ≡ Some (name, rows) → subcommand_name_of m ≡ Some name
name_of_rows m name rows named =
    sym (maps_in_turn (λ (p : Text × List Row). p.0) _ (out-ArgMatches m).subcommand)
    ∙ ap (option_map (λ (p : Text × List Row). p.0)) named

-- where the rows of the subcommand that was met hold no job of its name, it names none
pub names_no_job : (m : ArgMatches) (name : Text) (rows : List Row) (job : Option Job)
    → subcommand_name_of m ≡ Some name
    → option_map (λ (p : Text × List Row). p.1) (subcommand_rows_of m) ≡ Some rows
    → IfNone job ((other : Job) → subcommand_name other ≡ name → ¬ (IsJobOfRows rows other))
    → IfNone job (NamesNoJob (subcommand_rows_of m))
names_no_job m name rows (Some job) met found none = tt
names_no_job m name rows None met found none = λ other held.
    let all = ap (option_map (λ (p : Text × List Row). p.1)) held.1 in
    let label = name_of_rows m (subcommand_name other) held.0 held.1 in
    let same : held.0 ≡ rows = cc in
    let named : subcommand_name other ≡ name = cc in
    none other named (rw same at held.2)

-- where no subcommand was met, none is named
pub no_subcommand : (m : ArgMatches) → (subcommand_name_of m ≡ Some (codes "check") → false ≡ true)
    → (subcommand_name_of m ≡ Some (codes "judge") → false ≡ true)
    → (subcommand_name_of m ≡ Some (codes "check-config") → false ≡ true)
    → (subcommand_name_of m ≡ Some (codes "replay") → false ≡ true)
    → (subcommand_name_of m ≡ Some (codes "control") → false ≡ true)
    → (subcommand_name_of m ≡ Some (codes "proxy") → false ≡ true)
    → (subcommand_name_of m ≡ Some (codes "serve") → false ≡ true) → NamesNoJob (subcommand_rows_of m)
no_subcommand m check judge check_config replay control proxy serve (Check words) held =
    false≢true (check (name_of_rows m (codes "check") held.0 held.1))
no_subcommand m check judge check_config replay control proxy serve (Judge words) held =
    false≢true (judge (name_of_rows m (codes "judge") held.0 held.1))
no_subcommand m check judge check_config replay control proxy serve (Batch words) held =
    false≢true (judge (name_of_rows m (codes "judge") held.0 held.1))
no_subcommand m check judge check_config replay control proxy serve (CheckConfig config) held =
    false≢true (check_config (name_of_rows m (codes "check-config") held.0 held.1))
no_subcommand m check judge check_config replay control proxy serve (Replay words) held =
    false≢true (replay (name_of_rows m (codes "replay") held.0 held.1))
no_subcommand m check judge check_config replay control proxy serve (Control words) held =
    false≢true (control (name_of_rows m (codes "control") held.0 held.1))
no_subcommand m check judge check_config replay control proxy serve (Proxy words) held =
    false≢true (proxy (name_of_rows m (codes "proxy") held.0 held.1))
no_subcommand m check judge check_config replay control proxy serve (Serve words) held =
    false≢true (serve (name_of_rows m (codes "serve") held.0 held.1))

-- a flag was given where its value is `true`
pub flag_given : (found : Option Text) (text : Text) (given : Bool) → found ≡ Some text
    → given ≡ bytes_eq text (codes "true") → IsTrue given ↔ (found ≡ Some (codes "true"))
flag_given found text given is test = (
  λ yes. is ∙ ap Some ((bytes_eq-Decides text (codes "true")).0 (sym test ∙ yes)),
  λ named.
      let same : text ≡ codes "true" = cc in
      test ∙ ap (λ t. bytes_eq t (codes "true")) same ∙ (bytes_eq-Decides (codes "true") (codes "true")).1 refl,
)

-- and not where it has none
pub flag_missing : (found : Option Text) → found ≡ None
    → IsTrue false ↔ (found ≡ Some (codes "true"))
flag_missing found none = (λ yes. absurd (false≢true yes), λ named. cc)

-- files of snapshots that the words give are one for each name
whole : (rows : List Row) (snapshots : SnapshotFiles) → AreFilesOfRows rows snapshots → AreWhole snapshots
whole rows (Filters names files) given = given.3
whole rows (Responses files) given = tt

-- a job that the matches of a subcommand name can be run
pub runnable : (rows : List Row) (job : Job) → IsJobOfRows rows job → IsRunnable job
runnable rows (Check of_words) held = tt
runnable rows (Judge of_words) held = tt
runnable rows (Batch of_words) held = tt
runnable rows (CheckConfig config) held = tt
runnable rows (Replay of_words) held = tt
runnable rows (Proxy of_words) held = tt
runnable rows (Serve of_words) held = tt
runnable rows (Control of_words) held = whole rows of_words.snapshots held.1
