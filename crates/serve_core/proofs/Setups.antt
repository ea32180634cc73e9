-- What a server is set up with stays.
use Rattle.std.proofs.Common.{◌≡◌, ℕ, Bool, Option, Some, None, List, length, refl, ap, ◌∙◌}
use Rattle.std.specs.Prelude.{MatchResult, Result, Ok, Err}
use Rattle.ads.specs.Config.{ConfigValue}
use Rattle.ads.specs.Client.{ClientValue}
use Rattle.proxy_core.proofs.Places.{nobody_length}
use Rattle.rbac_serve.specs.Tables.{WorkerValue, new_worker}
use Rattle.rbac_serve.proofs.Turning.{Stays}
use Rattle.serve_loop.specs.declared.stream.Stream.TheVariants.{Place, Updates}
use Rattle.serve_loop.specs.History.{accepted, connected, received, closed, drain, answered, no_memory, took, gave}
use Rattle.serve_core.specs.ClientRequests.{OnlyAt, RuleValue}
use Rattle.serve_core.specs.Cores.{CoreValue, Turns}
use Rattle.serve_core.specs.Fronts.{FrontsDo, FrontsValue, Passes, ReadsAt, SendsAt, connection_at, put_at}
use Rattle.serve_core.specs.Setups.{SetupValue, setup_of}
use Rattle.serve_core.specs.Turns.{ServerTurn, turns_of}
use Rattle.serve_core.specs.declared.front_answer.FrontAnswer.{FrontAnswer}
use Rattle.serve_core.specs.declared.front_connection.FrontConnection.{FrontConnection}
use Rattle.serve_core.proofs.Driving.{turns_stay}

-- ---- setups by their parts

abbrev pub setup_with : ConfigValue → ℕ → Option RuleValue → SetupValue
setup_with c n rule = record { config = c; places = n; rule = rule }

pub same_setup : (old new : WorkerValue) (rule later : Option RuleValue) → Stays old.core new.core → later ≡ rule
    → setup_of new later ≡ setup_of old rule
same_setup old new rule later (config, places) same =
    ap (λ (c : ConfigValue). setup_with c (length new.core.conns) later) config
    ∙ ap (λ (n : ℕ). setup_with old.core.client.config n later) places
    ∙ ap (λ (r : Option RuleValue). setup_with old.core.client.config (length old.core.conns) r) same

pub new_setup : (w : WorkerValue) (n : ℕ) (c : ConfigValue) (rule : Option RuleValue) → w ≡ new_worker n c
    → setup_of w rule ≡ setup_with c n rule
new_setup w n c rule is =
    ap (λ (v : WorkerValue). setup_of v rule) is ∙ ap (λ (m : ℕ). setup_with c m rule) (nobody_length n)

-- ---- a turn of a worker

pub turn_keeps : (old new : CoreValue) (turn : ServerTurn) (rule : Option RuleValue) → Turns old turn new
    → setup_of new.worker rule ≡ setup_of old.worker rule
turn_keeps old new turn rule (is, does) =
    same_setup old.worker new.worker rule rule (turns_stay (turns_of turn) old.worker new.worker does) refl

-- what both a value and an error lead to
pub either_way : {A E : Type 0} {P : A → Type 0} {Q : E → Type 0} {C : Type 0} (r : Result A E) → MatchResult r P Q
    → ((a : A) → P a → C) → ((e : E) → Q e → C) → C
either_way (Ok a) h found failed = found a h
either_way (Err e) h found failed = failed e h

-- ---- a turn of the connections of fronts

module _ (rule : RuleValue) (old new : FrontsValue) (answers : List FrontAnswer) where
  put_keeps : (k : ℕ) (c : Option FrontConnection) → new ≡ put_at old k c → Stays old.core.worker.core new.core.worker.core
  put_keeps k c made = (
    ap (λ (f : FrontsValue). f.core.worker.core.client.config) made,
    ap (λ (f : FrontsValue). length f.core.worker.core.conns) made,
  )

  same_keeps : new ≡ old → Stays old.core.worker.core new.core.worker.core
  same_keeps same = (
    ap (λ (f : FrontsValue). f.core.worker.core.client.config) same,
    ap (λ (f : FrontsValue). length f.core.worker.core.conns) same,
  )

  only_keeps : (k : ℕ) → OnlyAt k old.core new.core → Stays old.core.worker.core new.core.worker.core
  only_keeps k only = (ap (λ (c : ClientValue). c.config) only.client, only.places)

  passes_keeps : (turn : ServerTurn) → Passes old turn answers new → Stays old.core.worker.core new.core.worker.core
  passes_keeps turn (nothing, (turns, does), same) =
      turns_stay (turns_of turn) old.core.worker new.core.worker does

  reads_keeps : (k : ℕ) (bytes out : List ℕ) (closes : Bool) (c : Option FrontConnection)
      → ReadsAt c rule old k bytes answers out closes new → Stays old.core.worker.core new.core.worker.core
  reads_keeps k bytes out closes None (nothing, none, stays, same) = same_keeps same
  reads_keeps k bytes out closes (Some c) (after, reads, shuts, made) = only_keeps k reads.only

  sends_keeps : (k : ℕ) (bytes : List ℕ) (c : Option FrontConnection) → SendsAt c old k bytes new
      → Stays old.core.worker.core new.core.worker.core
  sends_keeps k bytes None (none, same) = same_keeps same
  sends_keeps k bytes (Some c) (left, parts, made) = put_keeps k _ made

  pub fronts_keep : (turn : ServerTurn) → FrontsDo rule old turn answers new
      → Stays old.core.worker.core new.core.worker.core
  fronts_keep (took (accepted k conn) (answered out closes)) (c, nothing, none, opens, made) = put_keeps k c made
  fronts_keep (took (accepted k conn) no_memory) (nothing, made) = put_keeps k None made
  fronts_keep (took (received (Place k) bytes) (answered out closes)) does =
      reads_keeps k bytes out closes (connection_at k old.connections) does
  fronts_keep (took (received (Place k) bytes) no_memory) (only, made) = only_keeps k only
  fronts_keep (took (closed (Place k)) (answered out closes)) (nothing, made) = put_keeps k None made
  fronts_keep (took (closed (Place k)) no_memory) (nothing, made) = put_keeps k None made
  fronts_keep (gave (Place k) bytes) (nothing, sends) = sends_keeps k bytes (connection_at k old.connections) sends
  fronts_keep (took (received Updates bytes) (answered out closes)) passes = passes_keeps _ passes
  fronts_keep (took (received Updates bytes) no_memory) passes = passes_keeps _ passes
  fronts_keep (took (closed Updates) (answered out closes)) passes = passes_keeps _ passes
  fronts_keep (took (closed Updates) no_memory) passes = passes_keeps _ passes
  fronts_keep (took connected (answered out closes)) passes = passes_keeps _ passes
  fronts_keep (took connected no_memory) passes = passes_keeps _ passes
  fronts_keep (took drain (answered out closes)) passes = passes_keeps _ passes
  fronts_keep (took drain no_memory) passes = passes_keeps _ passes
  fronts_keep (gave Updates bytes) passes = passes_keeps _ passes
