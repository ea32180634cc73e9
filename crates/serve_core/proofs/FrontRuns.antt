-- Turns of the loop on the connections of fronts: what waits is what the loop takes for waiting.
use Rattle.std.proofs.Common.{◌≡◌, ℕ, zero, suc, ◌<◌, ◌==◌, ◌⊎◌, inl, inr, Bool, true, false, Option, Some, None, List, [], ◌∷◌, ◌++◌, length, set, drop, map, get_or, refl, sym, ap, ◌∙◌, arith, subst, append-nil, if◌then◌else◌, length-set}
use Rattle.std.proofs.lemmas.List.{length-map}
use Rattle.std.proofs.Math.Seq.{drop-append_seam}
use Rattle.attributes.specs.Conn.{conn_view}
use Rattle.attributes.specs.Limits.{LimitsValue}
use Rattle.attributes.specs.Conn.{Facts}
use Rattle.ads.specs.Config.{ConfigValue}
use Rattle.rbac_serve.specs.Tables.{new_worker, waiting_at}
use Rattle.rbac_serve.proofs.Turning.{Stays}
use Rattle.serve_loop.specs.declared.stream.Stream.{Stream}
use Rattle.serve_loop.specs.declared.stream.Stream.TheVariants.{Place, Updates}
use Rattle.serve_loop.specs.History as history
use Rattle.serve_loop.specs.History.{Effect, accepted, connected, received, closed, drain, answered, no_memory, took, gave}
use Rattle.serve_core.specs.ClientRequests.{OnlyAt, RuleValue}
use Rattle.serve_core.specs.Cores.{CoreValue, Turns}
use Rattle.serve_core.specs.Fronts.{AreMatched, AreNewFronts, FrontsDo, FrontsRun, FrontsValue, IsForCore, OpensConnection, Passes, Reads, ReadsAt, SendsAt, WaitsIn, added_in, connection_at, kept_in, opened, outbox_of, put_at, unfit, waits_in}
use Rattle.serve_core.specs.Turns.{ServerEvent, ServerTurn, added_by, kept_before, turns_of}
use Rattle.serve_core.specs.declared.front_answer.FrontAnswer.{FrontAnswer}
use Rattle.serve_core.specs.declared.front_connection.FrontConnection.{FrontConnection}
use Rattle.serve_core.proofs.Clients.{only_waits}
use Rattle.serve_core.proofs.Driving.{added_at, emptied_at, taken_at, turns_stay}

-- ---- what waits in places

abbrev pub boxes : List (Option FrontConnection) → List (List ℕ)
boxes connections = map outbox_of connections

box_at : (cs : List (Option FrontConnection)) (k : ℕ) → outbox_of (connection_at k cs) ≡ waiting_at k (boxes cs)
box_at [] k = refl
box_at (c ∷ cs) zero = refl
box_at (c ∷ cs) (suc k) = box_at cs k

box_set : (cs : List (Option FrontConnection)) (k : ℕ) (c : Option FrontConnection)
    → boxes (set cs k c) ≡ set (boxes cs) k (outbox_of c)
box_set [] k c = refl
box_set (d ∷ cs) zero c = refl
box_set (d ∷ cs) (suc k) c = ap (λ (xs : List (List ℕ)). outbox_of d ∷ xs) (box_set cs k c)

pub within_at : (cs : List (Option FrontConnection)) (k : ℕ) (c : FrontConnection) → connection_at k cs ≡ Some c → k < length cs
within_at [] k c is = absurd cc
within_at (d ∷ cs) zero c is = omega arith
within_at (d ∷ cs) (suc k) c is = let within = within_at cs k c is in omega (arith, within)

-- the place `j` after a connection was put in place `k`
put_box : (j k : ℕ) (cs ds : List (Option FrontConnection)) (c : Option FrontConnection) → ds ≡ set cs k c
    → outbox_of (connection_at j ds) ≡ waiting_at j (set (boxes cs) k (outbox_of c))
put_box j k cs ds c made =
    box_at ds j ∙ ap (λ (xs : List (List ℕ)). waiting_at j xs) (ap (λ (l : List (Option FrontConnection)). boxes l) made ∙ box_set cs k c)

-- ---- one turn

empty_box : (limits : LimitsValue) (facts : Facts) (c : Option FrontConnection) (closes : Bool)
    → OpensConnection limits facts c closes → outbox_of c ≡ []
empty_box limits facts c closes (opened fits made stays) = ap outbox_of made
empty_box limits facts c closes (unfit not made shuts) = ap outbox_of made

module _ (turns : List ServerTurn) (rule : RuleValue) (old new : FrontsValue) (answers : List FrontAnswer)
    (waits : WaitsIn turns old) where
  waited : (j : ℕ) → history.waiting_at (Place j) turns ≡ waiting_at j (boxes old.connections)
  waited j = waits (Place j) ∙ box_at old.connections j

  emptying : (j k : ℕ) (c : Option FrontConnection) → outbox_of c ≡ [] → new.connections ≡ set old.connections k c
      → (if j == k then [] else history.waiting_at (Place j) turns) ≡ outbox_of (connection_at j new.connections)
  emptying j k c none made =
      emptied_at (j == k) j k (boxes old.connections) _ refl (waited j)
      ∙ ap (λ (l : List ℕ). waiting_at j (set (boxes old.connections) k l)) (sym none)
      ∙ sym (put_box j k old.connections new.connections c made)

  still : (j : ℕ) → new.connections ≡ old.connections
      → history.waiting_at (Place j) turns ≡ outbox_of (connection_at j new.connections)
  still j same = waits (Place j) ∙ ap (λ (cs : List (Option FrontConnection)). outbox_of (connection_at j cs)) (sym same)

  adding : (j k : ℕ) (bytes out : List ℕ) (closes : Bool) (c : Option FrontConnection)
      → connection_at k old.connections ≡ c → ReadsAt c rule old k bytes answers out closes new
      → (if j == k then history.waiting_at (Place j) turns ++ out else history.waiting_at (Place j) turns)
      ≡ outbox_of (connection_at j new.connections)
  adding j k bytes out closes None is (nothing, none, stays, same) =
      nothing_added (j == k)
    where
      nothing_added : (b : Bool)
          → (if b then history.waiting_at (Place j) turns ++ out else history.waiting_at (Place j) turns)
          ≡ outbox_of (connection_at j new.connections)
      nothing_added true = ap (λ (l : List ℕ). history.waiting_at (Place j) turns ++ l) none
          ∙ append-nil (history.waiting_at (Place j) turns) ∙ still j (ap (λ (f : FrontsValue). f.connections) same)
      nothing_added false = still j (ap (λ (f : FrontsValue). f.connections) same)
  adding j k bytes out closes (Some c) is (after, reads, shuts, made) =
      let here : waiting_at k (boxes old.connections) ++ out ≡ after.outbox =
      ap (λ (l : List ℕ). l ++ out) (sym (box_at old.connections k) ∙ ap outbox_of is) ∙ sym reads.waits in
      let within = within_at old.connections k c is in
      added_at (j == k) j k (boxes old.connections) out _ refl (waited j)
      (inl (rw (length-map old.connections outbox_of) within))
      ∙ ap (λ (l : List ℕ). waiting_at j (set (boxes old.connections) k l)) here
      ∙ sym (put_box j k old.connections new.connections (Some after) made)

  sending : (j k : ℕ) (bytes : List ℕ) (c : Option FrontConnection) → connection_at k old.connections ≡ c
      → SendsAt c old k bytes new
      → (if j == k then drop (length bytes) (history.waiting_at (Place j) turns) else history.waiting_at (Place j) turns)
      ≡ outbox_of (connection_at j new.connections)
  sending j k bytes None is (none, same) = nothing_sent (j == k)
    where
      nothing_sent : (b : Bool)
          → (if b then drop (length bytes) (history.waiting_at (Place j) turns) else history.waiting_at (Place j) turns)
          ≡ outbox_of (connection_at j new.connections)
      nothing_sent true = ap (λ (l : List ℕ). drop (length l) (history.waiting_at (Place j) turns)) none
          ∙ still j (ap (λ (f : FrontsValue). f.connections) same)
      nothing_sent false = still j (ap (λ (f : FrontsValue). f.connections) same)
  sending j k bytes (Some c) is (left, parts, made) =
      taken_at (j == k) j k (boxes old.connections) bytes left _ refl (waited j)
      (sym (box_at old.connections k) ∙ ap outbox_of is ∙ parts)
      ∙ sym (put_box j k old.connections new.connections _ (ap (λ (f : FrontsValue). f.connections) made))

  places_more : (turn : ServerTurn) (j : ℕ) → FrontsDo rule old turn answers new
      → history.waiting_at (Place j) (turn ∷ turns) ≡ outbox_of (connection_at j new.connections)
  places_more (took (accepted k conn) (answered out closes)) j (c, nothing, none, opens, made) =
      ap (λ (l : List ℕ). if j == k then l else history.waiting_at (Place j) turns) none
      ∙ emptying j k c (empty_box _ _ c closes opens) (ap (λ (f : FrontsValue). f.connections) made)
  places_more (took (accepted k conn) no_memory) j (nothing, made) =
      emptying j k None refl (ap (λ (f : FrontsValue). f.connections) made)
  places_more (took (received (Place k) bytes) (answered out closes)) j does =
      adding j k bytes out closes (connection_at k old.connections) refl does
  places_more (took (received (Place k) bytes) no_memory) j (only, made) = emptying j k None refl made
  places_more (took (closed (Place k)) (answered out closes)) j (nothing, made) =
      emptying j k None refl (ap (λ (f : FrontsValue). f.connections) made)
  places_more (took (closed (Place k)) no_memory) j (nothing, made) =
      emptying j k None refl (ap (λ (f : FrontsValue). f.connections) made)
  places_more (gave (Place k) bytes) j (nothing, sends) =
      sending j k bytes (connection_at k old.connections) refl sends
  places_more (took (received Updates bytes) (answered out closes)) j (nothing, turn, same) = still j same
  places_more (took (received Updates bytes) no_memory) j (nothing, turn, same) = still j same
  places_more (took (closed Updates) (answered out closes)) j (nothing, turn, same) = still j same
  places_more (took (closed Updates) no_memory) j (nothing, turn, same) = still j same
  places_more (took connected (answered out closes)) j (nothing, turn, same) = still j same
  places_more (took connected no_memory) j (nothing, turn, same) = still j same
  places_more (took drain (answered out closes)) j (nothing, turn, same) = still j same
  places_more (took drain no_memory) j (nothing, turn, same) = still j same
  places_more (gave Updates bytes) j (nothing, turn, same) = still j same

  -- ---- the updates

  unchanged : new.core ≡ old.core → history.waiting_at Updates turns ≡ history.waiting_at Updates new.core.turns
  unchanged same =
      waits Updates ∙ ap (λ (c : CoreValue). history.waiting_at Updates c.turns) (sym same)

  reading : (k : ℕ) (bytes out : List ℕ) (closes : Bool) (c : Option FrontConnection)
      → ReadsAt c rule old k bytes answers out closes new
      → history.waiting_at Updates turns ≡ history.waiting_at Updates new.core.turns
  reading k bytes out closes None (nothing, none, stays, same) = unchanged (ap (λ (f : FrontsValue). f.core) same)
  reading k bytes out closes (Some c) (after, reads, shuts, made) =
      waits Updates ∙ sym (only_waits k old.core new.core reads.only)

  sends_same : (k : ℕ) (bytes : List ℕ) (c : Option FrontConnection) → SendsAt c old k bytes new → new.core ≡ old.core
  sends_same k bytes None (none, same) = ap (λ (f : FrontsValue). f.core) same
  sends_same k bytes (Some c) (left, parts, made) = ap (λ (f : FrontsValue). f.core) made

  -- what waited for the updates is changed likewise
  likewise : (turn : ServerTurn) (change : List ℕ → List ℕ) → Turns old.core turn new.core
      → history.waiting_at Updates (turn ∷ turns) ≡ change (history.waiting_at Updates turns)
      → history.waiting_at Updates (turn ∷ old.core.turns) ≡ change (history.waiting_at Updates old.core.turns)
      → history.waiting_at Updates (turn ∷ turns) ≡ history.waiting_at Updates new.core.turns
  likewise turn change (is, does) here there =
      here ∙ ap change (waits Updates) ∙ sym there ∙ sym (ap (λ (ts : List ServerTurn). history.waiting_at Updates ts) is)

  updates_more : (turn : ServerTurn) → FrontsDo rule old turn answers new
      → history.waiting_at Updates (turn ∷ turns) ≡ history.waiting_at Updates new.core.turns
  updates_more (took (accepted k conn) (answered out closes)) (c, nothing, none, opens, made) =
      unchanged (ap (λ (f : FrontsValue). f.core) made)
  updates_more (took (accepted k conn) no_memory) (nothing, made) = unchanged (ap (λ (f : FrontsValue). f.core) made)
  updates_more (took (received (Place k) bytes) (answered out closes)) does =
      reading k bytes out closes (connection_at k old.connections) does
  updates_more (took (received (Place k) bytes) no_memory) (only, made) =
      waits Updates ∙ sym (only_waits k old.core new.core only)
  updates_more (took (closed (Place k)) (answered out closes)) (nothing, made) =
      unchanged (ap (λ (f : FrontsValue). f.core) made)
  updates_more (took (closed (Place k)) no_memory) (nothing, made) = unchanged (ap (λ (f : FrontsValue). f.core) made)
  updates_more (gave (Place k) bytes) (nothing, sends) =
      unchanged (sends_same k bytes (connection_at k old.connections) sends)
  updates_more (took (received Updates bytes) (answered out closes)) (nothing, turn, same) =
      likewise _ (λ l. l ++ out) turn refl refl
  updates_more (took (received Updates bytes) no_memory) (nothing, turn, same) = likewise _ (λ l. []) turn refl refl
  updates_more (took (closed Updates) (answered out closes)) (nothing, turn, same) = likewise _ (λ l. []) turn refl refl
  updates_more (took (closed Updates) no_memory) (nothing, turn, same) = likewise _ (λ l. []) turn refl refl
  updates_more (took connected (answered out closes)) (nothing, turn, same) = likewise _ (λ l. out) turn refl refl
  updates_more (took connected no_memory) (nothing, turn, same) = likewise _ (λ l. []) turn refl refl
  updates_more (took drain (answered out closes)) (nothing, turn, same) = likewise _ (λ l. l) turn refl refl
  updates_more (took drain no_memory) (nothing, turn, same) = likewise _ (λ l. l) turn refl refl
  updates_more (gave Updates bytes) (nothing, turn, same) = likewise _ (λ l. drop (length bytes) l) turn refl refl

  waits_more : (turn : ServerTurn) → FrontsDo rule old turn answers new → WaitsIn (turn ∷ turns) new
  waits_more turn does (Place j) = places_more turn j does
  waits_more turn does Updates = updates_more turn does

-- ---- one turn more

pub run_after : (turns after : List ServerTurn) (turn : ServerTurn) (rule later : RuleValue) (old new : FrontsValue)
    (answers : List FrontAnswer) → after ≡ turn ∷ turns → later ≡ rule → FrontsDo rule old turn answers new
    → FrontsRun rule turns old → FrontsRun later after new
run_after turns after turn rule later old new answers is same does run =
    subst (λ (r : RuleValue). FrontsRun r after new) (sym same)
    (subst (λ (ts : List ServerTurn). FrontsRun rule ts new) (sym is) (old, answers, does, run))

pub waits_after : (turns after : List ServerTurn) (turn : ServerTurn) (rule : RuleValue) (old new : FrontsValue)
    (answers : List FrontAnswer) → after ≡ turn ∷ turns → WaitsIn turns old → FrontsDo rule old turn answers new
    → WaitsIn after new
waits_after turns after turn rule old new answers is waits does =
    subst (λ (ts : List ServerTurn). WaitsIn ts new) (sym is) (waits_more turns rule old new answers waits turn does)

-- ---- as many places

module _ (rule : RuleValue) (old new : FrontsValue) (answers : List FrontAnswer) (matched : AreMatched old) where
  put_matched : (k : ℕ) (c : Option FrontConnection) → new ≡ put_at old k c → AreMatched new
  put_matched k c made =
      ap (λ (f : FrontsValue). length f.connections) made ∙ length-set old.connections k c ∙ matched
      ∙ sym (ap (λ (f : FrontsValue). length f.core.worker.core.conns) made)

  same_matched : new ≡ old → AreMatched new
  same_matched same = rw same matched

  only_matched : (k : ℕ) (c : Option FrontConnection) → OnlyAt k old.core new.core
      → new.connections ≡ set old.connections k c → AreMatched new
  only_matched k c only made =
      ap (λ (l : List (Option FrontConnection)). length l) made ∙ length-set old.connections k c ∙ matched
      ∙ sym only.places

  passes_matched : (turn : ServerTurn) → Passes old turn answers new → AreMatched new
  passes_matched turn (nothing, (turns, does), same) =
      let (config, places) = turns_stay (turns_of turn) old.core.worker new.core.worker does in
      ap (λ (l : List (Option FrontConnection)). length l) same ∙ matched ∙ sym places

  reads_matched : (k : ℕ) (bytes out : List ℕ) (closes : Bool) (c : Option FrontConnection)
      → ReadsAt c rule old k bytes answers out closes new → AreMatched new
  reads_matched k bytes out closes None (nothing, none, stays, same) = same_matched same
  reads_matched k bytes out closes (Some c) (after, reads, shuts, made) = only_matched k (Some after) reads.only made

  sends_matched : (k : ℕ) (bytes : List ℕ) (c : Option FrontConnection) → SendsAt c old k bytes new → AreMatched new
  sends_matched k bytes None (none, same) = same_matched same
  sends_matched k bytes (Some c) (left, parts, made) = put_matched k _ made

  pub matched_more : (turn : ServerTurn) → FrontsDo rule old turn answers new → AreMatched new
  matched_more (took (accepted k conn) (answered out closes)) (c, nothing, none, opens, made) = put_matched k c made
  matched_more (took (accepted k conn) no_memory) (nothing, made) = put_matched k None made
  matched_more (took (received (Place k) bytes) (answered out closes)) does =
      reads_matched k bytes out closes (connection_at k old.connections) does
  matched_more (took (received (Place k) bytes) no_memory) (only, made) = only_matched k None only made
  matched_more (took (closed (Place k)) (answered out closes)) (nothing, made) = put_matched k None made
  matched_more (took (closed (Place k)) no_memory) (nothing, made) = put_matched k None made
  matched_more (gave (Place k) bytes) (nothing, sends) = sends_matched k bytes (connection_at k old.connections) sends
  matched_more (took (received Updates bytes) (answered out closes)) passes = passes_matched _ passes
  matched_more (took (received Updates bytes) no_memory) passes = passes_matched _ passes
  matched_more (took (closed Updates) (answered out closes)) passes = passes_matched _ passes
  matched_more (took (closed Updates) no_memory) passes = passes_matched _ passes
  matched_more (took connected (answered out closes)) passes = passes_matched _ passes
  matched_more (took connected no_memory) passes = passes_matched _ passes
  matched_more (took drain (answered out closes)) passes = passes_matched _ passes
  matched_more (took drain no_memory) passes = passes_matched _ passes
  matched_more (gave Updates bytes) passes = passes_matched _ passes

-- ---- nothing has happened

pub waits_none : (f : FrontsValue) → AreNewFronts f → WaitsIn [] f
waits_none f (turns, none, worker) (Place k) = sym (ap outbox_of (none k))
waits_none f (turns, none, worker) Updates =
    sym (ap (λ (ts : List ServerTurn). history.waiting_at Updates ts) turns)

-- ---- what a connection adds

pub added_here : (old new : FrontsValue) (k : ℕ) (c after : FrontConnection) (out : List ℕ)
    → connection_at k old.connections ≡ Some c → new.connections ≡ set old.connections k (Some after)
    → after.outbox ≡ c.outbox ++ out → drop (length (waits_in (Place k) old)) (waits_in (Place k) new) ≡ out
added_here old new k c after out is made waits =
    let before : outbox_of (connection_at k old.connections) ≡ c.outbox = ap outbox_of is in
    let within = within_at old.connections k c is in
    let now : outbox_of (connection_at k new.connections) ≡ c.outbox ++ out =
    ap (λ (cs : List (Option FrontConnection)). outbox_of (connection_at k cs)) made
    ∙ ap outbox_of (set_here old.connections k (Some after) within) ∙ waits in
    rw (before, now) (drop-append_seam c.outbox out)
  where
    set_here : (cs : List (Option FrontConnection)) (j : ℕ) (d : Option FrontConnection) → j < length cs
        → connection_at j (set cs j d) ≡ d
    set_here [] j d there = absurd (omega arith)
    set_here (x ∷ cs) zero d there = refl
    set_here (x ∷ cs) (suc j) d there = set_here cs j d (omega arith)

-- ---- what the core adds

received_adds : (old new : CoreValue) (bytes out : List ℕ) (closes : Bool)
    → Turns old (took (received Updates bytes) (answered out closes)) new
    → out ≡ drop (length (history.waiting_at Updates old.turns)) (history.waiting_at Updates new.turns)
received_adds old new bytes out closes (is, does) =
    let before = history.waiting_at Updates old.turns in
    sym (ap (λ (ts : List ServerTurn). drop (length before) (history.waiting_at Updates ts)) is ∙ drop-append_seam before out)

connected_adds : (old new : CoreValue) (out : List ℕ) (closes : Bool) → Turns old (took connected (answered out closes)) new
    → out ≡ history.waiting_at Updates new.turns
connected_adds old new out closes (is, does) = sym (ap (λ (ts : List ServerTurn). history.waiting_at Updates ts) is)

module _ (rule : RuleValue) (old new : FrontsValue) (answers : List FrontAnswer) (nothing : answers ≡ [])
    (same : new.connections ≡ old.connections) where
  pub core_turn : (e : ServerEvent) (closes : Bool) → IsForCore e
      → Turns old.core (took e (answered (added_by e (kept_before e old.core.worker) new.core.worker) closes)) new.core
      → FrontsDo rule old (took e (answered (added_in e (kept_in e old) new) closes)) answers new
  core_turn (received Updates bytes) closes is turn = (
    nothing,
    subst (λ (out : List ℕ). Turns old.core (took (received Updates bytes) (answered out closes)) new.core)
        (received_adds old.core new.core bytes _ closes turn) turn,
    same,
  )
  core_turn connected closes is turn = (
    nothing,
    subst (λ (out : List ℕ). Turns old.core (took connected (answered out closes)) new.core)
        (connected_adds old.core new.core _ closes turn) turn,
    same,
  )
  core_turn (closed Updates) closes is turn = (nothing, turn, same)
  core_turn drain closes is turn = (nothing, turn, same)
  core_turn (received (Place k) bytes) closes is turn = absurd is
  core_turn (closed (Place k)) closes is turn = absurd is
  core_turn (accepted k conn) closes is turn = absurd is

  pub core_failed : (e : ServerEvent) → IsForCore e → Turns old.core (took e no_memory) new.core
      → FrontsDo rule old (took e no_memory) answers new
  core_failed (received Updates bytes) is turn = (nothing, turn, same)
  core_failed connected is turn = (nothing, turn, same)
  core_failed (closed Updates) is turn = (nothing, turn, same)
  core_failed drain is turn = (nothing, turn, same)
  core_failed (received (Place k) bytes) is turn = absurd is
  core_failed (closed (Place k)) is turn = absurd is
  core_failed (accepted k conn) is turn = absurd is
