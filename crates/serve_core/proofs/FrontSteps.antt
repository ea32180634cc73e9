-- What the code does to the connections of fronts is a turn of theirs.
use Rattle.std.proofs.Common.{◌≡◌, ℕ, zero, suc, ◌≤◌, Bool, true, false, Option, Some, None, List, [], ◌∷◌, ◌++◌, length, set, drop, take, refl, sym, ap, ap₂, ◌∙◌, arith, subst}
use Rattle.std.specs.Prelude.{slice_get}
use Rattle.std.proofs.lemmas.List.{set-set, take-append-drop}
use Rattle.attributes.specs.Conn.{conn_view}
use Rattle.attributes.specs.Limits.{FactsInLimits, LimitsValue}
use Rattle.http_front.specs.Front.{FrontValue, new_front}
use Rattle.http_front.specs.Heads.{is_closed}
use Rattle.serve_loop.specs.declared.stream.Stream.TheVariants.{Place}
use Rattle.serve_loop.specs.History.{accepted, answered, gave, no_memory, received, took}
use Rattle.serve_core.specs.ClientRequests.{OnlyAt, RuleValue}
use Rattle.serve_core.specs.Cores.{CoreValue}
use Rattle.serve_core.specs.Fronts.{FrontsDo, FrontsValue, OpensConnection, Reads, ReadsAt, SendsAt, connection_at, opened, outbox_of, unfit, waits_in}
use Rattle.serve_core.specs.Turns.{ServerFacts}
use Rattle.serve_core.specs.declared.front_answer.FrontAnswer.{FrontAnswer}
use Rattle.serve_core.specs.declared.front_connection.FrontConnection.{FrontConnection}
use Rattle.serve_core.proofs.FrontRuns.{added_here}

none_back : (cs : List (Option FrontConnection)) (k : ℕ) → connection_at k cs ≡ None → set cs k None ≡ cs
none_back [] k is = refl
none_back (c ∷ cs) zero is = ap (λ (d : Option FrontConnection). d ∷ cs) (sym is)
none_back (c ∷ cs) (suc k) is = ap (λ (ds : List (Option FrontConnection)). c ∷ ds) (none_back cs k is)

-- ---- places

pub none_more : (cs ds : List (Option FrontConnection)) → ds ≡ cs ++ None ∷ [] → ((k : ℕ) → connection_at k cs ≡ None)
    → (k : ℕ) → connection_at k ds ≡ None
none_more cs ds is none k = rw is (by cs none k)
  where
    by : (xs : List (Option FrontConnection)) → ((j : ℕ) → connection_at j xs ≡ None) → (j : ℕ)
        → connection_at j (xs ++ None ∷ []) ≡ None
    by [] each zero = refl
    by [] each (suc j) = refl
    by (x ∷ xs) each zero = each zero
    by (x ∷ xs) each (suc j) = by xs (λ n. each (suc n)) j

pub none_past : (cs : List (Option FrontConnection)) (k : ℕ) → length cs ≤ k → None ≡ connection_at k cs
none_past [] k past = refl
none_past (c ∷ cs) zero past = absurd (omega arith)
none_past (c ∷ cs) (suc k) past = none_past cs k (omega arith)

pub set_past : (cs : List (Option FrontConnection)) (k : ℕ) (d : Option FrontConnection) → length cs ≤ k → cs ≡ set cs k d
set_past [] k d past = refl
set_past (c ∷ cs) zero d past = absurd (omega arith)
set_past (c ∷ cs) (suc k) d past = ap (λ (ds : List (Option FrontConnection)). c ∷ ds) (set_past cs k d (omega arith))

pub at_within : (cs : List (Option FrontConnection)) (k : ℕ) (c : Option FrontConnection) → slice_get cs k ≡ Some c
    → c ≡ connection_at k cs
at_within [] k c is = absurd cc
at_within (d ∷ cs) zero c is = cc
at_within (d ∷ cs) (suc k) c is = at_within cs k c is

-- ---- turns

module _ (rule : RuleValue) (old new : FrontsValue) (k : ℕ) (answers : List FrontAnswer) where
  -- a connection opens, or is turned away
  opens_at : (conn : ServerFacts) (closes : Bool) (c : Option FrontConnection) → answers ≡ []
      → OpensConnection old.core.worker.core.client.config.limits (conn_view conn) c closes → new.core ≡ old.core
      → new.connections ≡ set old.connections k c
      → FrontsDo rule old (took (accepted k conn) (answered [] closes)) answers new
  opens_at conn closes c none opens core made = (c, none, refl, opens, ap₂ fronts_of core made)
    where
      fronts_of : CoreValue → List (Option FrontConnection) → FrontsValue
      fronts_of core connections = record { core = core; connections = connections }

  pub opens_unfit : (conn : ServerFacts) (closes : Bool) (limits : LimitsValue) → answers ≡ []
      → limits ≡ old.core.worker.core.client.config.limits → (FactsInLimits (conn_view conn) limits → ⊥) → closes ≡ true
      → new.core ≡ old.core → new.connections ≡ set old.connections k None
      → FrontsDo rule old (took (accepted k conn) (answered [] closes)) answers new
  opens_unfit conn closes limits none same not shuts core made =
      opens_at conn closes None none (unfit (subst (λ (l : LimitsValue). FactsInLimits (conn_view conn) l → ⊥) same not) refl shuts)
      core made

  pub opens_fit : (conn : ServerFacts) (closes : Bool) (limits : LimitsValue) (c : FrontConnection) → answers ≡ []
      → limits ≡ old.core.worker.core.client.config.limits → FactsInLimits (conn_view conn) limits
      → c ≡ record { front = new_front limits (conn_view conn); outbox = [] } → closes ≡ false → new.core ≡ old.core
      → new.connections ≡ set (set old.connections k None) k (Some c)
      → FrontsDo rule old (took (accepted k conn) (answered [] closes)) answers new
  opens_fit conn closes limits c none same fits is stays core made =
      opens_at conn closes (Some c) none
      (opened (subst (λ (l : LimitsValue). FactsInLimits (conn_view conn) l) same fits)
      (ap (λ (d : FrontConnection). Some d) is ∙ ap (λ (l : LimitsValue). Some (new_of l)) same) stays)
      core (made ∙ set-set old.connections k None (Some c))
    where
      new_of : LimitsValue → FrontConnection
      new_of l = record { front = new_front l (conn_view conn); outbox = [] }

  pub opens_failed : (conn : ServerFacts) → answers ≡ [] → new.core ≡ old.core
      → new.connections ≡ set old.connections k None → FrontsDo rule old (took (accepted k conn) no_memory) answers new
  opens_failed conn none core made = (none, ap₂ fronts_of core made)
    where
      fronts_of : CoreValue → List (Option FrontConnection) → FrontsValue
      fronts_of core connections = record { core = core; connections = connections }

  -- no connection is open
  pub reads_nothing : (bytes : List ℕ) (closes : Bool) → connection_at k old.connections ≡ None → answers ≡ []
      → closes ≡ false → new.core ≡ old.core → new.connections ≡ set old.connections k None
      → FrontsDo rule old (took (received (Place k) bytes)
      (answered (drop (length (waits_in (Place k) old)) (waits_in (Place k) new)) closes)) answers new
  reads_nothing bytes closes is none stays core made =
      let conns : new.connections ≡ old.connections = made ∙ none_back old.connections k is in
      let none_waits : drop (length (waits_in (Place k) old)) (waits_in (Place k) new) ≡ [] =
      ap (λ (cs : List (Option FrontConnection)). drop (length (waits_in (Place k) old)) (outbox_of (connection_at k cs))) conns
      ∙ ap (λ (c : Option FrontConnection). drop (length (outbox_of c)) (outbox_of c)) is in
      subst (λ (c : Option FrontConnection). ReadsAt c rule old k bytes answers
      (drop (length (waits_in (Place k) old)) (waits_in (Place k) new)) closes new)
      (sym is) (none, none_waits, stays, ap₂ fronts_of core conns)
    where
      fronts_of : CoreValue → List (Option FrontConnection) → FrontsValue
      fronts_of core connections = record { core = core; connections = connections }

  -- the connection that is open reads bytes
  pub reads_some : (bytes out : List ℕ) (more : List FrontAnswer) (closes : Bool) (c after : FrontConnection)
      → connection_at k old.connections ≡ Some c → Reads rule k c bytes old.core more out after new.core
      → answers ≡ more → closes ≡ is_closed after.front.kept
      → new.connections ≡ set (set old.connections k None) k (Some after)
      → FrontsDo rule old (took (received (Place k) bytes)
      (answered (drop (length (waits_in (Place k) old)) (waits_in (Place k) new)) closes)) answers new
  reads_some bytes out more closes c after is reads same shuts made =
      let conns : new.connections ≡ set old.connections k (Some after) = made ∙ set-set old.connections k None (Some after) in
      subst (λ (l : List ℕ). ReadsAt (connection_at k old.connections) rule old k bytes answers l closes new)
      (sym (added_here old new k c after out is conns reads.waits))
      (subst (λ (d : Option FrontConnection). ReadsAt d rule old k bytes answers out closes new) (sym is)
      (after, subst (λ (l : List FrontAnswer). Reads rule k c bytes old.core l out after new.core) (sym same) reads, shuts, conns))

  pub reads_failed : (bytes : List ℕ) → OnlyAt k old.core new.core → new.connections ≡ set old.connections k None
      → FrontsDo rule old (took (received (Place k) bytes) no_memory) answers new
  reads_failed bytes only made = (only, made)

module _ (rule : RuleValue) (old new : FrontsValue) (k count : ℕ) (few : count ≤ length (waits_in (Place k) old))
    (core : new.core ≡ old.core) where
  abbrev fronts_of : CoreValue → List (Option FrontConnection) → FrontsValue
  fronts_of core connections = record { core = core; connections = connections }

  abbrev sends : Option FrontConnection → Type 0
  sends c = SendsAt c old k (take count (outbox_of c)) new

  given : (c : Option FrontConnection) → connection_at k old.connections ≡ c → sends c
      → FrontsDo rule old (gave (Place k) (take count (waits_in (Place k) old))) [] new
  given c is it = (refl, subst sends (sym is) it)

  pub sends_some : (c after : FrontConnection) → connection_at k old.connections ≡ Some c → after.front ≡ c.front
      → after.outbox ≡ drop count c.outbox → new.connections ≡ set (set old.connections k None) k (Some after)
      → FrontsDo rule old (gave (Place k) (take count (waits_in (Place k) old))) [] new
  sends_some c after is front left made =
      let conns : new.connections ≡ set old.connections k (Some (record { front = c.front; outbox = drop count c.outbox })) =
      made ∙ set-set old.connections k None (Some after)
      ∙ ap (λ (d : FrontConnection). set old.connections k (Some d)) (ap₂ connection_of front left) in
      given (Some c) is (drop count c.outbox, sym (take-append-drop count c.outbox), ap₂ fronts_of core conns)
    where
      connection_of : FrontValue → List ℕ → FrontConnection
      connection_of front outbox = record { front = front; outbox = outbox }

  pub sends_none : connection_at k old.connections ≡ None → new.connections ≡ set old.connections k None
      → FrontsDo rule old (gave (Place k) (take count (waits_in (Place k) old))) [] new
  sends_none is made =
      given None is (nothing count, ap₂ fronts_of core (made ∙ none_back old.connections k is))
    where
      nothing : (n : ℕ) → ◌≡◌ {A = List ℕ} (take n []) []
      nothing zero = refl
      nothing (suc n) = refl
