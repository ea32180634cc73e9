-- The updates of the xDS REST and gRPC protocol, "ACK and NACK", with filters as resources, so that a wrong rule in the
-- specs does not check: a client asks for `foo` and `bar`, takes the update of version `X` with nonce `A`, and refuses that
-- of version `Y` with nonce `B`; and a control plane, whose versions and nonces are numbers, gets such answers.
use Rattle.std.proofs.Common.{◌≡◌, ◌≢◌, inl, inr, ℕ, List, [], ◌∷◌, ◌++◌, Bool, false, cond, Option, Some, None, IsSomeAnd, MatchOption, codes, decimal, get_or, length, refl, sym, ap, subst, arith, lit<, lit≤}
use Rattle.std.specs.Prelude.{IsUtf8, pos}
use Rattle.std.specs.Fmt.{digits}
use Rattle.std.specs.Ordering.{is_eq}
use Rattle.std.specs.declared.cmp.Ordering.TheVariants.{Less, Equal, Greater}
use Rattle.std.specs.Cmp.Lexicographic.{nat_list_cmp_total}
use Rattle.std.specs.FinMap.{from_entries, get-from_entries}
use Rattle.attributes.specs.Headers.{name_cmp}
use Rattle.attributes.specs.Limits.{LimitsValue}
use Rattle.proto_wire.specs.Fields.{Wire, len, Fields}
use Rattle.proto_wire.specs.declared.refusal.Refusal.{Refusal}
use Rattle.proto_wire.proofs.MapOrder.{entries_from_entries}
use Rattle.proto_wire.proofs.StandardFacts.{field, len_starts, merged}
use Rattle.xds_wire.specs.Discovery.{AnyMessage, IsAny, ExtensionMessage, IsExtension, NodeMessage, RequestMessage, ResponseMessage, StatusMessage}
use Rattle.cel_tree.specs.Checked.{CelChecked}
use Rattle.cost_bound.specs.Budgets.{nothing, of_steps}
use Rattle.rbac_policy.specs.Admission.{Admits}
use Rattle.rbac_policy.specs.Condition.{Program}
use Rattle.rbac_policy.specs.Costs.{FilterCosts, PoliciesCost}
use Rattle.rbac_policy.specs.Enforced.{Enforces, EnforcesPolicy}
use Rattle.rbac_policy.specs.Filter.{Filter, Policy}
use Rattle.rbac_policy.specs.declared.filter.Action.TheVariants.{Allow}
use Rattle.rbac_policy.proofs.StandardFacts as rbac
use Rattle.ads.specs.Answer.{Accepted, Accepts, Answers, IsResource, Refuses, ResourceFault, first_request, nothing_accepted, AnswersAs, AdmittedValue}
use Rattle.ads.specs.Config.{ConfigValue, FilterValue}
use Rattle.ads.specs.Control.{Advances, ControlValue, IsAck, IsFirst, IsNack, ResourceValue, ServedValue, Serves, nothing_served, recorded, stream_lost}
use Rattle.ads.proofs.Apart.{answer_apart}

-- ---- the messages

-- the type of the resources, and that of a filter's message
abbrev extension_url : List ℕ
extension_url = codes "type.googleapis.com/envoy.config.core.v3.TypedExtensionConfig"

abbrev filter_url : List ℕ
filter_url = codes "type.googleapis.com/envoy.extensions.filters.http.rbac.v3.RBAC"

-- who asks
abbrev node : NodeMessage
node = record { id = codes "envoy"; cluster = [] }

-- a filter of this name
abbrev of_name : List ℕ → FilterValue
of_name name = record { name = name; budget = of_steps 100 }

-- the client's configuration, under limits of requests
abbrev configuration : LimitsValue → ConfigValue
configuration limits = record {
  node = codes "envoy";
  cluster = [];
  filters = of_name (codes "foo") ∷ of_name (codes "bar") ∷ [];
  limits = limits;
}

-- a request, by what differs: the version, who asks, the nonce and the error
abbrev request : List ℕ → Option NodeMessage → List ℕ → Option StatusMessage → RequestMessage
request version who nonce error = record {
  version_info = version;
  node = who;
  resource_names = codes "foo" ∷ codes "bar" ∷ [];
  type_url = extension_url;
  response_nonce = nonce;
  error_detail = error;
}

-- an invalid argument (google.rpc.Code), and the number of `WrongType`
abbrev wrong_type : Option StatusMessage
wrong_type = Some (record { code = pos 3; message = codes "policy refused: 17" })

-- the resource `foo`: a filter that allows each request by its one policy
abbrev foo_config : AnyMessage
foo_config = record { type_url = filter_url; value = rbac.filter_bytes }

abbrev foo : ExtensionMessage
foo = record { name = codes "foo"; typed_config = Some foo_config }

-- the bytes of both messages, as an encoder writes them
abbrev config_bytes : List ℕ
config_bytes = 10 ∷ 62 ∷ (filter_url ++ 18 ∷ 17 ∷ rbac.filter_bytes)

abbrev foo_bytes : List ℕ
foo_bytes = 10 ∷ 3 ∷ (codes "foo" ++ 18 ∷ 83 ∷ config_bytes)

-- that resource in a response
abbrev good : AnyMessage
good = record { type_url = extension_url; value = foo_bytes }

-- a resource of another type
abbrev bad : AnyMessage
bad = record { type_url = codes "type.googleapis.com/envoy.config.listener.v3.Listener"; value = [] }

-- the first update
abbrev update_x : ResponseMessage
update_x = record {
  version_info = codes "X";
  resources = good ∷ [];
  type_url = extension_url;
  nonce = codes "A";
}

-- the second update, of which one resource is wrong
abbrev update_y : ResponseMessage
update_y = record {
  version_info = codes "Y";
  resources = good ∷ bad ∷ [];
  type_url = extension_url;
  nonce = codes "B";
}

-- ---- `foo` is read

-- the texts are UTF-8
name_reads : IsUtf8 (codes "foo")
unfolding lib.Utf8.encode
name_reads = (codes "foo", (refl, refl))

type_reads : IsUtf8 filter_url
unfolding lib.Utf8.encode
type_reads = (filter_url, (refl, refl))

abbrev config_wires : List Wire
config_wires = field 1 (len filter_url) ∷ field 2 (len rbac.filter_bytes) ∷ []

config_fields : Fields config_bytes config_wires
config_fields = (
  18 ∷ 17 ∷ rbac.filter_bytes,
  len_starts 1 filter_url (18 ∷ 17 ∷ rbac.filter_bytes) (lit≤ tt) (lit< tt) (lit< tt),
  ([], len_starts 2 rbac.filter_bytes [] (lit≤ tt) (lit< tt) (lit< tt), refl),
)

config_read : IsAny (config_bytes ∷ []) foo_config
config_read = (
  config_wires,
  merged config_bytes config_wires config_fields,
  record { type_url = (refl, type_reads); value = refl },
)

abbrev foo_wires : List Wire
foo_wires = field 1 (len (codes "foo")) ∷ field 2 (len config_bytes) ∷ []

foo_fields : Fields foo_bytes foo_wires
foo_fields = (
  18 ∷ 83 ∷ config_bytes,
  len_starts 1 (codes "foo") (18 ∷ 83 ∷ config_bytes) (lit≤ tt) (lit< tt) (lit< tt),
  ([], len_starts 2 config_bytes [] (lit≤ tt) (lit< tt) (lit< tt), refl),
)

foo_read : IsExtension foo_bytes foo
foo_read = (
  foo_wires,
  merged foo_bytes foo_wires foo_fields,
  record { name = (refl, name_reads); typed_config = (λ e. cc, config_read) },
)

is_resource : IsResource good foo
is_resource = record { type_url = refl; reads = foo_read; name = λ e. cc }

-- ---- `foo` is admitted

-- its policy as it is written, and what is enforced of it
abbrev written : List (List ℕ × Policy CelChecked)
written = (codes "p", rbac.policy) ∷ []

abbrev enforced_policy : Policy Program
enforced_policy = record { permissions = rbac.policy.permissions; principals = rbac.policy.principals; condition = None }

abbrev kept : List (List ℕ × Policy Program)
kept = (codes "p", enforced_policy) ∷ []

abbrev enforced : Filter Program
enforced = record { action = Allow; policies = from_entries kept }

module _ (limits : LimitsValue) where
  costs_nothing : FilterCosts limits rbac.filter nothing
  costs_nothing =
      subst (λ ps. PoliciesCost limits ps nothing) (sym (entries_from_entries name_cmp nat_list_cmp_total written tt))
      (nothing, nothing, refl, refl, refl)

  is_enforced : Enforces limits rbac.filter enforced
  is_enforced = record {
    action = refl;
    policies = λ name.
        rw (get-from_entries nat_list_cmp_total written name, get-from_entries nat_list_cmp_total kept name)
        (elim (name_cmp name (codes "p")) as (λ o. MatchOption (cond (is_eq o) (Some rbac.policy) None)
        (cond (is_eq o) (Some enforced_policy) None ≡ None)
        (λ policy. IsSomeAnd (cond (is_eq o) (Some enforced_policy) None) (EnforcesPolicy limits policy))) [
          | Less ↦ refl
          | Equal ↦ record { permissions = refl; principals = refl; condition = refl }
          | Greater ↦ refl
        ]);
  }

  is_admitted : Admits rbac.filter_bytes limits (of_steps 100) rbac.filter enforced
  is_admitted = record {
    admissible = record { message = rbac.is_filter; needs = nothing; costs = costs_nothing; covered = (lit≤ tt, lit≤ tt) };
    enforces = is_enforced;
  }

  -- ---- the client's end

  -- nothing is accepted yet
  abbrev pub new : Accepted
  new = nothing_accepted (configuration limits)

  -- what the filter `foo` has after the first update
  abbrev pub foo_admitted : AdmittedValue
  foo_admitted = record { filter = enforced; limits = limits }

  -- what is accepted after the first update: a filter for `foo`, and nothing for `bar`
  abbrev pub after_x : Accepted
  after_x = record {
    version = codes "X";
    policies = Some foo_admitted ∷ None ∷ [];
    generation = 1;
  }

  -- the first request has no version and no nonce, and says who asks
  pub first_of_all : first_request (configuration limits) new ≡ request [] (Some node) [] None
  first_of_all = refl

  -- on a new stream the first one has the version that was accepted, and no nonce
  pub first_on_a_new_stream : first_request (configuration limits) after_x ≡ request (codes "X") (Some node) [] None
  first_on_a_new_stream = refl

  accepts_x : Accepts (configuration limits) update_x new after_x
  accepts_x = record {
    extensions = foo ∷ [];
    given = Some foo_admitted ∷ None ∷ [];
    type_url = refl;
    reads = (is_resource, tt);
    gives = ((rbac.filter_bytes, foo_admitted, (refl, refl), (rbac.filter, enforced, is_admitted, refl), refl), (refl, tt));
    policies = refl;
    version = refl;
    generation = refl;
  }

  -- ACK: an update that is accepted is answered with its version and its nonce
  pub acknowledged : Answers (configuration limits) update_x new (request (codes "X") None (codes "A") None) after_x
  acknowledged = AnswersAs.ack accepts_x refl

  refuses_y : Refuses (configuration limits) update_y Refusal.WrongType
  refuses_y = Refuses.bad_resource (inr (inl (ResourceFault.wrong_type (λ e. omega (arith, ap length e)) refl)))

  -- NACK: one that is refused is answered with the version accepted before, its own nonce and an error
  pub refused : Answers (configuration limits) update_y after_x (request (codes "X") None (codes "B") wrong_type) after_x
  unfolding digits
  refused = AnswersAs.nack Refusal.WrongType refuses_y refl refl

  -- NACK: where none was accepted before, that version is empty; and nothing of the update is taken
  pub refused_first : Answers (configuration limits) update_y new (request [] None (codes "B") wrong_type) new
  unfolding digits
  refused_first = AnswersAs.nack Refusal.WrongType refuses_y refl refl

  -- whatever the error says, each answer to it has that version, that nonce and an error, and accepts nothing
  pub never_acknowledged : (reply : RequestMessage) (after : Accepted)
      → Answers (configuration limits) update_y after_x reply after
      → (reply.version_info ≡ codes "X") × (reply.response_nonce ≡ codes "B") × (reply.error_detail ≢ None)
      × (after ≡ after_x)
  never_acknowledged reply after (AnswersAs.ack accepts is) =
      absurd (answer_apart (configuration limits) update_y after_x after Refusal.WrongType accepts refuses_y)
  never_acknowledged reply after (AnswersAs.nack e refuses same is) = (
    ap (λ r. r.version_info) is,
    ap (λ r. r.response_nonce) is,
    subst (λ (r : RequestMessage). r.error_detail ≢ None) (sym is) (λ none. cc),
    same,
  )
  never_acknowledged reply after (AnswersAs.no_memory admitting same is) = (
    ap (λ r. r.version_info) is,
    ap (λ r. r.response_nonce) is,
    subst (λ (r : RequestMessage). r.error_detail ≢ None) (sym is) (λ none. cc),
    same,
  )

-- ---- the control plane's end: its versions and nonces are numbers in decimal

-- the first snapshot was sent, in the first response
abbrev pub sent_first : ServedValue
sent_first = record { current = 1; sent = 1; last = Some 1; acknowledged = None }

-- the second snapshot was sent behind it, in the second response
abbrev pub sent_second : ServedValue
sent_second = record { current = 2; sent = 2; last = Some 2; acknowledged = None }

-- a request without a nonce is the first on its stream
pub begins : IsFirst nothing_served (request [] (Some node) [] None)
begins = record { type_url = refl; nonce = refl; last = refl }

-- so is one on a new stream, whatever version it has
pub begins_again : (c : ControlValue) (version : List ℕ)
    → IsFirst (stream_lost c).served (request version (Some node) [] None)
begins_again c version = record { type_url = refl; nonce = refl; last = refl }

-- ACK: the version and the nonce that were sent acknowledge, and the version is recorded
pub records : (snapshot : List ResourceValue) → Serves (snapshot ∷ []) (request (codes "1") None (codes "1") None)
    sent_first [] (1 ∷ []) (recorded sent_first) false
unfolding digits
records snapshot =
    Serves.ack (record { reply = record { type_url = refl; nonce = refl }; error = refl; version = refl })
    (Advances.at_last (lit≤ tt) refl refl refl) refl

-- NACK: the nonce with an error refuses, and no version is recorded
pub records_no_refusal : (snapshot : List ResourceValue) → Serves (snapshot ∷ []) (request [] None (codes "1") wrong_type)
    sent_first [] [] sent_first false
unfolding digits
records_no_refusal snapshot =
    Serves.nack (record { reply = record { type_url = refl; nonce = refl }; error = λ none. cc })
    (Advances.at_last (lit≤ tt) refl refl refl) refl

-- an answer to the first response behind the second one
abbrev stale : List ℕ → Option StatusMessage → RequestMessage
stale version error = request version None (codes "1") error

-- the nonce of the first response is not that of the second
other_nonce : codes "1" ≢ decimal 2
unfolding digits
other_nonce same = let first : 49 ≡ 50 = ap (λ text. get_or text 0 0) same in omega (arith, first)

module _ (version : List ℕ) (error : Option StatusMessage) where
  stale_no_first : IsFirst sent_second (stale version error) → ⊥
  stale_no_first is = let none = is.last in cc

  stale_no_ack : IsAck sent_second (stale version error) → ⊥
  stale_no_ack is = other_nonce is.reply.nonce

  stale_no_nack : IsNack sent_second (stale version error) → ⊥
  stale_no_nack is = other_nonce is.reply.nonce

  -- a request with the nonce of an earlier response is stale: nothing is sent for it, and nothing recorded
  pub stale_is_ignored : (snapshots : List (List ResourceValue)) (replies numbers : List ℕ) (after : ServedValue)
      (ends : Bool) → Serves snapshots (stale version error) sent_second replies numbers after ends
      → (replies ≡ []) × (numbers ≡ []) × (after ≡ sent_second) × (ends ≡ false)
  stale_is_ignored snapshots replies numbers after ends (Serves.first is sends reported) = absurd (stale_no_first is)
  stale_is_ignored snapshots replies numbers after ends (Serves.ack is sends reported) = absurd (stale_no_ack is)
  stale_is_ignored snapshots replies numbers after ends (Serves.nack is sends reported) = absurd (stale_no_nack is)
  stale_is_ignored snapshots replies numbers after ends (Serves.ignored no_first no_ack no_nack silent same goes_on reported) =
      (silent, reported, same, goes_on)
