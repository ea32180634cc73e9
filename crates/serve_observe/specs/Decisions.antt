-- What the line of a decision says (this project's own; docs/OPERATING.md, "The logs of a server").
use Rattle.std.specs.Prelude.{◌≡◌, ◌≢◌, ◌-◌, ℕ, Bool, true, false, List, [], Option, None, Some, codes, is_some, length, option_and_then, option_copied, option_map, slice_get, string_bytes}
use Rattle.ads.specs.Config.{names_of}
use Rattle.ads.specs.Ends.{client_view}
use Rattle.attributes.specs.Request.{RequestValue, header_of}
use Rattle.http_front.specs.Answer.{row_of}
use Rattle.http_front.specs.declared.answer.Case.{Case}
use Rattle.http_front.specs.declared.answer.Case.TheVariants as cases
use Rattle.http_front.specs.declared.answer.Reply.{Reply}
use Rattle.http_front.specs.declared.ask.Ask.{Ask}
use Rattle.http_front.specs.declared.ask.Ask.TheVariants as asks
use Rattle.proxy_core.specs.declared.answered_ask.AnsweredAsk.{AnsweredAsk}
use Rattle.serve_core.specs.declared.unjudged.Unjudged.{Unjudged}
use Rattle.serve_log.specs.declared.decision.Decision.{Decision}
use Rattle.serve_observe.specs.declared.access_log.DecisionContext.{DecisionContext}
use Rattle.serve_observe.specs.declared.connections.Connection.{Connection}
use Rattle.serve_observe.specs.Names.{matched_name}

-- the request that an ask has, if its head has no fault
abbrev pub request_in : Ask → Option RequestValue
request_in (asks.Judge request closes) = Some request
request_in (asks.Fault fault) = None

-- the answer is that of a faulty head
abbrev pub is_fault : Case → Bool
is_fault cases.Allow = false
is_fault cases.Deny = false
is_fault cases.Steps = false
is_fault cases.Unready = false
is_fault cases.Memory = false
is_fault (cases.Fault fault) = true

-- the line of a request that was answered so, on this connection and with this client
pub record SaysDecision (asked : AnsweredAsk) (context : DecisionContext) (said : Decision) : Type 0 where
  pub time : said.time ≡ context.time
  pub connection : said.connection ≡ context.connection.now.number
  pub peer : option_copied said.peer ≡ option_map string_bytes context.connection.now.peer
  pub method : option_copied said.method ≡ option_map (λ r. r.method) (request_in asked.ask)
  pub target : option_copied said.target ≡ option_map (λ r. r.target) (request_in asked.ask)
  pub host : option_copied said.host ≡ option_and_then (λ r. header_of r (codes ":authority")) (request_in asked.ask)
  pub verdict : said.verdict.now ≡ (row_of asked.reply.case).verdict
  pub status : said.status ≡ (row_of asked.reply.case).status
  -- the filter that was tried last, and its policy that matched
  pub untried : asked.reply.matches.items ≡ [] → (said.filter ≡ None) × (said.policy ≡ None)
  pub filter : asked.reply.matches.items ≢ [] → option_copied said.filter
      ≡ slice_get (names_of (client_view context.client.now).config.filters) (length asked.reply.matches.items - 1)
  pub policy : asked.reply.matches.items ≢ [] → option_copied said.policy
      ≡ matched_name (slice_get (client_view context.client.now).accepted.policies (length asked.reply.matches.items - 1))
      (slice_get asked.reply.matches.items (length asked.reply.matches.items - 1))
  pub generation : said.generation ≡ asked.reply.generation
  pub fault : is_some said.fault ≡ is_fault asked.reply.case
  pub place : option_copied said.record ≡ context.record.now

-- the line of a front's request that was answered without being judged, on its connection
pub record SaysUnjudged (unjudged : Unjudged) (reply : Reply) (connection : Connection) (time : ℕ) (said : Decision) : Type 0 where
  pub at : said.time ≡ time
  pub number : said.connection ≡ connection.number
  pub peer : option_copied said.peer ≡ option_map string_bytes connection.peer
  pub method : option_copied said.method ≡ option_map (λ p. string_bytes p.method) unjudged.client
  pub target : option_copied said.target ≡ option_map (λ p. string_bytes p.target) unjudged.client
  pub host : said.host ≡ None
  pub verdict : said.verdict.now ≡ (row_of unjudged.case).verdict
  pub status : said.status ≡ (row_of unjudged.case).status
  pub filter : said.filter ≡ None
  pub policy : said.policy ≡ None
  pub generation : said.generation ≡ reply.generation
  pub fault : said.fault ≡ Some unjudged.reason
  pub place : said.record ≡ None
