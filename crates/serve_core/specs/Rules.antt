-- Which request of a client is judged for one of its front proxy (this project's own; RFC 9110, section 5).
use Rattle.std.specs.Prelude.{◌≡◌, ℕ, List, [], false, Some, None, string_bytes}
use Rattle.head_map.specs.Mapped.{HasMapFault, IsMapped, MappingValue, PartsValue, parts_view}
use Rattle.head_map.specs.Paths.{HasTargetFault}
use Rattle.head_map.specs.declared.fact.MapFault.{MapFault}
use Rattle.head_map.specs.declared.parts.Parts.{Parts}
use Rattle.head_map.specs.declared.path.PathFault.{PathFault}
use Rattle.serve_core.specs.declared.unjudged.Unjudged.{Unjudged}
use Rattle.http_front.specs.Answer.{ReplyValue}
use Rattle.http_front.specs.declared.answer.Case.{Case}
use Rattle.http_front.specs.declared.answer.Case.TheVariants as cases
use Rattle.http_front.specs.declared.fault.HeadFault.TheVariants as faults
use Rattle.http_front.specs.declared.fault.HeadPart.TheVariants as parts
use Rattle.rbac_serve.specs.Tables.{WorkerValue}
use Rattle.serve_config.specs.declared.config.Paths.{Paths}
use Rattle.serve_config.specs.declared.config.Paths.TheVariants.{AsSent, Strict}

-- each request is judged as it was sent: no field is mapped or required, and each path is judged
abbrev pub JudgesAsSent : MappingValue → Paths → Type 0
JudgesAsSent m paths = (m.named ≡ []) × (m.required ≡ []) × (paths ≡ AsSent)

-- a target is judged: each one, or only one whose path has no fault
abbrev pub IsJudgedTarget : Paths → List ℕ → Type 0
IsJudgedTarget AsSent target = Unit {0}
IsJudgedTarget Strict target = (fault : PathFault) → ¬ HasTargetFault fault target

-- the client's request, as that of the front gives it, is judged
abbrev pub IsJudgedClient : MappingValue → Paths → PartsValue → PartsValue → Type 0
IsJudgedClient m paths old new = IsMapped m old new × IsJudgedTarget paths new.target

-- no request of a client is judged, with the case of the answer: the front's fields give none, or its path has a fault
pub data IsUnjudged (m : MappingValue) (paths : Paths) (old : PartsValue) (unjudged : Unjudged) : Type 0 where
  fields : (fault : MapFault) → HasMapFault m old.lines fault
      → unjudged.case ≡ cases.Fault (faults.Malformed parts.FieldValue) → unjudged.client ≡ None
      → IsUnjudged m paths old unjudged
  path : (client : Parts) (fault : PathFault) → paths ≡ Strict → IsMapped m old (parts_view client)
      → HasTargetFault fault (string_bytes client.target) → unjudged.case ≡ cases.Fault (faults.Malformed parts.Target)
      → unjudged.client ≡ Some client → IsUnjudged m paths old unjudged

-- the answer of this case to a request that is not judged: no filter was tried, and the connection stays open
abbrev pub reply_without : Case → WorkerValue → ReplyValue
reply_without case worker = record {
  case = case;
  matches = [];
  generation = worker.core.client.accepted.generation;
  closes = false;
  is_head = false;
}
