-- The statuses that C gets (this project's own): 0, the numbers of refusals, 20, those of heads (RFC 9110, section 15),
-- and two below 0.
use Rattle.std.specs.Prelude.{ℤ, pos, negsuc}
use Rattle.ads.specs.declared.config.ConfigFault.{ConfigFault}
use Rattle.c_inputs.specs.declared.facts.FactsFault.{FactsFault}
use Rattle.c_inputs.specs.declared.facts.FactsFault.TheVariants as facts
use Rattle.http_front.specs.Head.{fault_status}
use Rattle.proto_wire.specs.Refusal.{number_of}
use Rattle.proto_wire.specs.declared.refusal.Refusal.{Refusal}
use Rattle.stack_machine.specs.declared.error.RunError.{RunError}
use Rattle.vupresal_c.specs.declared.fault.Fault.{Fault}
use Rattle.vupresal_c.specs.declared.fault.Fault.TheVariants.{Empty, OutOfRange, Refused, OutOfSteps, BadFacts, Unfinished, Head}

-- the status of a call that is done
abbrev pub done : ℤ
done = pos 0

-- the status of a fault
abbrev pub status_of : Fault → ℤ
status_of Empty = negsuc 0
status_of OutOfRange = negsuc 1
status_of (Refused refusal) = pos (number_of refusal)
status_of OutOfSteps = pos 20
status_of BadFacts = pos 400
status_of Unfinished = pos 400
status_of (Head fault) = pos (fault_status fault)

-- out of memory
abbrev pub memory : Fault
memory = Refused Refusal.Memory

-- the fault of facts
abbrev pub of_facts : FactsFault → Fault
of_facts facts.NoText = BadFacts
of_facts facts.OutOfRange = OutOfRange
of_facts facts.Memory = memory

-- the fault of a run
abbrev pub of_run : RunError → Fault
of_run RunError.Memory = memory
of_run RunError.OutOfSteps = OutOfSteps

-- the fault of a configuration
abbrev pub of_config : ConfigFault → Fault
of_config ConfigFault.Memory = memory
of_config ConfigFault.NoFilter = OutOfRange
of_config ConfigFault.TooManyFilters = OutOfRange
of_config ConfigFault.DoubledName = OutOfRange
of_config ConfigFault.BadName = OutOfRange
of_config ConfigFault.BadBudget = OutOfRange
