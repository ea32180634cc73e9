-- One thing more happened on a wire whose connections have known facts.
use Rattle.std.proofs.Common.{List}
use Rattle.attributes.specs.Conn.{Facts}
use Rattle.serve_core.specs.Turns.{ServerFacts, ServerTurn}
use Rattle.serve_host.specs.Known.{HasKnownFacts, IsKnownNote}
use Rattle.serve_loop.specs.Law.{wire_of}
use Rattle.serve_trace.specs.Noted.{noted}
use Rattle.serve_trace.specs.declared.Note.{Note}
use Rattle.serve_trace.specs.declared.Note.TheVariants as notes

pub known_noted : (known : Facts) (turns : List ServerTurn) (note : Note ServerFacts) → IsKnownNote known note
    → HasKnownFacts known (wire_of turns) → HasKnownFacts known (wire_of (noted turns note))
known_noted known turns (notes.Took e) is before = (is, before)
known_noted known turns (notes.Answered e out closes) is before = (is, before)
known_noted known turns (notes.Sent s bytes) is before = before
