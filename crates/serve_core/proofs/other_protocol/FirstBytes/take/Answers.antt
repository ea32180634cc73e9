-- The first bytes show the protocol of all.
use Rattle.std.proofs.Common.{◌≡◌, List, ℕ, ◌++◌, take, ap, ◌∙◌, subst}
use Rattle.serve_loop.specs.declared.stream.Stream.TheVariants.{Updates}
use Rattle.serve_core.specs.OtherProtocols.{Speaks}
use Rattle.serve_core.proofs.OtherProtocolLemmas.{first_speak, take_again, updates_show}
use Rattle.serve_core.proofs.other_protocol.FirstBytes.take.Goals as goal

pub returns-in-Received-Updates-default-clause-found : goal.returns-in-Received-Updates-default-clause-found
returns-in-Received-Updates-default-clause-found c = λ past first.
    let arm = c.in-Received-Updates-default in
    let updates : arm.field-0 ≡ Updates = rw arm.is at arm.field-0-is in
    let whole = c.as_slice.ensures ∙ c.with.ensures ∙ ap (λ (l : List ℕ). take 9 (l ++ arm.bytes.now)) first
    ∙ take_again 9 past arm.bytes.now in
    rw arm.is (updates_show arm.field-0 arm.bytes.now past _ updates (first_speak (past ++ arm.bytes.now) _
    (subst (λ (l : List ℕ). Speaks l c.other_protocol_in.result) whole c.other_protocol_in.ensures)))
