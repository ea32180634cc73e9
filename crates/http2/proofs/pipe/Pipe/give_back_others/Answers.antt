use Rattle.std.proofs.Common.{◌≡◌, ◌<◌, ◌+◌, ◌-◌, List, ℕ, [], ◌∷◌, ◌++◌, ap, ap₂, ◌∙◌, arith}
use Rattle.http2.specs.Frame.{IsFrame, word_at, payload_of}
use Rattle.http2.specs.Trail.{Line, put, move_window}
use Rattle.http2.specs.Lines.{line}
use Rattle.http2.proofs.Putting.{one_given}
use Rattle.http2.proofs.pipe.Pipe.give_back_others.Goals as goal

pub returns-clause-law : goal.returns-clause-law
returns-clause-law c =
    let self = c.args.self.now in
    let old : Line = line self in
    let connection : List ℕ = c.in_ok-connection.connection.bytes.items in
    let a = c.in_ok-connection.ensures in
    let first : IsFrame connection = record { whole = c.in_ok-connection.connection.whole; small = c.in_ok-connection.connection.small } in
    let few : self.others < 2147483648 = omega (arith, self.bounded, self.beside) in
    let word : word_at (payload_of connection) 0 ≡ self.others = ap (λ (p : List ℕ). word_at p 0) a.payload ∙ c.octets-payload.ensures.number in
    let out : c.push.new.self ≡ old.out ++ connection = rw c.deref.ensures.value at c.in_ok-push.ensures.found in
    let credit : self.credit - 0 ≡ (self.credit - self.others) + self.others = omega (arith, self.beside) in (
      put connection ∷ [],
      (move_window a.kind a.flags, tt),
      one_given connection self.others old _ first c.requires.open a.kind a.flags a.stream word few (omega (arith, first.whole, a.size))
          (ap₂ (λ (t : List ℕ) (n : ℕ). record old { out = t; connection_credit = n }) out credit),
    )
