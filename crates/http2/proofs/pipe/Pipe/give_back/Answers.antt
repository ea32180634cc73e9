use Rattle.std.proofs.Common.{◌≡◌, ◌<◌, ◌+◌, ◌-◌, List, ℕ, [], ◌∷◌, ◌++◌, ap, ap₂, ◌∙◌, arith, rules}
use Rattle.http2.specs.Frame.{IsFrame, word_at, payload_of}
use Rattle.http2.specs.Trail.{Line, put, move_window}
use Rattle.http2.specs.Lines.{line}
use Rattle.http2.proofs.Putting.{both_given}
use Rattle.http2.proofs.pipe.Pipe.give_back.Goals as goal

pub returns-clause-law : goal.returns-clause-law
returns-clause-law c =
    let self = c.args.self.now in
    let old : Line = line self in
    let owed : ℕ = self.owed in
    let all : ℕ = owed + self.others in
    let connection : List ℕ = c.in_ok-connection.connection.bytes.items in
    let stream : List ℕ = c.in_ok-stream.stream.bytes.items in
    let a = c.in_ok-connection.ensures in
    let b = c.in_ok-stream.ensures in
    let first : IsFrame connection = record { whole = c.in_ok-connection.connection.whole; small = c.in_ok-connection.connection.small } in
    let second : IsFrame stream = record { whole = c.in_ok-stream.stream.whole; small = c.in_ok-stream.stream.small } in
    let many : all < 2147483648 = omega (arith, self.bounded, self.beside) in
    let few : owed < 2147483648 = omega (arith, many) in
    let word_a : word_at (payload_of connection) 0 ≡ all = ap (λ (p : List ℕ). word_at p 0) a.payload ∙ c.octets-wide.ensures.number in
    let word_b : word_at (payload_of stream) 0 ≡ owed = ap (λ (p : List ℕ). word_at p 0) b.payload ∙ c.octets-narrow.ensures.number in
    let out : c.push.new.self ≡ old.out ++ (connection ++ stream) = search rules in
    let connection_credit : (self.credit + owed) - 0 ≡ (self.credit - self.others) + all = omega (arith, self.beside) in (
      put stream ∷ put connection ∷ [],
      (move_window b.kind b.flags, (move_window a.kind a.flags, tt)),
      both_given connection stream all owed old _ first second c.requires.open a.kind b.kind a.flags b.flags a.stream b.stream word_a word_b many few
          (omega (arith, first.whole, a.size)) (omega (arith, second.whole, b.size))
          (ap₂ (λ (t : List ℕ) (n : ℕ). record old { out = t; stream_credit = self.credit + owed; connection_credit = n }) out connection_credit),
    )
