use Rattle.std.proofs.Common.{◌≡◌, [], List, ℕ, ap, refl, rules}
use Rattle.http2.specs.Gathering.{means, faulty, whole}
use Rattle.http2.proofs.gathering.Gathering.read.Goals as goal

pub returns-in-Ok-clause-gathers : goal.returns-in-Ok-clause-gathers
returns-in-Ok-clause-gathers c =
    let old = c.args.self.now in
    let found = c.in-Ok.ensures.means in
    let same : c.deref.result.now ≡ old.block.items = search rules in
    let empty : c.replace-block.new.dest.items ≡ [] = search rules in
    let list = rw old.fields at found.2 in
    means c.requires.light refl found.0 c.decode.new.self.table (rw (old.table, same) at found.1)
    (ap (λ o. whole o) list) (ap (λ (o : List ℕ). record { octets = o; weight = 0; table = c.decode.new.self.table }) empty)

pub returns-in-Err-Compression-clause-gathers : goal.returns-in-Err-Compression-clause-gathers
returns-in-Err-Compression-clause-gathers c =
    let old = c.args.self.now in
    let same : c.deref.result.now ≡ old.block.items = search rules in
    let refuses = rw c.in-Err-Compression.field-0-is at (c.in-Err-Compression.ensures.refused c.requires.alive) in
    faulty c.requires.light refl _ (rw (old.table, same) at refuses) refl
