use Rattle.std.proofs.Common.{◌≡◌, ◌<◌, ◌∙◌, ℕ, List, [], ◌++◌, Option, Some, None, ap, arith, length, take}
use Rattle.std.specs.Prelude.{IfSome, option_map}
use Rattle.std.proofs.lemmas.List.{length-take, take_all}
use Rattle.program_jobs.proofs.files.read_whole.Goals as goal

-- what a limited reader gave is all where it is less than the limit
all_of_fewer : (known : Option (List ℕ)) (n : ℕ) (given : List ℕ)
    → IfSome (option_map (take n) known) (λ bytes. given ≡ [] ++ bytes) → length given < n
    → IfSome known (λ bytes. given ≡ bytes)
all_of_fewer None n given h few = tt
all_of_fewer (Some bytes) n given h few =
    let size = ap length h ∙ length-take n bytes in
    h ∙ take_all n bytes (omega arith)

pub returns-clause-whole : goal.returns-clause-whole
returns-clause-whole g c =
    let bytes = rw (c.take.ensures.inner, c.new-bytes.ensures.items)
    at c.in_ok-read_to_end.ensures.bytes in
    let limit = c.take.ensures.limit in
    let size = c.len.ensures in
    let few = c.if-len-gt-MOST_FILE.false in
    all_of_fewer (g.R.Read.remaining c.args.file) c.take.result.limit _ bytes (omega arith)
