use Rattle.std.proofs.lemmas.Result.{MatchResult-weaker}
use Rattle.cel_types.specs.View.{typed_view}
use Rattle.machine_code.specs.Instructions.{code_view}
use Rattle.cel_compile.proofs.Forwards.{code_is_forward}
use Rattle.cel_compile.proofs.Meaning.{code_means}
use Rattle.cel_compile.proofs.Short.{refused_length, room_alone}
use Rattle.cel_compile.proofs.Unstuck.{code_never_stuck}
use Rattle.cel_compile.proofs.Whole.{code_is_sound}
use Rattle.cel_compile.proofs.compiler.compile.Goals as goal

pub returns-clause-sound : goal.returns-clause-sound
returns-clause-sound c =
    MatchResult-weaker c.compile_whole.result c.compile_whole.ensures.found
    (λ code is g. code_is_sound (typed_view c.args.typed.now) (code_view code) g is) (λ e h. h)

pub returns-clause-means : goal.returns-clause-means
returns-clause-means c =
    MatchResult-weaker c.compile_whole.result c.compile_whole.ensures.found
    (λ code is tree request limits good elaborated valid within.
    rw is (code_means tree (typed_view c.args.typed.now) good elaborated request limits valid within))
    (λ e h. h)

pub returns-clause-forward : goal.returns-clause-forward
returns-clause-forward c =
    MatchResult-weaker c.compile_whole.result c.compile_whole.ensures.found
    (λ code is g. rw is (code_is_forward (typed_view c.args.typed.now) g)) (λ e h. h)

pub returns-clause-lives : goal.returns-clause-lives
returns-clause-lives c =
    MatchResult-weaker c.compile_whole.result c.compile_whole.ensures.found
    (λ code is request g valid. rw is (code_never_stuck (typed_view c.args.typed.now) request g valid))
    (λ e h. h)

pub returns-clause-fault : goal.returns-clause-fault
returns-clause-fault c =
    MatchResult-weaker c.compile_whole.result c.compile_whole.ensures.fault
    (λ code h. h) (λ e h. refused_length (typed_view c.args.typed.now) e h)

pub returns-clause-room : goal.returns-clause-room
returns-clause-room c =
    MatchResult-weaker c.compile_whole.result c.compile_whole.ensures.fault
    (λ code h. h)
    (λ e fault parts tree read elaborated.
    room_alone parts tree (typed_view c.args.typed.now) read elaborated e fault)
