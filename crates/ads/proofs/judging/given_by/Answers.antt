use Rattle.std.proofs.Common.{inl, map}
use Rattle.std.specs.List.{AllZip}
use Rattle.std.proofs.lemmas.Result.{err_from_is_err_and}
use Rattle.xds_wire.specs.View.{any_view, extension_view, response_view}
use Rattle.ads.specs.Answer.{IsResource}
use Rattle.ads.proofs.AnswerLemmas.{read_found}
use Rattle.ads.proofs.JudgedLemmas.{given_from_taken, refused_from_taken}
use Rattle.ads.proofs.ReadingLemmas.{exit_wrong, resources_wrong, runs_out_reading}
use Rattle.ads.proofs.judging.given_by.Goals as goal

pub returns-in_err-memory_apart-clause-fault : goal.returns-in_err-memory_apart-clause-fault
returns-in_err-memory_apart-clause-fault c =
    let left = err_from_is_err_and c.from_residual-in_err-memory_apart.result
    c.from_residual-in_err-memory_apart.ensures.1 in
    rw (left.1, left.2) (runs_out_reading c.args.config.now (response_view c.args.response.now)
    c.read_resources.result c.in_ok-check_type.ensures.found c.in_err-memory_apart.ensures.fault
    (rw c.deref.ensures.value at c.read_resources.ensures.fault))

pub returns-in_err-extensions-clause-fault : goal.returns-in_err-extensions-clause-fault
returns-in_err-extensions-clause-fault c =
    exit_wrong c.args.config.now (response_view c.args.response.now) _ c.from_residual-in_err-extensions.result
    c.from_residual-in_err-extensions.ensures.1
    (resources_wrong (response_view c.args.response.now) c.read_resources.result c.in_ok-memory_apart.field-0 _
    c.in_ok-memory_apart.ensures.found.0 c.in_ok-memory_apart.ensures.found.1 c.in_err-extensions.was
    (rw c.deref.ensures.value at c.read_resources.ensures.fault))

pub returns-in_err-check_type-clause-fault : goal.returns-in_err-check_type-clause-fault
returns-in_err-check_type-clause-fault c =
    exit_wrong c.args.config.now (response_view c.args.response.now) _ c.from_residual.result c.from_residual.ensures.1
    (inl c.in_err-check_type.ensures.fault)

pub returns-clause-found : goal.returns-clause-found
returns-clause-found c =
    let xs = c.in_ok-extensions.extensions in
    let read = read_found (λ v. AllZip IsResource (map any_view c.deref.result.now) (map extension_view v.items))
    c.read_resources.result c.in_ok-memory_apart.field-0 xs c.in_ok-memory_apart.ensures.found.0 c.in_ok-extensions.was
    c.read_resources.ensures.found in
    let reads = rw c.deref.ensures.value at read in
    let taken = rw (c.limits.ensures, c.filters.ensures, c.deref-2.ensures.value) at c.take_all.ensures.found in
    given_from_taken c.args.config.now (response_view c.args.response.now) (map extension_view xs.items) reads
    c.in_ok-check_type.ensures.found c.take_all.result taken

pub returns-clause-fault : goal.returns-clause-fault
returns-clause-fault c =
    let xs = c.in_ok-extensions.extensions in
    let read = read_found (λ v. AllZip IsResource (map any_view c.deref.result.now) (map extension_view v.items))
    c.read_resources.result c.in_ok-memory_apart.field-0 xs c.in_ok-memory_apart.ensures.found.0 c.in_ok-extensions.was
    c.read_resources.ensures.found in
    let reads = rw c.deref.ensures.value at read in
    let taken = rw (c.limits.ensures, c.filters.ensures, c.deref-2.ensures.value) at c.take_all.ensures.fault in
    refused_from_taken c.args.config.now (response_view c.args.response.now) (map extension_view xs.items) reads
    c.in_ok-check_type.ensures.found c.take_all.result taken
