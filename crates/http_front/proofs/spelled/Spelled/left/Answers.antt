use Rattle.std.proofs.Common.{arith, map}
use Rattle.std.proofs.lemmas.Option.{IfSome_then}
use Rattle.http_front.specs.Parts.{field_view}
use Rattle.http_front.proofs.Spelling.{head_length, if_none_then}
use Rattle.http_front.proofs.spelled.Spelled.left.Goals as goal

pub returns-in_err-left-clause-none : goal.returns-in_err-left-clause-none
returns-in_err-left-clause-none c =
    let s = c.args.self.now in
    let long = head_length s.method.now s.target.now s.is_http11 (map field_view s.front.now) (map field_view s.back.now) in
    rw c.from_residual.ensures (omega (arith, long, c.in_err-left.ensures))

pub returns-in_err-left-2-clause-none : goal.returns-in_err-left-2-clause-none
returns-in_err-left-2-clause-none c =
    let s = c.args.self.now in
    let long = head_length s.method.now s.target.now s.is_http11 (map field_view s.front.now) (map field_view s.back.now) in
    rw c.from_residual-in_err-left-2.ensures (omega (arith, long, c.in_ok-left.ensures, c.in_err-left-2.ensures))

pub returns-in_err-left-3-clause-none : goal.returns-in_err-left-3-clause-none
returns-in_err-left-3-clause-none c =
    let s = c.args.self.now in
    let long = head_length s.method.now s.target.now s.is_http11 (map field_view s.front.now) (map field_view s.back.now) in
    rw c.from_residual-in_err-left-3.ensures
    (omega (arith, long, c.in_ok-left.ensures, c.in_ok-left-2.ensures, c.in_err-left-3.ensures.none))

pub returns-clause-some : goal.returns-clause-some
returns-clause-some c =
    let s = c.args.self.now in
    let long = head_length s.method.now s.target.now s.is_http11 (map field_view s.front.now) (map field_view s.back.now) in
    IfSome_then c.left_after-2.result c.left_after-2.ensures.some
    (λ left is. omega (arith, long, c.in_ok-left.ensures, c.in_ok-left-2.ensures, c.in_ok-left-3.ensures.some, is))

pub returns-clause-none : goal.returns-clause-none
returns-clause-none c =
    let s = c.args.self.now in
    let long = head_length s.method.now s.target.now s.is_http11 (map field_view s.front.now) (map field_view s.back.now) in
    if_none_then c.left_after-2.result c.left_after-2.ensures.none
    (λ over. omega (arith, long, c.in_ok-left.ensures, c.in_ok-left-2.ensures, c.in_ok-left-3.ensures.some, over))
