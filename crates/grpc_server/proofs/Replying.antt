-- What is written of an answer, step by step.
use Rattle.std.proofs.Common.{◌≡◌, ◌≢◌, ◌≤◌, ◌<◌, ◌⊎◌, inl, inr, ℕ, ◌+◌, ◌-◌, min, Bool, true, false, if◌then◌else◌, Option, Some, None, is_some, Result, Ok, Err, List, [], ◌∷◌, ◌++◌, length, take, drop, refl, sym, ap, ap₂, ◌∙◌, subst, true≢false, arith, append_assoc, append-nil}
use Rattle.std.proofs.lemmas.Bool.{cases_lt}
use Rattle.std.proofs.lemmas.List.{length-drop, take_all, take_rest}
use Rattle.std.proofs.Math.Seq.{take-add}
use Rattle.hpack.specs.Field.{Line}
use Rattle.http2.specs.Frame.{parts_of}
use Rattle.http2.specs.Trail.{Step, put}
use Rattle.http2.specs.Streams.{find}
use Rattle.http2.specs.Exchanged.{can_end, room_on}
use Rattle.http2.specs.Exchanges.{exchange_view}
use Rattle.http2.specs.Servers.{Heads}
use Rattle.http2.specs.Unary.{UnaryLaw, unary_view}
use Rattle.http2.specs.Unary as unary
use Rattle.http2.specs.declared.fault.Fault.{Fault}
use Rattle.http2.specs.declared.unary.Answering.{Answering}
use Rattle.http2.specs.declared.unary.Answering.TheVariants as answering
use Rattle.http2.specs.declared.unary.UnaryServer.{UnaryServer}
use Rattle.grpc_server.specs.Answers.{opening}
use Rattle.grpc_server.specs.Messages.{ending}
use Rattle.grpc_server.specs.Replies.{Wrote, Opens, AreContent, Says, IsHeld, IsGone, Writes, whole, part, gone, failed}
use Rattle.grpc_server.specs.private.Replying.{IsSame, Begins, written, waits, Sends, IsStuck}
use Rattle.grpc_server.specs.private.Replying as begins
use Rattle.grpc_server.specs.declared.message.StatusCode.{StatusCode}
use Rattle.grpc_server.specs.declared.reply.Reply.{Reply}
use Rattle.grpc_server.specs.declared.reply.Written.{Written}
use Rattle.grpc_server.specs.declared.reply.Written.TheVariants.{Part, Gone}

-- nothing was written
pub wrote_nothing : (u : UnaryServer) → Wrote [] u u
wrote_nothing u = λ most trail came sent gave law. law

-- these frames were written after those
pub wrote_more : (later first : List Step) (u v w : UnaryServer) → Wrote first u v → Wrote later v w → Wrote (later ++ first) u w
wrote_more later first u v w one two = λ most trail came sent gave law.
    subst (λ (t : List Step). UnaryLaw most t came sent gave (unary_view w)) (sym (append_assoc later first trail))
    (two most (first ++ trail) came sent gave (one most trail came sent gave law))

-- nothing happened
pub wrote_same : (u v : UnaryServer) → v ≡ u → Wrote [] u v
wrote_same u v same = subst (λ (w : UnaryServer). Wrote [] u w) (sym same) (wrote_nothing u)

-- a frame with fields, by what its stream and its fields are
pub heads_as : (s t flags : ℕ) (fs gs : List Line) (frame : List ℕ) → s ≡ t → fs ≡ gs → Heads s flags fs frame → Heads t flags gs frame
heads_as s t flags fs gs frame same are heads =
    subst (λ (n : ℕ). Heads n flags gs frame) same (subst (λ (l : List Line). Heads s flags l frame) are heads)

-- ---- content

pub sends_nothing : (r : Reply) (u : UnaryServer) → Sends r r u u
sends_nothing r u = record {
  steps = [];
  octets = [];
  content = refl;
  said = sym (append-nil (take r.at r.content.items));
  same = (refl, refl, refl);
  begun_same = refl;
  wrote = wrote_nothing u;
}

-- no more of an answer was written
pub sends_still : (old mid new : Reply) (u v w : UnaryServer) → Sends old mid u v → IsSame mid new → new.at ≡ mid.at → new.begun ≡ mid.begun
    → Wrote [] v w → Sends old new u w
sends_still old mid new u v w sends same at begun wrote = record {
  steps = sends.steps;
  octets = sends.octets;
  content = sends.content;
  said = ap (λ (k : ℕ). take k old.content.items) at ∙ sends.said;
  same = (same.0 ∙ sends.same.0, same.1 ∙ sends.same.1, same.2 ∙ sends.same.2);
  begun_same = begun ∙ sends.begun_same;
  wrote = λ most trail came sent gave law. wrote most (sends.steps ++ trail) came sent gave (sends.wrote most trail came sent gave law);
}

-- the octets that are left
pub octets_are : (n at : ℕ) (said content : List ℕ) → said ≡ content
    → take n (take (length said - at) (drop at said)) ≡ take n (drop at content)
octets_are n at said content is =
    ap (λ (t : List ℕ). take n t) (take_rest said at) ∙ ap (λ (t : List ℕ). take n (drop at t)) is

some_left : (at : ℕ) (said content : List ℕ) → said ≡ content → at < length content → 0 < length (take (length said - at) (drop at said))
some_left at said content is less =
    let rest : length (take (length said - at) (drop at said)) ≡ length said - at =
    ap (λ (t : List ℕ). length t) (take_rest said at) ∙ length-drop at said in
    let long : length said ≡ length content = ap (λ (t : List ℕ). length t) is in
    omega (arith, rest, long, less)

-- why nothing more was written
pub stuck : (stream other n at : ℕ) (said content : List ℕ) (u v : UnaryServer) → v ≡ u → other ≡ stream → n ≡ 0 → said ≡ content
    → at < length content
    → (u.over ≡ None → length u.wire.out ≤ 65536 → n ≡ min (min (length (take (length said - at) (drop at said))) 16384)
    (room_on (exchange_view u.exchange) (find other (exchange_view u.exchange).streams)))
    → IsStuck stream v
stuck stream other n at said content u v same stream_is none is less most =
    let some = some_left at said content is less in
    subst (λ (w : UnaryServer). IsStuck stream w) (sym same)
    (subst (λ (s : ℕ). IsStuck s u) stream_is (λ going few. let room = most going few in omega (arith, room, none, some)))

-- it is so, as content is left
pub stuck_of : {P : Type 0} (at : ℕ) (content left : List ℕ) → left ≡ content → at < length left → (length content ≤ at) ⊎ P → P
stuck_of at content left same less (inl all) =
    let long : length left ≡ length content = ap (λ (t : List ℕ). length t) same in
    absurd (omega (arith, all, less, long))
stuck_of at content left same less (inr holds) = holds

pub sends_more : (old mid new : Reply) (u v w : UnaryServer) (n : ℕ) (frame octets : List ℕ) → Sends old mid u v
    → parts_of frame ≡ record { kind = 0; flags = 0; stream = mid.stream; payload = octets }
    → octets ≡ take n (drop mid.at mid.content.items) → IsSame mid new → new.at ≡ mid.at + n → new.begun ≡ mid.begun
    → unary.Writes frame (unary_view v) (unary_view w) → Sends old new u w
sends_more old mid new u v w n frame octets sends are is same at begun writes = record {
  steps = put frame ∷ sends.steps;
  octets = sends.octets ++ octets;
  content = (
    sends.octets,
    octets,
    sends.content,
    are ∙ ap (λ (s : ℕ). record { kind = 0; flags = 0; stream = s; payload = octets }) sends.same.0,
    refl,
  );
  said = ap (λ (k : ℕ). take k old.content.items) at ∙ take-add mid.at n old.content.items
      ∙ ap₂ (λ (a b : List ℕ). a ++ b) sends.said (sym (is ∙ ap (λ (c : List ℕ). take n (drop mid.at c)) sends.same.1))
      ∙ append_assoc (take old.at old.content.items) sends.octets octets;
  same = (same.0 ∙ sends.same.0, same.1 ∙ sends.same.1, same.2 ∙ sends.same.2);
  begun_same = begun ∙ sends.begun_same;
  wrote = λ most trail came sent gave law. writes most (sends.steps ++ trail) came sent gave (sends.wrote most trail came sent gave law);
}

-- ---- the whole answer

opens_nothing : (stream : ℕ) (o n : Bool) → o ≡ true → n ≡ true → Opens stream o n []
opens_nothing stream true true old new = refl
opens_nothing stream true false old new = absurd (true≢false (sym new))
opens_nothing stream false n old new = absurd (true≢false (sym old))

opens_first : (stream : ℕ) (o n : Bool) (frame : List ℕ) → o ≡ false → n ≡ true → Heads stream 4 opening frame
    → Opens stream o n (put frame ∷ [])
opens_first stream true n frame old new heads = absurd (true≢false old)
opens_first stream false false frame old new heads = absurd (true≢false (sym new))
opens_first stream false true frame old new heads = (frame, refl, heads)

opened : (stream : ℕ) (o n : Bool) (first : List Step) → o ≡ true → Opens stream o n first → (n ≡ true) × (first ≡ [])
opened stream true true first old opens = (refl, opens)
opened stream true false first old opens = absurd opens
opened stream false n first old opens = absurd (true≢false (sym old))

-- content of an answer that has begun
pub says_of : (old new : Reply) (u v : UnaryServer) (sends : Sends old new u v) → old.begun ≡ true → Says old new sends.steps
says_of old new u v sends begun = record {
  first = [];
  data_steps = sends.steps;
  octets = sends.octets;
  whole = sym (append-nil sends.steps);
  opens = opens_nothing old.stream old.begun new.begun begun (sends.begun_same ∙ begun);
  content = sends.content;
  said = sends.said;
  begun = λ none. absurd (true≢false (sym (sends.begun_same ∙ begun) ∙ none));
  stream_same = sends.same.0;
  content_same = sends.same.1;
  code_same = sends.same.2;
}

opens_none : (stream : ℕ) (b : Bool) → Opens stream b b []
opens_none stream true = refl
opens_none stream false = refl

-- nothing of an answer
pub says_nothing : (r : Reply) → Says r r []
says_nothing r = record {
  first = [];
  data_steps = [];
  octets = [];
  whole = refl;
  opens = opens_none r.stream r.begun;
  content = refl;
  said = sym (append-nil (take r.at r.content.items));
  begun = λ none. refl;
  stream_same = refl;
  content_same = refl;
  code_same = refl;
}

-- the fields that begin it, alone or with what follows
module _ (old mid new : Reply) (frame : List ℕ) (unbegun : old.begun ≡ false) (heads : Heads old.stream 4 opening frame)
    (same : IsSame old mid) (at : mid.at ≡ old.at) (begun : mid.begun ≡ true) where
  says_after : (steps : List Step) → Says mid new steps → Says old new (steps ++ put frame ∷ [])
  says_after steps says =
      let none = opened mid.stream mid.begun new.begun says.first begun says.opens in
      record {
        first = put frame ∷ [];
        data_steps = says.data_steps;
        octets = says.octets;
        whole = ap (λ (t : List Step). t ++ put frame ∷ [])
            (says.whole ∙ ap (λ (t : List Step). says.data_steps ++ t) none.1 ∙ append-nil says.data_steps);
        opens = opens_first old.stream old.begun new.begun frame unbegun none.0 heads;
        content = subst (λ (s : ℕ). AreContent s says.data_steps says.octets) same.0 says.content;
        said = ap (λ (c : List ℕ). take new.at c) (sym same.1) ∙ says.said
            ∙ ap₂ (λ (k : ℕ) (c : List ℕ). take k c ++ says.octets) at same.1;
        begun = says.begun;
        stream_same = says.stream_same ∙ same.0;
        content_same = says.content_same ∙ same.1;
        code_same = says.code_same ∙ same.2;
      }

  pub writes_after : (u v w : UnaryServer) (result : Result Written Fault) → Wrote (put frame ∷ []) u v → Writes mid new v w result
      → Writes old new u w result
  writes_after u v w result wrote (whole steps last is says has all ends later) =
      whole (steps ++ put frame ∷ []) last is (says_after steps says) has
      (ap (λ (c : List ℕ). take new.at c) (sym same.1) ∙ all ∙ same.1)
      (subst (λ (k : StatusCode). Heads old.stream 5 (ending k) last) same.2 (subst (λ (s : ℕ). Heads s 5 (ending mid.code) last) same.0 ends))
      (wrote_more (put last ∷ steps) (put frame ∷ []) u v w wrote later)
  writes_after u v w result wrote (part steps is says later held) =
      part (steps ++ put frame ∷ []) is (says_after steps says) (wrote_more steps (put frame ∷ []) u v w wrote later)
      held
  writes_after u v w result wrote (gone steps is says later over) =
      gone (steps ++ put frame ∷ []) is (says_after steps says) (wrote_more steps (put frame ∷ []) u v w wrote later)
      (subst (λ (s : ℕ). IsGone s new.begun w) same.0 over)
  writes_after u v w result wrote (failed steps e is says later) =
      failed (steps ++ put frame ∷ []) e is (says_after steps says) (wrote_more steps (put frame ∷ []) u v w wrote later)

-- ---- why no more is written

is_due_by : (o : Option Fault) (b : Bool) → (if is_some o then false else b) ≡ true → o ≡ None
is_due_by None b is = refl
is_due_by (Some f) b is = absurd (true≢false (sym is))

is_open_by : (o : Option Fault) (b : Bool) → (if is_some o then false else b) ≡ true → b ≡ true
is_open_by None b is = is
is_open_by (Some f) b is = absurd (true≢false (sym is))

-- an answer that is due is held
pub held : (stream : ℕ) (r : Reply) (u : UnaryServer) → IsStuck stream u → r.stream ≡ stream → r.begun ≡ true
    → r.at < length r.content.items
    → (if is_some u.over then false else can_end (find r.stream (exchange_view u.exchange).streams)) ≡ true → IsHeld r u
held stream r u stuck same begun left is =
    elim (cases_lt 65536 (length u.wire.out)) [
      | inl more ↦ inl more
      | inr less ↦ inr (record {
        begun = begun;
        left = left;
        goes_on = is_due_by u.over _ is;
        takes = is_open_by u.over _ is;
        shut = subst (λ (n : ℕ). room_on (exchange_view u.exchange) (find n (exchange_view u.exchange).streams) ≡ 0) (sym same)
            (stuck (is_due_by u.over _ is) less);
      })
    ]

none_or : (o : Option Fault) (b : Bool) → (if is_some o then false else b) ≡ false → (o ≢ None) ⊎ (b ≡ false)
none_or None b is = inr is
none_or (Some f) b is = inl (λ none. true≢false (ap (λ (o : Option Fault). is_some o) none))

-- one that is not never will be written
pub over_by : (stream other : ℕ) (begun : Bool) (u v : UnaryServer) → other ≡ stream → begun ≡ true → v ≡ u
    → (u.over ≢ None) ⊎ (can_end (find other (exchange_view u.exchange).streams) ≡ false) → IsGone stream begun v
over_by stream other begun u v stream_is is same due =
    subst (λ (w : UnaryServer). IsGone stream begun w) (sym same)
    (subst (λ (b : Bool). IsGone stream b u) (sym is) (subst (λ (s : ℕ). IsGone s true u) stream_is due))

pub over : (stream other : ℕ) (begun : Bool) (u : UnaryServer) → other ≡ stream → begun ≡ true
    → (if is_some u.over then false else can_end (find other (exchange_view u.exchange).streams)) ≡ false → IsGone stream begun u
over stream other begun u stream_is is due =
    over_by stream other begun u u stream_is is refl (none_or u.over (can_end (find other (exchange_view u.exchange).streams)) due)

-- all content was written
pub all_of : (k : ℕ) (content : List ℕ) → length content ≤ k → take k content ≡ content
all_of k content long = take_all k content long

-- ---- the fields that begin an answer

abbrev answer_number : Result Answering Fault → ℕ
answer_number (Ok answering.Written) = 0
answer_number (Ok answering.Waits) = 1
answer_number (Ok answering.Gone) = 2
answer_number (Err e) = 3

-- they wait
pub after_waits : (old new : Reply) (u v : UnaryServer) → Begins old new u v (Ok answering.Waits) → Writes old new u v (Ok Part)
after_waits old new u v (written frame is heads wrote same at begun) =
    let no = ap (λ (r : Result Answering Fault). answer_number r) is in absurd (omega (arith, no))
after_waits old new u v (waits is same after more) =
    part [] refl (subst (λ (r : Reply). Says old r []) (sym same) (says_nothing old)) (wrote_same u v after) (inl more)
after_waits old new u v (begins.gone is same after over) =
    let no = ap (λ (r : Result Answering Fault). answer_number r) is in absurd (omega (arith, no))
after_waits old new u v (begins.failed e is same wrote) =
    let no = ap (λ (r : Result Answering Fault). answer_number r) is in absurd (omega (arith, no))

-- they never will be written
pub after_gone : (old new : Reply) (u v : UnaryServer) → old.begun ≡ false → Begins old new u v (Ok answering.Gone) → Writes old new u v (Ok Gone)
after_gone old new u v unbegun (written frame is heads wrote same at begun) =
    let no = ap (λ (r : Result Answering Fault). answer_number r) is in absurd (omega (arith, no))
after_gone old new u v unbegun (waits is same after more) =
    let no = ap (λ (r : Result Answering Fault). answer_number r) is in absurd (omega (arith, no))
after_gone old new u v unbegun (begins.gone is same after over) =
    gone [] refl (subst (λ (r : Reply). Says old r []) (sym same) (says_nothing old)) (wrote_same u v after)
    (subst (λ (b : Bool). IsGone old.stream b v) (sym (ap (λ (r : Reply). r.begun) same ∙ unbegun)) over)
after_gone old new u v unbegun (begins.failed e is same wrote) =
    let no = ap (λ (r : Result Answering Fault). answer_number r) is in absurd (omega (arith, no))

-- there was a fault
pub after_fault : (old new : Reply) (u v : UnaryServer) (e f : Fault) (result : Result Written Fault) → result ≡ Err f
    → Begins old new u v (Err e) → Writes old new u v result
after_fault old new u v e f result fault (written frame is heads wrote same at begun) =
    let no = ap (λ (r : Result Answering Fault). answer_number r) is in absurd (omega (arith, no))
after_fault old new u v e f result fault (waits is same after more) =
    let no = ap (λ (r : Result Answering Fault). answer_number r) is in absurd (omega (arith, no))
after_fault old new u v e f result fault (begins.gone is same after over) =
    let no = ap (λ (r : Result Answering Fault). answer_number r) is in absurd (omega (arith, no))
after_fault old new u v e f result fault (begins.failed g is same wrote) =
    failed [] f fault (subst (λ (r : Reply). Says old r []) (sym same) (says_nothing old)) wrote

-- they were written, and then what follows
pub after_written : (old mid new : Reply) (u v w : UnaryServer) (result : Result Written Fault) → old.begun ≡ false
    → Begins old mid u v (Ok answering.Written) → Writes mid new v w result → Writes old new u w result
after_written old mid new u v w result unbegun (written frame is heads wrote same at begun) writes =
    writes_after old mid new frame unbegun heads same at begun u v w result wrote writes
after_written old mid new u v w result unbegun (waits is same after more) writes =
    let no = ap (λ (r : Result Answering Fault). answer_number r) is in absurd (omega (arith, no))
after_written old mid new u v w result unbegun (begins.gone is same after over) writes =
    let no = ap (λ (r : Result Answering Fault). answer_number r) is in absurd (omega (arith, no))
after_written old mid new u v w result unbegun (begins.failed e is same wrote) writes =
    let no = ap (λ (r : Result Answering Fault). answer_number r) is in absurd (omega (arith, no))
