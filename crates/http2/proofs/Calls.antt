-- What is written does to a call.
use Rattle.std.proofs.Common.{◌≡◌, ◌≢◌, ℕ, ◌==◌, ◌%◌, Bool, true, false, not, if◌then◌else◌, Option, Some, None, is_some, Result, Ok, Err, List, [], ◌∷◌, ◌++◌, refl, sym, ap, ap₂, ◌∙◌, inl, inr, true≢false, subst, arith, append_assoc, append-nil, take, OnOk, OnErr}
use Rattle.std.proofs.lemmas.Bool.{ne_eqb}
use Rattle.http2.specs.Frame.{Parts, parts_of, kind_of, payload_of, is_acknowledgement}
use Rattle.http2.specs.Trail.{Step, got, put, is_reply, IsOwn, own_data, own_window, own_ping, own_reset, own_away, move_data, move_window, move_ping, AreMoves, AreOwn, AreWritten, connected, Begins, Adds, Unread}
use Rattle.hpack.specs.Field.{Line as HeaderLine}
use Rattle.hpack.specs.Table.{Table}
use Rattle.http2.specs.Control.{ControlValue, Left, Next, goes_on, is_over, left_by, fields_came}
use Rattle.http2.specs.Message.{Told}
use Rattle.http2.specs.declared.control.Stage.{Stage}
use Rattle.http2.specs.Call.{replies_to, owed, replied, AreReplies, Follows, Ends, by_frame, by_fault, by_client, by_memory, IsAfter}
use Rattle.http2.specs.declared.end.End.{End}
use Rattle.http2.specs.declared.fault.Fault.{Fault}
use Rattle.http2.specs.declared.frame.Frame.{Frame}
use Rattle.http2.specs.declared.pipe.Pipe.{Pipe}
use Rattle.http2.specs.Lines.{line}
use Rattle.std.specs.declared.alloc.AllocError.{AllocError}

abbrev is_cons : {X : Type 0} → List X → Bool
is_cons [] = false
is_cons (x ∷ xs) = true

cons_nil : {X : Type 0} {x : X} {xs : List X} → (x ∷ xs) ≡ [] → ⊥
cons_nil e = true≢false (ap (λ l. is_cons l) e)

-- an option that has nothing
pub none_of : {X : Type 0} → (o : Option X) → false ≡ is_some o → o ≡ None
none_of None e = refl
none_of (Some x) e = absurd (true≢false (sym e))

pub none_some : {X : Type 0} → {x : X} → None ≡ Some x → ⊥
none_some e = true≢false (sym (ap (λ o. is_some o) e))

-- whether a frame acknowledges, by its type and flags
abbrev pub reply_by : ℕ → ℕ → Bool
reply_by kind flags = if kind == 4 then (flags % 2) == 1 else if kind == 6 then (flags % 2) == 1 else false

pub reply_of : (frame : List ℕ) (parts : Parts) (b : Bool) → parts_of frame ≡ parts → reply_by parts.kind parts.flags ≡ b → is_reply frame ≡ b
reply_of frame parts b is by = ap (λ (p : Parts). reply_by p.kind p.flags) is ∙ by

-- a frame of another type acknowledges nothing
pub other_reply : (frame : List ℕ) (kind : ℕ) → kind_of frame ≡ kind → (kind ≡ 4 → ⊥) → (kind ≡ 6 → ⊥) → is_reply frame ≡ false
other_reply frame kind is four six =
    ap₂ (λ (a b : Bool). if a then is_acknowledgement frame else if b then is_acknowledgement frame else false)
    (ne_eqb (kind_of frame) 4 (λ k. four (sym is ∙ k))) (ne_eqb (kind_of frame) 6 (λ k. six (sym is ∙ k)))

-- nor does one that is written on the client's own account
pub own_quiet : (frame : List ℕ) → IsOwn frame → is_reply frame ≡ false
own_quiet frame (own_data kind stream) = other_reply frame 0 kind (λ e. absurd (omega (arith, e))) (λ e. absurd (omega (arith, e)))
own_quiet frame (own_window kind flags) = other_reply frame 8 kind (λ e. absurd (omega (arith, e))) (λ e. absurd (omega (arith, e)))
own_quiet frame (own_ping kind flags stream) = ap₂ (λ (k f : ℕ). reply_by k f) kind flags
own_quiet frame (own_reset is) = ap (λ (p : Parts). reply_by p.kind p.flags) is
own_quiet frame (own_away kind stream payload) = other_reply frame 7 kind (λ e. absurd (omega (arith, e))) (λ e. absurd (omega (arith, e)))

-- a frame that was written, if there was memory for it, on the client's own account
pub step_of : (r : Result (Unit {0}) AllocError) (old new : Pipe) (parts : Parts)
    → OnOk r ((frame : List ℕ) × (parts_of frame ≡ parts) × (new.out ≡ old.out ++ frame) × Adds (put frame ∷ []) (line old) (line new))
    → OnErr r (new ≡ old) → ((frame : List ℕ) → parts_of frame ≡ parts → IsOwn frame)
    → (steps : List Step) × AreOwn steps × Adds steps (line old) (line new)
step_of (Ok x) old new parts written same own = (put written.0 ∷ [], (own written.0 written.1, tt), written.3)
step_of (Err e) old new parts written same own = ([], tt, rw same (λ trail came sent took gave law. law))

-- moves on stream 1 are a client's own
moves_own : (steps : List Step) → AreMoves 1 steps → AreOwn steps
moves_own [] moves = tt
moves_own (got frame ∷ steps) moves = absurd moves
moves_own (put frame ∷ steps) (move_data kind stream, moves) = (own_data kind stream, moves_own steps moves)
moves_own (put frame ∷ steps) (move_window kind flags, moves) = (own_window kind flags, moves_own steps moves)
moves_own (put frame ∷ steps) (move_ping kind flags stream, moves) = (own_ping kind flags stream, moves_own steps moves)

pub own_of : (n : ℕ) (steps : List Step) → n ≡ 1 → AreMoves n steps → AreOwn steps
own_of n steps one moves = moves_own steps (subst (λ (k : ℕ). AreMoves k steps) one moves)

-- nothing changed
pub same_law : (old new : Pipe) → new ≡ old → Adds [] (line old) (line new)
same_law old new same = rw same (λ trail came sent took gave law. law)

-- GOAWAY that names no stream
pub away_own : (frame payload : List ℕ) → take 4 payload ≡ 0 ∷ 0 ∷ 0 ∷ 0 ∷ []
    → parts_of frame ≡ record { kind = 7; flags = 0; stream = 0; payload = payload } → IsOwn frame
away_own frame payload none is =
    own_away (ap (λ (p : Parts). p.kind) is) (ap (λ (p : Parts). p.stream) is) (ap (λ (p : Parts). take 4 p.payload) is ∙ none)

-- what is written behind the opening
written_append : (xs ys : List Step) → AreWritten xs → AreWritten ys → AreWritten (xs ++ ys)
written_append [] ys x y = y
written_append (got frame ∷ xs) ys x y = written_append xs ys x y
written_append (put frame ∷ xs) ys (is, x) y = (is, written_append xs ys x y)

own_written : (steps : List Step) → AreOwn steps → AreWritten steps
own_written [] own = tt
own_written (got frame ∷ steps) own = absurd own
own_written (put frame ∷ steps) (is, own) = (inl is, own_written steps own)

replies_written : (steps : List Step) (parts : List Parts) → AreReplies steps parts → AreWritten steps
replies_written [] parts are = tt
replies_written (got frame ∷ steps) parts are = absurd are
replies_written (put frame ∷ []) parts (is, parts_is, none) = (inr is, tt)
replies_written (put frame ∷ (s ∷ steps)) parts (is, parts_is, none) = absurd (cons_nil none)

begins_more : (first : List ℕ) (steps trail : List Step) → AreWritten steps → Begins first trail → Begins first (steps ++ trail)
begins_more first steps trail written begins = record {
  later = steps ++ begins.later;
  whole = ap (λ (t : List Step). steps ++ t) begins.whole ∙ sym (append_assoc steps begins.later (put first ∷ connected));
  written = written_append steps begins.later written begins.written;
}

pub begins_own : (first : List ℕ) (steps trail : List Step) → AreOwn steps → Begins first trail → Begins first (steps ++ trail)
begins_own first steps trail own = begins_more first steps trail (own_written steps own)

pub begins_replies : (first : List ℕ) (steps trail : List Step) (parts : List Parts) → AreReplies steps parts → Begins first trail
    → Begins first (steps ++ trail)
begins_replies first steps trail parts are = begins_more first steps trail (replies_written steps parts are)

pub begins_got : (first frame : List ℕ) (trail : List Step) → Begins first trail → Begins first (got frame ∷ trail)
begins_got first frame trail = begins_more first (got frame ∷ []) trail tt

-- quiet steps change nothing for the call
pub quiet_follows : (steps trail : List Step) (next : Next) → AreOwn steps → Follows trail next → Follows (steps ++ trail) next
quiet_follows [] trail next quiet follows = follows
quiet_follows (got frame ∷ steps) trail next quiet follows = absurd quiet
quiet_follows (put frame ∷ steps) trail next (is, quiet) follows = quiet_follows steps trail next quiet follows

pub quiet_owed : (steps trail : List Step) → AreOwn steps → owed (steps ++ trail) ≡ owed trail
quiet_owed [] trail quiet = refl
quiet_owed (got frame ∷ steps) trail quiet = absurd quiet
quiet_owed (put frame ∷ steps) trail (is, quiet) = quiet_owed steps trail quiet

pub quiet_replied : (steps trail : List Step) → AreOwn steps → replied (steps ++ trail) ≡ replied trail
quiet_replied [] trail quiet = refl
quiet_replied (got frame ∷ steps) trail quiet = absurd quiet
quiet_replied (put frame ∷ steps) trail (is, quiet) =
    ap (λ (b : Bool). replied (steps ++ trail) ++ (if b then parts_of frame ∷ [] else [])) (own_quiet frame is)
    ∙ append-nil (replied (steps ++ trail)) ∙ quiet_replied steps trail quiet

quiet_ends : (steps trail : List Step) (u : Unread) (e : End) (left : Left) → AreOwn steps → Ends trail u e left
    → Ends (steps ++ trail) u e left
quiet_ends steps trail u e left quiet (by_frame follows) = by_frame (quiet_follows steps trail (is_over e left) quiet follows)
quiet_ends steps trail u e left quiet (by_fault c follows stays f is stops) =
    by_fault c (quiet_follows steps trail (goes_on c) quiet follows) stays f is stops
quiet_ends steps trail u e left quiet (by_client c follows stays is) =
    by_client c (quiet_follows steps trail (goes_on c) quiet follows) stays is
quiet_ends steps trail u e left quiet (by_memory is) = by_memory is

pub quiet_after : (first : List ℕ) (steps trail : List Step) (control : ControlValue) (end : Option End) (u : Unread) → AreOwn steps
    → IsAfter first trail control end u → IsAfter first (steps ++ trail) control end u
quiet_after first steps trail control end u quiet is = record {
  begins = begins_own first steps trail quiet is.begins;
  going = λ none. quiet_follows steps trail (goes_on control) quiet (is.going none);
  answered = λ none. quiet_replied steps trail quiet ∙ is.answered none ∙ sym (quiet_owed steps trail quiet);
  over = λ e ends. quiet_ends steps trail u e (left_by control) quiet (is.over e ends);
}

-- what is unread counts for nothing while the call goes on
pub going_after : (first : List ℕ) (trail : List Step) (control : ControlValue) (end : Option End) (u v : Unread) → end ≡ None
    → IsAfter first trail control end u → IsAfter first trail control end v
going_after first trail control end u v none is = record {
  begins = is.begins;
  going = is.going;
  answered = is.answered;
  over = λ e some. absurd (none_some (sym none ∙ some));
}

-- a call that goes on
pub is_going : (first : List ℕ) (trail : List Step) (control : ControlValue) (end : Option End) (u : Unread) → end ≡ None
    → Begins first trail → Follows trail (goes_on control) → replied trail ≡ owed trail → IsAfter first trail control end u
is_going first trail control end u none begins follows answered = record {
  begins = begins;
  going = λ _. follows;
  answered = λ _. answered;
  over = λ e some. absurd (none_some (sym none ∙ some));
}

-- why a call is over, if it is
abbrev EndsIf : List Step → Unread → Left → Option End → Type 0
EndsIf trail u left None = ⊥
EndsIf trail u left (Some e) = Ends trail u e left

-- a call that is over
pub is_ended : (first : List ℕ) (trail : List Step) (control : ControlValue) (end : Option End) (u : Unread) (e : End) → end ≡ Some e
    → Begins first trail → Ends trail u e (left_by control) → IsAfter first trail control end u
is_ended first trail control end u e some begins ends = record {
  begins = begins;
  going = λ none. absurd (none_some (sym none ∙ some));
  answered = λ none. absurd (none_some (sym none ∙ some));
  over = λ f other. subst (λ (o : Option End). EndsIf trail u (left_by control) o) (sym some ∙ other) ends;
}

-- acknowledgements
pub replies_follow : (steps trail : List Step) (parts : List Parts) (next : Next) → AreReplies steps parts → Follows trail next
    → Follows (steps ++ trail) next
replies_follow [] trail parts next are follows = follows
replies_follow (got frame ∷ steps) trail parts next are follows = absurd are
replies_follow (put frame ∷ []) trail parts next are follows = follows
replies_follow (put frame ∷ (s ∷ steps)) trail parts next (is, parts_is, none) follows = absurd (cons_nil none)

pub replies_owed : (steps trail : List Step) (parts : List Parts) → AreReplies steps parts → owed (steps ++ trail) ≡ owed trail
replies_owed [] trail parts are = refl
replies_owed (got frame ∷ steps) trail parts are = absurd are
replies_owed (put frame ∷ []) trail parts are = refl
replies_owed (put frame ∷ (s ∷ steps)) trail parts (is, parts_is, none) = absurd (cons_nil none)

pub replies_replied : (steps trail : List Step) (parts : List Parts) → AreReplies steps parts
    → replied (steps ++ trail) ≡ replied trail ++ parts
replies_replied [] trail parts are = sym (append-nil (replied trail)) ∙ ap (λ (ps : List Parts). replied trail ++ ps) (sym are)
replies_replied (got frame ∷ steps) trail parts are = absurd are
replies_replied (put frame ∷ []) trail parts (is, parts_is, none) =
    ap (λ (b : Bool). replied trail ++ (if b then parts_of frame ∷ [] else [])) is
    ∙ ap (λ (ps : List Parts). replied trail ++ ps) (sym parts_is)
replies_replied (put frame ∷ (s ∷ steps)) trail parts (is, parts_is, none) = absurd (cons_nil none)

-- what a frame is answered, by its type
abbrev pub replies_by : ℕ → Bool → List ℕ → List Parts
replies_by kind acknowledges payload =
    if (if kind == 4 then not acknowledges else false)
    then record { kind = 4; flags = 1; stream = 0; payload = [] } ∷ []
    else if (if kind == 6 then not acknowledges else false)
    then record { kind = 6; flags = 1; stream = 0; payload = payload } ∷ []
    else []

same_if : (b : Bool) → (if b then false else false) ≡ false
same_if true = refl
same_if false = refl

pub no_reply_to : (frame : List ℕ) → is_acknowledgement frame ≡ true → replies_to frame ≡ []
no_reply_to frame is = ap (λ (a : Bool). replies_by (kind_of frame) a (payload_of frame)) is
    ∙ ap₂ (λ (a b : Bool). if a then record { kind = 4; flags = 1; stream = 0; payload = [] } ∷ [] else if b then record { kind = 6; flags = 1; stream = 0; payload = payload_of frame } ∷ [] else [])
    (same_if (kind_of frame == 4)) (same_if (kind_of frame == 6))

pub no_reply_by : (frame : List ℕ) (kind : ℕ) → kind_of frame ≡ kind → kind ≢ 4 → kind ≢ 6 → replies_to frame ≡ []
no_reply_by frame kind is four six =
    ap₂ (λ (a b : Bool). if (if a then not (is_acknowledgement frame) else false) then record { kind = 4; flags = 1; stream = 0; payload = [] } ∷ [] else if (if b then not (is_acknowledgement frame) else false) then record { kind = 6; flags = 1; stream = 0; payload = payload_of frame } ∷ [] else [])
    (ne_eqb (kind_of frame) 4 (λ k. four (sym is ∙ k))) (ne_eqb (kind_of frame) 6 (λ k. six (sym is ∙ k)))

pub reply_to : (frame : List ℕ) (kind : ℕ) → kind_of frame ≡ kind → is_acknowledgement frame ≡ false
    → replies_to frame ≡ replies_by kind false (payload_of frame)
reply_to frame kind is not_one = ap₂ (λ (k : ℕ) (a : Bool). replies_by k a (payload_of frame)) is not_one

-- the bytes of a frame that was found
abbrev pub found_bytes : Result (Option Frame) Fault → List ℕ
found_bytes (Ok (Some frame)) = frame.bytes.items
found_bytes (Ok None) = []
found_bytes (Err e) = []

-- an error's promise
pub on_err : {T E P : Type 0} → (r : Result T E) → P → OnErr r P
on_err (Ok x) p = tt
on_err (Err e) p = p

-- fields that came, by equal parts
pub fields_next : (stage : Stage) (block : List ℕ) (weight : ℕ) (table : Table) (left : Option ℕ) (told : Told) (last other : Bool) (o p : Option (List HeaderLine))
    → block ≡ [] → last ≡ other → o ≡ p
    → fields_came (record { stage = stage; unfinished = None; block = block; weight = weight; table = table; left = left; told = told }) last o
    ≡ fields_came (record { stage = stage; unfinished = None; block = []; weight = weight; table = table; left = left; told = told }) other p
fields_next stage block weight table left told last other o p none same list = rw (none, same, list) refl
