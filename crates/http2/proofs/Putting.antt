-- What each frame that is written does to a line.
use Rattle.std.proofs.Common.{◌≡◌, ◌≢◌, ◌≤◌, ◌<◌, ℕ, ◌+◌, ◌*◌, Some, true, false, List, [], ◌∷◌, ◌++◌, refl, sym, ap, ap₂, ◌∙◌, arith, append_assoc}
use Rattle.http2.specs.Frame.{IsFrame, Parts, parts_of, kind_of, flags_of, stream_of, payload_of, size_of, word_at, flow_of, increment_of, IsStream, window_by, is_ping_by}
use Rattle.http2.specs.Trail.{Line, put, Adds}
use Rattle.http2.proofs.Frames.{plain_data, data_by, other_data, other_flow, other_increment, this_increment, no_increment, same_window, finished_by, finished_is, other_finished, no_ping, this_ping}
use Rattle.http2.proofs.Keeping.{Puts, law_silent}

-- a frame by its parts
pub parts_are : (frame : List ℕ) (parts : Parts) → kind_of frame ≡ parts.kind → flags_of frame ≡ parts.flags
    → stream_of frame ≡ parts.stream → payload_of frame ≡ parts.payload → parts_of frame ≡ parts
parts_are frame parts kind flags stream payload =
    ap₂ (λ (k f : ℕ). record { kind = k; flags = f; stream = stream_of frame; payload = payload_of frame }) kind flags
    ∙ ap₂ (λ (s : ℕ) (p : List ℕ). record { kind = parts.kind; flags = parts.flags; stream = s; payload = p }) stream payload

-- a frame that changes no sum
pub silent_puts : (frame : List ℕ) (parts : Parts) (old new : Line) → IsFrame frame → parts_of frame ≡ parts
    → parts.kind ≢ 0 → parts.kind ≢ 8 → ((w : ℕ) → window_by parts.kind parts.payload w ≡ w)
    → is_ping_by parts.kind parts.flags ≡ false → new ≡ record old { out = old.out ++ frame } → Puts frame [] old new
silent_puts frame parts old new is are not_data not_update window ping after =
    let kind : kind_of frame ≡ parts.kind = ap (λ (p : Parts). p.kind) are in
    let flags : flags_of frame ≡ parts.flags = ap (λ (p : Parts). p.flags) are in
    let payload : payload_of frame ≡ parts.payload = ap (λ (p : Parts). p.payload) are in
    let flow : flow_of frame ≡ 0 = other_flow frame parts.kind kind not_data in
    let first : increment_of old.number frame ≡ 0 = other_increment old.number frame parts.kind kind not_update in
    let second : increment_of 0 frame ≡ 0 = other_increment 0 frame parts.kind kind not_update in
    rw after (record {
      is = is;
      number = refl;
      brings = other_data old.number frame parts.kind kind not_data;
      within = λ some. absurd (omega (arith, some, flow));
      unended = λ zero. absurd (not_data (sym kind ∙ zero));
      same_window = same_window frame parts.kind parts.payload kind payload window;
      rest = refl;
      data_in = refl;
      out = refl;
      window = refl;
      stream = refl;
      connection = refl;
      used = omega (arith, flow);
      stream_credit = omega (arith, first);
      connection_credit = omega (arith, second);
      finished = sym (other_finished old.finished frame parts.kind kind not_data);
      waits = sym (no_ping old.waits frame parts.kind parts.flags kind flags ping);
    })

-- data of the call, and the mark of the last of them
pub data_puts : (frame payload : List ℕ) (flags : ℕ) (old new : Line) → IsFrame frame → kind_of frame ≡ 0 → stream_of frame ≡ old.number
    → flags_of frame ≡ flags → payload_of frame ≡ payload → data_by 0 true flags payload ≡ payload → old.finished ≡ false
    → (0 < flow_of frame → (old.used + flow_of frame ≤ old.window + old.stream) × (old.used + flow_of frame ≤ 65535 + old.connection))
    → new ≡ record old { out = old.out ++ frame; used = old.used + flow_of frame; finished = finished_by 0 flags old.finished }
    → Puts frame payload old new
data_puts frame payload flags old new is kind stream flags_is payload_is plain going within after =
    let first : increment_of old.number frame ≡ 0 = other_increment old.number frame 0 kind (λ e. absurd (omega (arith, e))) in
    let second : increment_of 0 frame ≡ 0 = other_increment 0 frame 0 kind (λ e. absurd (omega (arith, e))) in
    rw after (record {
      is = is;
      number = refl;
      brings = plain_data old.number frame payload flags kind stream flags_is payload_is plain;
      within = within;
      unended = λ _. going;
      same_window = same_window frame 0 payload kind payload_is (λ w. refl);
      rest = refl;
      data_in = refl;
      out = refl;
      window = refl;
      stream = refl;
      connection = refl;
      used = refl;
      stream_credit = omega (arith, first);
      connection_credit = omega (arith, second);
      finished = sym (finished_is old.finished frame 0 flags kind flags_is);
      waits = sym (no_ping old.waits frame 0 flags kind flags_is refl);
    })

-- a ping
pub ping_puts : (frame payload : List ℕ) (mark : ℕ) (old new : Line) → IsFrame frame → kind_of frame ≡ 6 → flags_of frame ≡ 0
    → payload_of frame ≡ payload → word_at payload 0 * 4294967296 + word_at payload 4 ≡ mark
    → new ≡ record old { out = old.out ++ frame; waits = Some mark } → Puts frame [] old new
ping_puts frame payload mark old new is kind flags payload_is by after =
    let flow : flow_of frame ≡ 0 = other_flow frame 6 kind (λ e. absurd (omega (arith, e))) in
    let first : increment_of old.number frame ≡ 0 = other_increment old.number frame 6 kind (λ e. absurd (omega (arith, e))) in
    let second : increment_of 0 frame ≡ 0 = other_increment 0 frame 6 kind (λ e. absurd (omega (arith, e))) in
    rw after (record {
      is = is;
      number = refl;
      brings = other_data old.number frame 6 kind (λ e. absurd (omega (arith, e)));
      within = λ some. absurd (omega (arith, some, flow));
      unended = λ zero. absurd (omega (arith, kind, zero));
      same_window = same_window frame 6 payload kind payload_is (λ w. refl);
      rest = refl;
      data_in = refl;
      out = refl;
      window = refl;
      stream = refl;
      connection = refl;
      used = omega (arith, flow);
      stream_credit = omega (arith, first);
      connection_credit = omega (arith, second);
      finished = sym (other_finished old.finished frame 6 kind (λ e. absurd (omega (arith, e))));
      waits = sym (this_ping old.waits frame payload mark kind flags payload_is by);
    })

-- a window that is given back
pub update_puts : (frame payload : List ℕ) (old new : Line) → IsFrame frame → kind_of frame ≡ 8 → flags_of frame ≡ 0
    → payload_of frame ≡ payload
    → new ≡ record old {
      out = old.out ++ frame;
      stream_credit = old.stream_credit + increment_of old.number frame;
      connection_credit = old.connection_credit + increment_of 0 frame;
    } → Puts frame [] old new
update_puts frame payload old new is kind flags payload_is after =
    let flow : flow_of frame ≡ 0 = other_flow frame 8 kind (λ e. absurd (omega (arith, e))) in
    rw after (record {
      is = is;
      number = refl;
      brings = other_data old.number frame 8 kind (λ e. absurd (omega (arith, e)));
      within = λ some. absurd (omega (arith, some, flow));
      unended = λ zero. absurd (omega (arith, kind, zero));
      same_window = same_window frame 8 payload kind payload_is (λ w. refl);
      rest = refl;
      data_in = refl;
      out = refl;
      window = refl;
      stream = refl;
      connection = refl;
      used = omega (arith, flow);
      stream_credit = refl;
      connection_credit = refl;
      finished = sym (other_finished old.finished frame 8 kind (λ e. absurd (omega (arith, e))));
      waits = sym (no_ping old.waits frame 8 0 kind flags refl);
    })

-- a line by its bytes for the peer and what the peer may send
credits : (old : Line) (a b : List ℕ) (m n p q : ℕ) → a ≡ b → m ≡ n → p ≡ q
    → record old { out = a; stream_credit = m; connection_credit = p } ≡ record old { out = b; stream_credit = n; connection_credit = q }
credits old a b m n p q out stream connection = rw (out, stream, connection) refl

-- this is given back to the stream, and all of it to the connection
pub both_given : (connection stream : List ℕ) (all owed : ℕ) (old new : Line) → IsFrame connection → IsFrame stream → IsStream old.number
    → kind_of connection ≡ 8 → kind_of stream ≡ 8 → flags_of connection ≡ 0 → flags_of stream ≡ 0
    → stream_of connection ≡ 0 → stream_of stream ≡ old.number
    → word_at (payload_of connection) 0 ≡ all → word_at (payload_of stream) 0 ≡ owed → all < 2147483648 → owed < 2147483648
    → size_of connection ≡ 4 → size_of stream ≡ 4
    → new ≡ record old {
      out = old.out ++ (connection ++ stream);
      stream_credit = old.stream_credit + owed;
      connection_credit = old.connection_credit + all;
    } → Adds (put stream ∷ put connection ∷ []) old new
both_given connection stream all owed old new first second live a b fa fb on_a on_b word_a word_b many few four_a four_b after =
    let to_a : increment_of 0 connection ≡ all = this_increment 0 connection all a on_a four_a word_a many in
    let not_a : increment_of old.number connection ≡ 0 = no_increment old.number connection a (λ e. absurd (omega (arith, e, on_a, live.0))) in
    let to_b : increment_of old.number stream ≡ owed = this_increment old.number stream owed b on_b four_b word_b few in
    let not_b : increment_of 0 stream ≡ 0 = no_increment 0 stream b (λ e. absurd (omega (arith, e, on_b, live.0))) in
    let mid : Line = record old {
      out = old.out ++ connection;
      stream_credit = old.stream_credit + increment_of old.number connection;
      connection_credit = old.connection_credit + increment_of 0 connection;
    } in
    let last : new ≡ record mid {
      out = mid.out ++ stream;
      stream_credit = mid.stream_credit + increment_of mid.number stream;
      connection_credit = mid.connection_credit + increment_of 0 stream;
    } = after ∙ credits old _ _ _ _ _ _ (sym (append_assoc old.out connection stream)) (omega (arith, to_b, not_a)) (omega (arith, to_a, not_b)) in
    λ trail came sent took gave law.
    law_silent (put connection ∷ trail) came sent took gave mid new stream
    (update_puts stream (payload_of stream) mid new second b fb refl last)
    (law_silent trail came sent took gave old mid connection (update_puts connection (payload_of connection) old mid first a fa refl refl) law)

-- this is given back to the connection alone
pub one_given : (connection : List ℕ) (all : ℕ) (old new : Line) → IsFrame connection → IsStream old.number
    → kind_of connection ≡ 8 → flags_of connection ≡ 0 → stream_of connection ≡ 0
    → word_at (payload_of connection) 0 ≡ all → all < 2147483648 → size_of connection ≡ 4
    → new ≡ record old { out = old.out ++ connection; connection_credit = old.connection_credit + all }
    → Adds (put connection ∷ []) old new
one_given connection all old new is live kind flags on word many four after =
    let to : increment_of 0 connection ≡ all = this_increment 0 connection all kind on four word many in
    let not : increment_of old.number connection ≡ 0 = no_increment old.number connection kind (λ e. absurd (omega (arith, e, on, live.0))) in
    let last : new ≡ record old {
      out = old.out ++ connection;
      stream_credit = old.stream_credit + increment_of old.number connection;
      connection_credit = old.connection_credit + increment_of 0 connection;
    } = after ∙ credits old _ _ _ _ _ _ refl (omega (arith, not)) (ap (λ (n : ℕ). old.connection_credit + n) (sym to)) in
    λ trail came sent took gave law.
    law_silent trail came sent took gave old new connection (update_puts connection (payload_of connection) old new is kind flags refl last) law
