-- What was served is reported by the turns so far: one turn more.
use Rattle.std.proofs.Common.{◌≡◌, ◌⊎◌, ◌↔◌, inl, inr, ℕ, ◌+◌, ◌<◌, ◌==◌, min, max, Bool, true, false, true≢false, Option, Some, None, List, [], ◌∷◌, ◌++◌, length, refl, ap, ap₂, sym, subst, ◌∙◌, arith, append_assoc, append-nil, length-append, if◌then◌else◌}
use Rattle.std.proofs.lemmas.Bool.{ne_eqb}
use Rattle.std.proofs.lemmas.List.Concat.{flat_map-append}
use Rattle.std.proofs.lemmas.List.Elements.{filter-append}
use Rattle.std.specs.List.{last_or}
use Rattle.proto_wire.specs.Values.{last_of}
use Rattle.xds_wire.specs.Frames.{frame_of, frames_of}
use Rattle.xds_wire.specs.Discovery.{RequestMessage}
use Rattle.ads.specs.Control.{ServedValue, ResourceValue, IsAck, IsNack, IsReply, Sends, none, sent, too_long, too_many, Advances, at_last, next, Serves, first, ack, nack, ignored, advanced, recorded}
use Rattle.ads.specs.Serve.{Turn, answers_in, responses_in, numbers_in, served_of, IsTurn}

-- ---- lists of turns

last_put : (d : Option ℕ) (xs : List ℕ) (n : ℕ) → last_or d (xs ++ n ∷ []) ≡ Some n
last_put d [] n = refl
last_put d (x ∷ xs) n = last_put (Some x) xs n

pub responses_put : (turns : List Turn) (t : Turn) → responses_in (turns ++ t ∷ []) ≡ responses_in turns ++ t.responses
responses_put turns t =
    flat_map-append (λ (t : Turn). t.responses) turns (t ∷ [])
    ∙ ap (λ xs. responses_in turns ++ xs) (append-nil t.responses)

numbers_put : (turns : List Turn) (t : Turn) → numbers_in (turns ++ t ∷ []) ≡ numbers_in turns ++ t.numbers
numbers_put turns t =
    flat_map-append (λ (t : Turn). t.numbers) turns (t ∷ [])
    ∙ ap (λ xs. numbers_in turns ++ xs) (append-nil t.numbers)

-- ---- what was served

abbrev served : ℕ → ℕ → Option ℕ → Option ℕ → ServedValue
served c s l a = record { current = c; sent = s; last = l; acknowledged = a }

-- one turn more, by its own answers, responses and numbers
pub served_put : (snapshots : List (List ResourceValue)) (before earlier : List Turn) (t : Turn) (k : ℕ) (s : ServedValue)
    → length (answers_in (t ∷ [])) ≡ k
    → s.current ≡ min (length (answers_in (before ++ earlier)) + k + 1) (max (length snapshots) 1)
    → s.sent ≡ length (responses_in (before ++ earlier)) + length t.responses
    → s.last ≡ (if length (responses_in earlier) + length t.responses == 0 then None
    else Some (length (responses_in (before ++ earlier)) + length t.responses))
    → s.acknowledged ≡ last_of (numbers_in (before ++ earlier) ++ t.numbers)
    → s ≡ served_of snapshots before (earlier ++ t ∷ [])
served_put snapshots before earlier t k s one c n l a =
    let all : before ++ (earlier ++ t ∷ []) ≡ (before ++ earlier) ++ t ∷ [] = sym (append_assoc before earlier (t ∷ [])) in
    let answers : length (answers_in (before ++ (earlier ++ t ∷ []))) ≡ length (answers_in (before ++ earlier)) + k =
    ap (λ ts. length (answers_in ts)) all
    ∙ ap (λ (ts : List Turn). length ts) (filter-append (λ (t : Turn). t.is_answer) (before ++ earlier) (t ∷ []))
    ∙ length-append (answers_in (before ++ earlier)) (answers_in (t ∷ []))
    ∙ ap (λ m. length (answers_in (before ++ earlier)) + m) one in
    let count : length (responses_in (before ++ (earlier ++ t ∷ [])))
    ≡ length (responses_in (before ++ earlier)) + length t.responses =
    ap (λ ts. length (responses_in ts)) all
    ∙ ap (λ (xs : List (List ℕ)). length xs) (responses_put (before ++ earlier) t)
    ∙ length-append (responses_in (before ++ earlier)) t.responses in
    let here : length (responses_in (earlier ++ t ∷ [])) ≡ length (responses_in earlier) + length t.responses =
    ap (λ (xs : List (List ℕ)). length xs) (responses_put earlier t)
    ∙ length-append (responses_in earlier) t.responses in
    let numbers : numbers_in (before ++ (earlier ++ t ∷ [])) ≡ numbers_in (before ++ earlier) ++ t.numbers =
    ap numbers_in all ∙ numbers_put (before ++ earlier) t in
    ap₂ (λ x y. served x y s.last s.acknowledged)
    (c ∙ ap (λ m. min (m + 1) (max (length snapshots) 1)) (sym answers)) (n ∙ sym count)
    ∙ ap₂ (λ x y. served (served_of snapshots before (earlier ++ t ∷ [])).current
    (served_of snapshots before (earlier ++ t ∷ [])).sent x y)
    (l ∙ ap₂ (λ p q. if p == 0 then None else Some q) (sym here) (sym count))
    (a ∙ ap last_of (sym numbers))

-- ---- what one call to send comes to

-- at most one response, and what is counted after it
pub record Sending (old new : ServedValue) (replies : List ℕ) : Type 0 where
  pub responses : List (List ℕ)
  pub frames : replies ≡ frames_of responses
  pub current : new.current ≡ old.current
  pub acknowledged : new.acknowledged ≡ old.acknowledged
  pub sent : new.sent ≡ old.sent + length responses
  pub last : ((length responses ≡ 0) × (new.last ≡ old.last))
      ⊎ ((0 < length responses) × (new.last ≡ Some (old.sent + length responses)))

sending_none : (old new : ServedValue) (replies : List ℕ) → replies ≡ [] → new ≡ old → Sending old new replies
sending_none old new replies nothing same = record {
  responses = [];
  frames = nothing;
  current = ap (λ (s : ServedValue). s.current) same;
  acknowledged = ap (λ (s : ServedValue). s.acknowledged) same;
  sent = ap (λ (s : ServedValue). s.sent) same ∙ omega arith;
  last = inl (refl, ap (λ (s : ServedValue). s.last) same);
}

sending : (snapshots : List (List ResourceValue)) (names : List (List ℕ)) (old : ServedValue) (replies : List ℕ)
    (new : ServedValue) (ends : Bool) → Sends snapshots names old replies new ends → Sending old new replies
sending snapshots names old replies new ends (none lacks nothing same stops) = sending_none old new replies nothing same
sending snapshots names old replies new ends (sent snapshot response message there few is written short frame same stops) =
    record {
      responses = message ∷ [];
      frames = frame ∙ sym (append-nil (frame_of message));
      current = ap (λ (s : ServedValue). s.current) same;
      acknowledged = ap (λ (s : ServedValue). s.acknowledged) same;
      sent = ap (λ (s : ServedValue). s.sent) same;
      last = inr (omega arith, ap (λ (s : ServedValue). s.last) same);
    }
sending snapshots names old replies new ends
    (too_long snapshot response message there few is written long nothing same stops) =
    sending_none old new replies nothing same
sending snapshots names old replies new ends (too_many snapshot there many nothing same stops) =
    sending_none old new replies nothing same

-- the last response on the stream, after those of a turn
last_after : (r s k : ℕ) (old new : Option ℕ) → old ≡ (if r == 0 then None else Some s)
    → ((k ≡ 0) × (new ≡ old)) ⊎ ((0 < k) × (new ≡ Some (s + k)))
    → new ≡ (if r + k == 0 then None else Some (s + k))
last_after r s k old new is (inl (zero', same)) =
    let first : r + k ≡ r = omega arith in
    let second : s + k ≡ s = omega arith in
    rw (first, second) (same ∙ is)
last_after r s k old new is (inr (some, same)) =
    rw (ne_eqb (r + k) 0 (λ none. absurd (omega (arith, none, some)))) same

-- ---- one turn

pub record OneTurn (snapshots : List (List ResourceValue)) (before earlier : List Turn) (request : RequestMessage)
    (replies numbers : List ℕ) (after : ServedValue) (ends : Bool) : Type 0 where
  pub turn : Turn
  pub request_is : turn.request ≡ request
  pub is_turn : IsTurn snapshots before earlier turn ends
  pub replies_are : replies ≡ frames_of turn.responses
  pub numbers_are : numbers ≡ turn.numbers
  pub after_is : after ≡ served_of snapshots before (earlier ++ turn ∷ [])

-- a reply needs a response on the stream
reply_behind : (last : Option ℕ) (s : ServedValue) (r : RequestMessage) → s.last ≡ last → last ≡ None → IsReply s r → ⊥
reply_behind None s r is lacks reply = absurd (rw is at reply.nonce)
reply_behind (Some n) s r is lacks reply = absurd cc

module _ (snapshots : List (List ResourceValue)) (before earlier : List Turn) (request : RequestMessage)
    (replies numbers : List ℕ) (after : ServedValue) (ends : Bool) where
  turn_of : (is_answer : Bool) (k : ℕ) (old : ServedValue)
      → Serves snapshots request (served_of snapshots before earlier) replies numbers after ends
      → ((is_answer ≡ true) ↔ (IsAck (served_of snapshots before earlier) request
      ⊎ IsNack (served_of snapshots before earlier) request))
      → (length (if is_answer then request ∷ [] else []) ≡ k)
      → (sends : Sending old after replies)
      → old.current ≡ min (length (answers_in (before ++ earlier)) + k + 1) (max (length snapshots) 1)
      → old.sent ≡ (served_of snapshots before earlier).sent
      → old.last ≡ (served_of snapshots before earlier).last
      → old.acknowledged ≡ last_of (numbers_in (before ++ earlier) ++ numbers)
      → OneTurn snapshots before earlier request replies numbers after ends
  turn_of is_answer k old serves answers one sends c n l a =
      let turn : Turn = record {
        request = request;
        is_answer = is_answer;
        responses = sends.responses;
        numbers = numbers;
      } in
      let own : length (answers_in (turn ∷ [])) ≡ k = count is_answer turn refl ∙ one in record {
        turn = turn;
        request_is = refl;
        is_turn = record {
          after = after;
          serves = subst
              (λ t. Serves snapshots request (served_of snapshots before earlier) t numbers after ends) sends.frames serves;
          answers = answers;
        };
        replies_are = sends.frames;
        numbers_are = refl;
        after_is = served_put snapshots before earlier turn k after own (sends.current ∙ c)
            (sends.sent ∙ ap (λ m. m + length sends.responses) n)
            (last_after (length (responses_in earlier)) (length (responses_in (before ++ earlier)))
            (length sends.responses) old.last after.last l
            (subst (λ m. ((length sends.responses ≡ 0) × (after.last ≡ old.last))
            ⊎ ((0 < length sends.responses) × (after.last ≡ Some (m + length sends.responses)))) n sends.last))
            (sends.acknowledged ∙ a);
      }
    where
      count : (b : Bool) (t : Turn) → t.is_answer ≡ b
          → length (answers_in (t ∷ [])) ≡ length (if b then request ∷ [] else [])
      count true t is = rw is refl
      count false t is = rw is refl

  -- no answer
  idle : Serves snapshots request (served_of snapshots before earlier) replies numbers after ends
      → (IsReply (served_of snapshots before earlier) request → IsAck (served_of snapshots before earlier) request
      ⊎ IsNack (served_of snapshots before earlier) request → ⊥)
      → numbers ≡ [] → Sending (served_of snapshots before earlier) after replies
      → OneTurn snapshots before earlier request replies numbers after ends
  idle serves none' nothing sends =
      turn_of false 0 (served_of snapshots before earlier) serves (
        (λ never. absurd (true≢false (sym never))),
        (λ reported. absurd (elim reported [
          | inl is ↦ none' is.reply (inl is)
          | inr is ↦ none' is.reply (inr is)
        ])),
      )
      refl sends (ap (λ m. min (m + 1) (max (length snapshots) 1)) (omega arith)) refl refl
      (ap last_of (sym (append-nil (numbers_in (before ++ earlier))) ∙ ap (λ xs. numbers_in (before ++ earlier) ++ xs) (sym nothing)))

  -- an answer, behind which the next snapshot is current
  answered : (old : ServedValue)
      → Serves snapshots request (served_of snapshots before earlier) replies numbers after ends
      → IsAck (served_of snapshots before earlier) request ⊎ IsNack (served_of snapshots before earlier) request
      → old.current ≡ (served_of snapshots before earlier).current
      → old.sent ≡ (served_of snapshots before earlier).sent
      → old.last ≡ (served_of snapshots before earlier).last
      → old.acknowledged ≡ last_of (numbers_in (before ++ earlier) ++ numbers)
      → Advances snapshots request.resource_names old replies after ends
      → OneTurn snapshots before earlier request replies numbers after ends
  answered old serves is c n l a (at_last above nothing same stops) =
      turn_of true 1 old serves ((λ e. is), (λ reported. refl)) refl (sending_none old after replies nothing same)
      (omega (arith, c, above)) n l a
  answered old serves is c n l a (next below sends) =
      turn_of true 1 (advanced old) serves ((λ e. is), (λ reported. refl)) refl
      (sending snapshots request.resource_names (advanced old) replies after ends sends)
      (omega (arith, c, below)) n l a

  pub one_turn : Serves snapshots request (served_of snapshots before earlier) replies numbers after ends
      → OneTurn snapshots before earlier request replies numbers after ends
  one_turn serves = by serves
    where
      by : Serves snapshots request (served_of snapshots before earlier) replies numbers after ends
          → OneTurn snapshots before earlier request replies numbers after ends
      by (first is sends nothing) =
          idle serves (λ reply reported. reply_behind _ (served_of snapshots before earlier) request refl is.last reply) nothing
          (sending snapshots request.resource_names (served_of snapshots before earlier) replies after ends sends)
      by (ack is advances reported) =
          answered (recorded (served_of snapshots before earlier)) serves (inl is) refl refl refl
          (sym (last_put None (numbers_in (before ++ earlier)) (served_of snapshots before earlier).current)
          ∙ ap (λ xs. last_of (numbers_in (before ++ earlier) ++ xs)) (sym reported)) advances
      by (nack is advances nothing) =
          answered (served_of snapshots before earlier) serves (inr is) refl refl refl
          (ap last_of (sym (append-nil (numbers_in (before ++ earlier))) ∙ ap (λ xs. numbers_in (before ++ earlier) ++ xs) (sym nothing))) advances
      by (ignored a b d nothing same stops none') =
          idle serves (λ reply reported. elim reported [ inl is ↦ b is | inr is ↦ d is ]) none'
          (sending_none (served_of snapshots before earlier) after replies nothing same)
