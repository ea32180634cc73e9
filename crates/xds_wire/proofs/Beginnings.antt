-- Frames are cut to their messages, and a part of them to the first of those; a rest is the beginning of a frame.
use Rattle.std.proofs.Common.{◌≡◌, ◌≢◌, ℕ, ◌-◌, ◌<◌, ◌⊎◌, inl, inr, List, [], ◌∷◌, ◌++◌, length, take, drop, replicate, refl, ap, ap₂, ◌∙◌, sym, arith, append_assoc, append-nil, length-append, All}
use Rattle.std.proofs.lemmas.List.{length-replicate, take-append-le, take-append-drop}
use Rattle.std.proofs.lemmas.List.Elements.{All-tail, All-same, All-append, All-replicate}
use Rattle.std.proofs.lemmas.Nat.{be_bytes_4}
use Rattle.std.proofs.lemmas.Bool.{cases_lt}
use Rattle.std.specs.Int.{w32, from_be_bytes}
use Rattle.xds_wire.specs.Frames.{head_of, frame_of, frames_of, IsLength, AreAllowed, IsBeginning, nothing, part_of_head, part_of_message, unfinished, Cut}
use Rattle.xds_wire.proofs.CutLemmas.{frames_none, frames_one, cut_of, cut_behind}
use Rattle.xds_wire.proofs.EachCut.{small_at}

-- one list split at two places: either place may come first
split_twice : (a b c d : List ℕ) → a ++ b ≡ c ++ d
    → ((e : List ℕ) × (c ≡ a ++ e) × (b ≡ e ++ d)) ⊎ ((e : List ℕ) × (a ≡ c ++ e) × (d ≡ e ++ b))
split_twice [] b c d whole = inl (c, refl, whole)
split_twice (x ∷ a) b [] d whole = inr (x ∷ a, refl, sym whole)
split_twice (x ∷ a) b (y ∷ c) d whole =
    let head : x ≡ y = cc whole in
    let tail : a ++ b ≡ c ++ d = cc whole in
    elim (split_twice a b c d tail) [
      | inl (e, is, rest) ↦ inl (e, ap₂ (λ (z : ℕ) (zs : List ℕ). z ∷ zs) (sym head) is, rest)
      | inr (e, is, rest) ↦ inr (e, ap₂ (λ (z : ℕ) (zs : List ℕ). z ∷ zs) head is, rest)
    ]

-- a proper part of a frame is a beginning
part_begins : (max : ℕ) (message bytes : List ℕ) (b : ℕ) (more : List ℕ) → IsLength max (length message)
    → frame_of message ≡ bytes ++ b ∷ more → IsBeginning max bytes
part_begins max message [] b more allowed whole = nothing refl
part_begins max message (z ∷ size) b more allowed whole =
    let flag : z ≡ 0 = cc whole in
    elim (cases_lt (length size) 4) [
      | inl few ↦ part_of_head size (ap (λ t. t ∷ size) flag) few
      | inr enough ↦
          let n = length message in
          let head : take 5 (z ∷ size) ≡ head_of n =
          sym (take-append-le 5 (z ∷ size) (b ∷ more) (omega arith)) ∙ ap (take 5) (sym whole) in
          let part = drop 5 (z ∷ size) in
          let is : z ∷ size ≡ head_of n ++ part =
          sym (take-append-drop 5 (z ∷ size)) ∙ ap (λ t. t ++ part) head in
          part_of_message n part allowed is
          (omega (arith, ap length whole, ap length is, length-append (z ∷ size) (b ∷ more)))
    ]

-- the messages' frames are cut to them
pub frames_cut : (max : ℕ) (messages : List (List ℕ)) → AreAllowed max messages
    → Cut (frames_of messages) max messages (unfinished [])
frames_cut max messages allowed =
    cut_of (frames_of messages) max messages [] (unfinished [])
    (record { whole = sym (append-nil (frames_of messages)); allowed = allowed }) (refl, nothing refl)

-- what a part of frames is cut to: the first messages
pub record FirstOf (bytes : List ℕ) (max : ℕ) (messages : List (List ℕ)) : Type 0 where
  pub first : List (List ℕ)
  pub others : List (List ℕ)
  pub rest : List ℕ
  pub whole : messages ≡ first ++ others
  pub cut : Cut bytes max first (unfinished rest)

first_more : (bytes : List ℕ) (max : ℕ) (m : List ℕ) (ms : List (List ℕ)) (behind : List ℕ)
    → IsLength max (length m) → bytes ≡ frame_of m ++ behind → FirstOf behind max ms
    → FirstOf bytes max (m ∷ ms)
first_more bytes max m ms behind allowed is next = record {
  first = m ∷ next.first;
  others = next.others;
  rest = next.rest;
  whole = ap (λ t. m ∷ t) next.whole;
  cut = cut_behind bytes max (m ∷ []) next.first behind (unfinished next.rest)
      (frames_one bytes max m behind allowed is) next.cut;
}

-- a part of frames is cut to the first messages, and is not broken
pub part_cut : (messages : List (List ℕ)) (max : ℕ) (bytes more : List ℕ) → AreAllowed max messages
    → bytes ++ more ≡ frames_of messages → FirstOf bytes max messages
part_cut [] max [] more allowed whole = record {
  first = [];
  others = [];
  rest = [];
  whole = refl;
  cut = frames_cut max [] tt;
}
part_cut [] max (b ∷ bytes) more allowed whole = absurd cc
part_cut (m ∷ ms) max bytes more allowed whole = elim (split_twice bytes more (frame_of m) (frames_of ms) whole) [
  | inl (b ∷ e, is, rest) ↦ record {
    first = [];
    others = m ∷ ms;
    rest = bytes;
    whole = refl;
    cut = cut_of bytes max [] bytes (unfinished bytes) (frames_none bytes max)
        (refl, part_begins max m bytes b e allowed.0 is);
  }
  | inl ([], is, rest) ↦
      first_more bytes max m ms [] allowed.0 (sym (append-nil bytes) ∙ sym is ∙ sym (append-nil (frame_of m)))
      (part_cut ms max [] more allowed.1 rest)
  | inr (e, is, rest) ↦
      first_more bytes max m ms e allowed.0 is (part_cut ms max e more allowed.1 (sym rest))
]

-- what is left of a frame, when the bytes are those of a frame's beginning
pub record Left (max : ℕ) (rest : List ℕ) : Type 0 where
  pub message : List ℕ
  pub more : List ℕ
  pub some : more ≢ []
  pub frame : rest ++ more ≡ frame_of message

-- the bytes of a head that lack
head_left : (max : ℕ) (size : List ℕ) → length size < 4 → All (λ b. b < 256) size → Left max (0 ∷ size)
head_left max size short small =
    let lack : List ℕ = replicate (4 - length size) 0 in
    let four : List ℕ = size ++ lack in
    let long : length four ≡ 4 =
    omega (arith, length-append size lack, length-replicate {A = ℕ} (4 - length size) 0) in
    let zeros : All (λ b. b < 256) lack = All-replicate (λ b. b < 256) (4 - length size) 0 (omega arith) in
    let four_small = small_at four (All-append (λ b. b < 256) size lack small zeros) in
    let n = from_be_bytes w32 four in
    let message : List ℕ = replicate n 0 in
    let spelt = be_bytes_4 four n long four_small refl in
    record {
      message = message;
      more = lack ++ message;
      some = λ none. absurd (omega (
        arith,
        ap length none,
        length-append lack message,
        length-replicate {A = ℕ} (4 - length size) 0,
      ));
      frame = ap (λ t. 0 ∷ t) (sym (append_assoc size lack message))
          ∙ ap (λ t. 0 ∷ (t ++ message)) (sym spelt)
          ∙ ap (λ k. head_of k ++ message) (sym (length-replicate {A = ℕ} n 0));
    }

-- a rest is a proper beginning of a frame
pub rest_begins : (max : ℕ) (rest : List ℕ) → All (λ b. b < 256) rest → IsBeginning max rest
    → Left max rest
rest_begins max rest small (nothing is) = record {
  message = [];
  more = frame_of [];
  some = λ none. absurd cc;
  frame = ap (λ t. t ++ frame_of []) is;
}
rest_begins max rest small (part_of_head size is short) =
    let small' = All-same (λ b. b < 256) (0 ∷ size) rest (sym is) small in
    rw is (head_left max size short (All-tail (λ b. b < 256) 0 size small'))
rest_begins max rest small (part_of_message n part fits is short) =
    let more : List ℕ = replicate (n - length part) 0 in
    let long : length (part ++ more) ≡ n =
    omega (arith, length-append part more, length-replicate {A = ℕ} (n - length part) 0) in
    record {
      message = part ++ more;
      more = more;
      some = λ none. absurd (omega (arith, ap length none, length-replicate {A = ℕ} (n - length part) 0));
      frame = ap (λ t. t ++ more) is ∙ append_assoc (head_of n) part more
          ∙ ap (λ k. head_of k ++ (part ++ more)) (sym long);
    }
