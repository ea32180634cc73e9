-- The search for a part, one byte more at a time: with how many first bytes of the part the bytes so far end.
use Rattle.std.proofs.Common.{◌≡◌, ◌≢◌, inl, inr, ℕ, zero, suc, ◌+◌, ◌-◌, ◌<◌, ◌≤◌, List, [], ◌∷◌, ◌++◌, length, take, drop, get_or, true, refl, sym, ap, subst, ◌∙◌, arith}
use Rattle.std.proofs.lemmas.Bool.{cases_lt}
use Rattle.std.proofs.lemmas.List.{drop-drop, drop-append-le, drop_all, drop_at, take_at, take_more, take_all, length-take-le, length-drop, length-append, length-map, get_or-map, get_or_append_left, get_or_push, append_assoc, take-append-drop}
use Rattle.std.specs.Char.{to_ascii_lowercase}
use Rattle.std.specs.Str.{str_to_ascii_lowercase}
use Rattle.rbac_match.specs.Text.{is_substring}
use Rattle.rbac_match.proofs.Texts.{substring_split, split_substring}
use Rattle.rbac_match.specs.private.Search.{EndsWithFirst, EndsWithMost, AreBorders}

-- ---- the bytes of one end within another

-- a shorter end begins the part as its longer end does
shorter_end : (part bytes : List ℕ) (k j : ℕ) → j ≤ k → EndsWithFirst part bytes k
    → EndsWithFirst part bytes j → drop (k - j) (take k part) ≡ take j part
shorter_end part bytes k j le long short =
    let from : ℕ = length bytes - k in
    let together : from + (k - j) ≡ length bytes - j = omega (arith, long.in_bytes, short.in_bytes) in
    ap (drop (k - j)) (sym long.same) ∙ drop-drop (k - j) from bytes
    ∙ ap (λ n. drop n bytes) together ∙ short.same

-- the length of what a border is looked for in
rest_length : (part : List ℕ) (k : ℕ) → k ≤ length part → length (drop 1 (take k part)) ≡ k - 1
rest_length part k le = length-drop 1 (take k part) ∙ ap (λ n. n - 1) (length-take-le k part le)

-- the same end, of the bytes or of the first ones of the part behind its first
rest_end : (part : List ℕ) (k j : ℕ) → 0 < k → j < k → k ≤ length part
    → drop (length (drop 1 (take k part)) - j) (drop 1 (take k part)) ≡ drop (k - j) (take k part)
rest_end part k j some lt le =
    let count : length (drop 1 (take k part)) - j ≡ k - 1 - j = ap (λ n. n - j) (rest_length part k le) in
    let together : 1 + (k - 1 - j) ≡ k - j = omega arith in
    ap (λ n. drop n (drop 1 (take k part))) count ∙ drop-drop (k - 1 - j) 1 (take k part)
    ∙ ap (λ n. drop n (take k part)) together

-- a shorter end of the bytes is one of the longer end
pub end_of_end : (part bytes : List ℕ) (k j : ℕ) → j < k → EndsWithFirst part bytes k
    → EndsWithFirst part bytes j → EndsWithFirst part (drop 1 (take k part)) j
end_of_end part bytes k j lt long short = record {
  in_part = short.in_part;
  in_bytes = omega (arith, rest_length part k long.in_part);
  same = rest_end part k j (omega arith) lt long.in_part ∙ shorter_end part bytes k j (omega arith) long short;
}

-- and an end of the longer end is one of the bytes
pub end_from_end : (part bytes : List ℕ) (k j : ℕ) → 0 < k → EndsWithFirst part bytes k
    → EndsWithFirst part (drop 1 (take k part)) j → EndsWithFirst part bytes j
end_from_end part bytes k j some long short =
    let lt : j < k = omega (arith, rest_length part k long.in_part, short.in_bytes) in
    let from : ℕ = length bytes - k in
    let together : from + (k - j) ≡ length bytes - j = omega (arith, long.in_bytes) in
    record {
      in_part = short.in_part;
      in_bytes = omega (arith, long.in_bytes);
      same = ap (λ n. drop n bytes) (sym together) ∙ sym (drop-drop (k - j) from bytes)
          ∙ ap (drop (k - j)) long.same ∙ sym (rest_end part k j some lt long.in_part) ∙ short.same;
    }

-- ---- one byte more

-- an end of the bytes, behind which the part goes on with the byte
pub end_grows : (part bytes : List ℕ) (c k : ℕ) → k < length part → get_or part k 0 ≡ c
    → EndsWithFirst part bytes k → EndsWithFirst part (bytes ++ c ∷ []) (k + 1)
end_grows part bytes c k lt goes_on ends =
    let longer : length (bytes ++ c ∷ []) ≡ length bytes + 1 = length-append bytes (c ∷ []) in
    let from : length (bytes ++ c ∷ []) - (k + 1) ≡ length bytes - k = omega (arith, longer) in
    record {
      in_part = omega arith;
      in_bytes = omega (arith, longer, ends.in_bytes);
      same = ap (λ n. drop n (bytes ++ c ∷ [])) from
          ∙ drop-append-le (length bytes - k) bytes (c ∷ []) (omega arith)
          ∙ ap (λ l. l ++ c ∷ []) ends.same ∙ ap (λ (d : ℕ). take k part ++ d ∷ []) (sym goes_on)
          ∙ sym (take_more part k 0 lt);
    }

-- each end of the longer bytes but the empty one comes so
pub end_shrinks : (part bytes : List ℕ) (c k : ℕ) → EndsWithFirst part (bytes ++ c ∷ []) (k + 1)
    → (k < length part) × (get_or part k 0 ≡ c) × EndsWithFirst part bytes k
end_shrinks part bytes c k ends =
    let longer : length (bytes ++ c ∷ []) ≡ length bytes + 1 = length-append bytes (c ∷ []) in
    let lt : k < length part = omega (arith, ends.in_part) in
    let within : k ≤ length bytes = omega (arith, longer, ends.in_bytes) in
    let from : length (bytes ++ c ∷ []) - (k + 1) ≡ length bytes - k = omega (arith, longer) in
    let end : List ℕ = drop (length bytes - k) bytes in
    let count : length end ≡ k = length-drop (length bytes - k) bytes ∙ (let e : length bytes - (length bytes - k) ≡ k = omega (arith, within) in e) in
    let first : length (take k part) ≡ k = length-take-le k part (omega (arith, lt)) in
    let whole : end ++ c ∷ [] ≡ take k part ++ get_or part k 0 ∷ [] =
    sym (drop-append-le (length bytes - k) bytes (c ∷ []) (omega arith))
    ∙ ap (λ n. drop n (bytes ++ c ∷ [])) (sym from) ∙ ends.same ∙ take_more part k 0 lt in
    let goes_on : get_or part k 0 ≡ c = sym (get_or_push (take k part) (get_or part k 0) 0 k first)
    ∙ ap (λ l. get_or l k 0) (sym whole) ∙ get_or_push end c 0 k count in
    let same : end ≡ take k part = sym (take_at end (c ∷ []) k count) ∙ ap (take k) whole
    ∙ take_at (take k part) (get_or part k 0 ∷ []) k first in
    (lt, goes_on, record { in_part = omega (arith, lt); in_bytes = within; same = same })

-- ---- which end may grow

-- an end of the bytes that no longer one but those that cannot go on with the byte passes
pub record MayGrow (part bytes : List ℕ) (c count : ℕ) : Type 0 where
  pub below : count < length part
  pub ends : EndsWithFirst part bytes count
  pub others : (other : ℕ) → other < length part → EndsWithFirst part bytes other
      → get_or part other 0 ≡ c → other ≤ count

-- at first the longest
pub may_grow_first : (part bytes : List ℕ) (c k : ℕ) → k < length part → EndsWithMost part bytes k
    → MayGrow part bytes c k
may_grow_first part bytes c k lt longest =
    record { below = lt; ends = longest.ends; others = λ j within ends goes_on. longest.most j ends }

-- then the longest end of that one, where it does not go on with the byte
pub may_grow_next : (part bytes : List ℕ) (c k b : ℕ) → MayGrow part bytes c k → get_or part k 0 ≢ c
    → k ≢ 0 → EndsWithMost part (drop 1 (take k part)) b → MayGrow part bytes c b
may_grow_next part bytes c k b may stops some longest =
    let lt : b < k = omega (arith, rest_length part k (omega (arith, may.below)), longest.ends.in_bytes, some) in
    record {
      below = omega (arith, lt, may.below);
      ends = end_from_end part bytes k b (omega (arith, some)) may.ends longest.ends;
      others = λ j within ends goes_on. shorter j within ends goes_on;
    }
  where
    shorter : (j : ℕ) → j < length part → EndsWithFirst part bytes j → get_or part j 0 ≡ c → j ≤ b
    shorter j within ends goes_on =
        let le : j ≤ k = may.others j within ends goes_on in
        let other : j ≢ k = λ e. stops (ap (λ n. get_or part n 0) (sym e) ∙ goes_on) in
        longest.most j (end_of_end part bytes k j (omega (arith, le, other)) may.ends ends)

-- where it goes on, the bytes end with one byte more of the part, and with no more
pub grown : (part bytes : List ℕ) (c k : ℕ) → MayGrow part bytes c k → get_or part k 0 ≡ c
    → EndsWithMost part (bytes ++ c ∷ []) (k + 1)
grown part bytes c k may goes_on = record {
  ends = end_grows part bytes c k may.below goes_on may.ends;
  most = least;
}
  where
    least : (j : ℕ) → EndsWithFirst part (bytes ++ c ∷ []) j → j ≤ k + 1
    least zero ends = omega arith
    least (suc j) ends =
        let next : suc j ≡ j + 1 = omega arith in
        let back = end_shrinks part bytes c j (rw next at ends) in
        omega (arith, may.others j back.0 back.2 back.1)

-- where not even the empty one goes on, they end with nothing of it
pub not_grown : (part bytes : List ℕ) (c : ℕ) → MayGrow part bytes c 0 → get_or part 0 0 ≢ c
    → EndsWithMost part (bytes ++ c ∷ []) 0
not_grown part bytes c may stops = record {
  ends = record {
    in_part = omega arith;
    in_bytes = omega arith;
    same = drop_all (length (bytes ++ c ∷ []) - 0) (bytes ++ c ∷ []) (omega arith);
  };
  most = none;
}
  where
    none : (j : ℕ) → EndsWithFirst part (bytes ++ c ∷ []) j → j ≤ 0
    none zero ends = omega arith
    none (suc j) ends =
        let next : suc j ≡ j + 1 = omega arith in
        let back = end_shrinks part bytes c j (rw next at ends) in
        let le : j ≤ 0 = may.others j back.0 back.2 back.1 in
        let e : j ≡ 0 = omega (arith, le) in
        absurd (stops (ap (λ n. get_or part n 0) (sym e) ∙ back.1))

-- ---- where the part stands in the bytes

-- of a text whose first ones end with the whole part, the part is a substring
pub whole_part : (part bytes : List ℕ) (i : ℕ) → i ≤ length bytes
    → EndsWithFirst part (take i bytes) (length part) → is_substring part bytes ≡ true
whole_part part bytes i within ends =
    let from : ℕ = length (take i bytes) - length part in
    let tail : drop from (take i bytes) ≡ part = ends.same ∙ take_all (length part) part (omega arith) in
    let split : take from (take i bytes) ++ part ≡ take i bytes =
    ap (λ l. take from (take i bytes) ++ l) (sym tail) ∙ take-append-drop from (take i bytes) in
    let whole : bytes ≡ take from (take i bytes) ++ (part ++ drop i bytes) =
    sym (take-append-drop i bytes) ∙ ap (λ l. l ++ drop i bytes) (sym split)
    ∙ append_assoc (take from (take i bytes)) part (drop i bytes) in
    ap (is_substring part) whole ∙ split_substring (take from (take i bytes)) part (drop i bytes)

-- and a substring ends some first bytes
pub substring_ends : (part bytes : List ℕ) → is_substring part bytes ≡ true
    → (i : ℕ) × (i ≤ length bytes) × EndsWithFirst part (take i bytes) (length part)
substring_ends part bytes stands =
    let (front, rest, whole) = substring_split bytes part stands in
    let size : ℕ = length (front ++ part) in
    let counted : size ≡ length front + length part = length-append front part in
    let joined : bytes ≡ (front ++ part) ++ rest = whole ∙ sym (append_assoc front part rest) in
    let first : take size bytes ≡ front ++ part = ap (take size) joined ∙ take_at (front ++ part) rest size refl in
    let within : size ≤ length bytes = omega (arith, ap length joined, length-append (front ++ part) rest) in
    let all : length (take size bytes) ≡ size = ap length first in
    let from : length (take size bytes) - length part ≡ length front = omega (arith, all, counted) in (
      size,
      within,
      record {
        in_part = omega arith;
        in_bytes = omega (arith, all, counted);
        same = ap (λ n. drop n (take size bytes)) from ∙ ap (drop (length front)) first
            ∙ drop_at front part (length front) refl ∙ sym (take_all (length part) part (omega arith));
      },
    )

-- ---- in lower case

-- a byte of the part in lower case
lower_at : (part : List ℕ) (k : ℕ) → k < length part
    → get_or (str_to_ascii_lowercase part) k 0 ≡ to_ascii_lowercase (get_or part k 0)
lower_at part k lt = get_or-map to_ascii_lowercase part k 0 0 lt

module _ (part borders : List ℕ) (known : AreBorders (str_to_ascii_lowercase part) borders) (c k : ℕ) (below : k < length part) where
  -- where the part goes on with the byte
  pub hit : to_ascii_lowercase (get_or part k 0) ≡ to_ascii_lowercase c → (bytes : List ℕ)
      → MayGrow (str_to_ascii_lowercase part) bytes (to_ascii_lowercase c) k
      → EndsWithMost (str_to_ascii_lowercase part) (bytes ++ to_ascii_lowercase c ∷ []) (k + 1)
  hit same bytes may =
      grown (str_to_ascii_lowercase part) bytes (to_ascii_lowercase c) k may (lower_at part k below ∙ same)

  module _ (other : to_ascii_lowercase (get_or part k 0) ≢ to_ascii_lowercase c) where
    -- where not even the empty end does
    pub miss : k ≡ 0 → (bytes : List ℕ) → MayGrow (str_to_ascii_lowercase part) bytes (to_ascii_lowercase c) k
        → EndsWithMost (str_to_ascii_lowercase part) (bytes ++ to_ascii_lowercase c ∷ []) 0
    miss none bytes may =
        let P : ℕ → Type 0 = λ n. MayGrow (str_to_ascii_lowercase part) bytes (to_ascii_lowercase c) n in
        let stops : get_or (str_to_ascii_lowercase part) 0 0 ≢ to_ascii_lowercase c =
        λ e. other (ap (λ n. to_ascii_lowercase (get_or part n 0)) none
        ∙ sym (lower_at part 0 (omega (arith, below, none))) ∙ e) in
        not_grown (str_to_ascii_lowercase part) bytes (to_ascii_lowercase c) (subst P none may) stops

    module _ (some : k ≢ 0) (known_here : k ≤ length borders) where
      -- the border of the end so far
      border : EndsWithMost (str_to_ascii_lowercase part) (drop 1 (take k (str_to_ascii_lowercase part))) (get_or borders (k - 1) 0)
      border =
          let back : k - 1 + 1 ≡ k = omega (arith, some) in
          let P : ℕ → Type 0 = λ n. EndsWithMost (str_to_ascii_lowercase part)
          (drop 1 (take n (str_to_ascii_lowercase part))) (get_or borders (k - 1) 0) in
          subst P back (known (k - 1) (omega (arith, some, known_here)))

      pub shrinks : get_or borders (k - 1) 0 < k
      shrinks =
          let size : length (str_to_ascii_lowercase part) ≡ length part = length-map part to_ascii_lowercase in
          let rest = rest_length (str_to_ascii_lowercase part) k (omega (arith, size, below)) in
          omega (arith, rest, border.ends.in_bytes, some)

      -- may grow after it
      pub next : (bytes : List ℕ) → MayGrow (str_to_ascii_lowercase part) bytes (to_ascii_lowercase c) k
          → MayGrow (str_to_ascii_lowercase part) bytes (to_ascii_lowercase c) (get_or borders (k - 1) 0)
      next bytes may =
          let stops : get_or (str_to_ascii_lowercase part) k 0 ≢ to_ascii_lowercase c =
          λ e. other (sym (lower_at part k below) ∙ e) in
          may_grow_next (str_to_ascii_lowercase part) bytes (to_ascii_lowercase c) k
          (get_or borders (k - 1) 0) may stops some border

-- ---- steps of loops

-- the first bytes of a text in lower case, one more
pub text_more : (text : List ℕ) (i : ℕ) → i < length text
    → take (i + 1) (str_to_ascii_lowercase text)
    ≡ take i (str_to_ascii_lowercase text) ++ to_ascii_lowercase (get_or text i 0) ∷ []
text_more text i lt =
    take_more (str_to_ascii_lowercase text) i 0 (omega (arith, length-map text to_ascii_lowercase))
    ∙ ap (λ (c : ℕ). take i (str_to_ascii_lowercase text) ++ c ∷ []) (lower_at text i lt)

-- the same of those behind the first
pub rest_more : (first : ℕ) (rest : List ℕ) (i : ℕ) → i < length rest
    → drop 1 (take (i + 1 + 1) (str_to_ascii_lowercase (first ∷ rest)))
    ≡ drop 1 (take (i + 1) (str_to_ascii_lowercase (first ∷ rest))) ++ to_ascii_lowercase (get_or rest i 0) ∷ []
rest_more first rest i lt =
    let text : List ℕ = first ∷ rest in
    let next : i + 1 ≡ suc i = omega arith in
    let within : i + 1 < length text = omega (arith, lt) in
    let size : length (take (i + 1) (str_to_ascii_lowercase text)) ≡ i + 1 =
    length-take-le (i + 1) (str_to_ascii_lowercase text) (omega (arith, within, length-map text to_ascii_lowercase)) in
    let byte : get_or text (i + 1) 0 ≡ get_or rest i 0 = ap (λ n. get_or text n 0) next in
    ap (drop 1) (text_more text (i + 1) within)
    ∙ drop-append-le 1 (take (i + 1) (str_to_ascii_lowercase text)) (to_ascii_lowercase (get_or text (i + 1) 0) ∷ [])
    (omega (arith, size))
    ∙ ap (λ (b : ℕ). drop 1 (take (i + 1) (str_to_ascii_lowercase text)) ++ to_ascii_lowercase b ∷ []) byte

-- one border more
pub are_borders_push : (part borders : List ℕ) (border count : ℕ) → length borders ≡ count
    → AreBorders part borders → EndsWithMost part (drop 1 (take (count + 1) part)) border
    → AreBorders part (borders ++ border ∷ [])
are_borders_push part borders border count size are longest i lt = elim (cases_lt i (length borders)) [
  | inl before ↦
      let P : ℕ → Type 0 = EndsWithMost part (drop 1 (take (i + 1) part)) in
      subst P (sym (get_or_append_left borders (border ∷ []) 0 i before)) (are i before)
  | inr behind ↦
      let here : i ≡ count = omega (arith, size, behind, lt, length-append borders (border ∷ [])) in
      let P : ℕ → Type 0 = EndsWithMost part (drop 1 (take (i + 1) part)) in
      let Q : ℕ → Type 0 = λ n. EndsWithMost part (drop 1 (take (n + 1) part)) border in
      subst P (sym (get_or_push borders border 0 i (size ∙ sym here))) (subst Q (sym here) longest)
]

-- of nothing nothing is left to know
pub no_borders : (part : List ℕ) → AreBorders part []
no_borders part i lt = absurd (omega (arith, lt))

-- bytes that are none end with nothing
pub ends_with_nothing : (part : List ℕ) → EndsWithMost part [] 0
ends_with_nothing part = record {
  ends = record { in_part = omega arith; in_bytes = omega arith; same = refl };
  most = λ j ends. ends.in_bytes;
}

-- where no first bytes so far end with the whole part, and those up to here end with less of it, none up to here do
pub none_more : (part text : List ℕ) (i count : ℕ) → count < length part
    → EndsWithMost part (take (i + 1) text) count
    → ((j : ℕ) → j ≤ i → EndsWithFirst part (take j text) (length part) → ⊥)
    → (j : ℕ) → j ≤ i + 1 → EndsWithFirst part (take j text) (length part) → ⊥
none_more part text i count less longest none j le ends = elim (cases_lt i j) [
  | inr before ↦ none j before ends
  | inl here ↦
      let same : j ≡ i + 1 = omega (arith, le, here) in
      let P : ℕ → Type 0 = λ n. EndsWithFirst part (take n text) (length part) in
      omega (arith, less, longest.most (length part) (subst P same ends))
]

-- of the first byte alone nothing is a border
pub first_border : (first : ℕ) (rest : List ℕ)
    → EndsWithMost (str_to_ascii_lowercase (first ∷ rest)) (drop 1 (take 1 (str_to_ascii_lowercase (first ∷ rest)))) 0
first_border first rest = ends_with_nothing (str_to_ascii_lowercase (first ∷ rest))
