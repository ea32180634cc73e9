-- What is left of a number, step by step.
use Rattle.std.proofs.Common.{◌≡◌, ℕ, ◌+◌, ◌-◌, ◌≤◌, length, ◌<◌, Option, Some, None, sym, ap, ◌∙◌, arith, inl, inr}
use Rattle.std.specs.Option.{SomeIff}
use Rattle.std.specs.Str.{chars, encode_utf8_all}
use Rattle.std.specs.Arc.{arc_str_bytes}
use Rattle.std.specs.declared.sync.ArcStr.{ArcStr}
use Rattle.std.proofs.lemmas.Str.{encodes-chars, IsUtf8-string_bytes}
use Rattle.std.proofs.lemmas.Bool.{cases_lt}
use Rattle.std.proofs.lemmas.Bool.Decides.{nat_tests}
use Rattle.cel_value.specs.Masses.{left_of}

pub left_enough : (n m : ℕ) → m ≤ n → left_of n m ≡ Some (n - m)
left_enough n m h = grind (arith, nat_tests)

pub left_short : (n m : ℕ) → n < m → left_of n m ≡ None
left_short n m h = grind (arith, nat_tests)

-- a subtraction that answers where it can
pub left_checked : (n m : ℕ) (r : Option ℕ) → SomeIff r (m ≤ n) (n - m) → r ≡ left_of n m
left_checked n m None h = elim (cases_lt n m) [
  | inl short ↦ sym
      (left_short n m short)
  | inr enough ↦ absurd (h enough)
]
left_checked n m (Some x) h = ap Some h.1 ∙ sym (left_enough n m h.0)

-- one after the other
pub left_twice : (n a m k : ℕ) → Some a ≡ left_of n m → left_of a k ≡ left_of n (m + k)
left_twice n a m k e = elim (cases_lt n m) [
  | inl short ↦ absurd (let f : Some a ≡ None = e ∙ left_short n m short in cc)
  | inr enough ↦
      let f : Some a ≡ Some (n - m) = e ∙ left_enough n m enough in
      let g : a ≡ n - m = cc in
      elim (cases_lt a k) [
        | inl low ↦ left_short a k low ∙ sym (left_short n (m + k) (omega arith))
        | inr high ↦ left_enough a k high ∙ ap Some (omega arith)
            ∙ sym (left_enough n (m + k) (omega arith))
      ]
]

-- what is short of the first is short of both
pub left_none : (n m k : ℕ) → None ≡ left_of n m → None ≡ left_of n (m + k)
left_none n m k e = elim (cases_lt n m) [
  | inl short ↦ sym (left_short n (m + k) (omega arith))
  | inr enough ↦ absurd (let f : None ≡ Some (n - m) = e ∙ left_enough n m enough in cc)
]

pub left_zero : (n : ℕ) → Some n ≡ left_of n 0
left_zero n = ap Some (omega arith) ∙ sym (left_enough n 0 (omega arith))

-- the bytes of a text are as many as those of its characters
pub text_length_fact : {Z : Type 0} (t : ArcStr Z) → length (encode_utf8_all (chars (arc_str_bytes t)))
    ≡ length (arc_str_bytes t)
text_length_fact t = ap length (encodes-chars (arc_str_bytes t) (IsUtf8-string_bytes t.text.value))

-- one, and then the length of a text
pub text_spent : {Z : Type 0} (n a len : ℕ) (t : ArcStr Z) (r s : Option ℕ) → r ≡ Some a
    → SomeIff r (1 ≤ n) (n - 1)
    → len ≡ length (arc_str_bytes t) → SomeIff s (len ≤ a) (a - len)
    → s ≡ left_of n (1 + length (encode_utf8_all (chars (arc_str_bytes t))))
text_spent n a len t r s is one counted more =
    left_checked a len s more ∙ ap (left_of a) (counted ∙ sym (text_length_fact t))
    ∙ left_twice n a 1 _ (sym is ∙ left_checked n 1 r one)

-- one, and then another number
pub more_spent : (n a m : ℕ) (r s : Option ℕ) → r ≡ Some a → SomeIff r (1 ≤ n) (n - 1) → s
    ≡ left_of a m → s ≡ left_of n (1 + m)
more_spent n a m r s is one more = more ∙ left_twice n a 1 m (sym is ∙ left_checked n 1 r one)
