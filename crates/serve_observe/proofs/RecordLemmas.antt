-- What the record gets in several calls, one after the other.
use Rattle.std.proofs.Common.{◌≡◌, ◌∙◌, ◌+◌, ◌<◌, ℕ, Bool, List, ◌∷◌, Option, None, Some, ap, drop, get_or, is_some, length, subst, sym, true≢false}
use Rattle.std.proofs.lemmas.List.{at_drop_more}
use Rattle.std.specs.Prelude.{IfSome}
use Rattle.serve_core.specs.Turns.{ServerEvent}
use Rattle.serve_core.specs.declared.served.Served.{Served}
use Rattle.serve_observe.specs.Recording.{Recorded, RecordsAnswered, RecordsEvent, RecordsOwn, next_after}

-- the elements that are left: this one, and those behind it
pub one_left : {X : Type 0} (items : List X) (i : ℕ) (item : X) → i < length items → item ≡ get_or items i item
    → drop i items ≡ item ∷ drop (i + 1) items
one_left items i item below is = at_drop_more (λ l. l) items i item below ∙ ap (λ x. x ∷ drop (i + 1) items) (sym is)

-- what holds of each value and itself
pub with_itself : {R : Type 0} (o : Option R) (Q : R → R → Type 0) → ((a : R) → Q a a) → IfSome o (λ a. IfSome o (Q a))
with_itself None Q f = tt
with_itself (Some a) Q f = f a

-- what follows of both values
pub of_both : {R : Type 0} (o p : Option R) (P Q : R → R → Type 0) → IfSome o (λ a. IfSome p (P a))
    → ((a b : R) → P a b → Q a b) → IfSome o (λ a. IfSome p (Q a))
of_both None p P Q one f = tt
of_both (Some a) None P Q one f = tt
of_both (Some a) (Some b) P Q one f = f a b one

-- from the value at first, through the one between, to the last one
pub two_steps : {R : Type 0} (o p q : Option R) (P1 P2 Q : R → R → Type 0) → is_some p ≡ is_some o
    → IfSome o (λ a. IfSome p (P1 a)) → IfSome p (λ b. IfSome q (P2 b))
    → ((a b c : R) → P1 a b → P2 b c → Q a c) → IfSome o (λ a. IfSome q (Q a))
two_steps None p q P1 P2 Q same one two f = tt
two_steps (Some a) None q P1 P2 Q same one two f = absurd (true≢false (sym same))
two_steps (Some a) (Some b) None P1 P2 Q same one two f = tt
two_steps (Some a) (Some b) (Some c) P1 P2 Q same one two f = f a b c one two

-- the same, through two between
pub three_steps : {R : Type 0} (o p q r : Option R) (P1 P2 P3 Q : R → R → Type 0) → is_some p ≡ is_some o
    → is_some q ≡ is_some p → IfSome o (λ a. IfSome p (P1 a)) → IfSome p (λ b. IfSome q (P2 b))
    → IfSome q (λ c. IfSome r (P3 c)) → ((a b c d : R) → P1 a b → P2 b c → P3 c d → Q a d)
    → IfSome o (λ a. IfSome r (Q a))
three_steps None p q r P1 P2 P3 Q same again one two three f = tt
three_steps (Some a) None q r P1 P2 P3 Q same again one two three f = absurd (true≢false (sym same))
three_steps (Some a) (Some b) None r P1 P2 P3 Q same again one two three f = absurd (true≢false (sym again))
three_steps (Some a) (Some b) (Some c) None P1 P2 P3 Q same again one two three f = tt
three_steps (Some a) (Some b) (Some c) (Some d) P1 P2 P3 Q same again one two three f = f a b c d one two three

-- an event is numbered and recorded, then the answers at it, and then nothing more
pub event_recorded : {R W : Type 0} (contents : W → Option (List ℕ)) (f : R → Recorded W) (service : Served) (taken : Bool)
    (e : ServerEvent) (r0 r1 r2 r3 r4 : Option R) (n0 n1 n2 n3 n4 m : ℕ) → r1 ≡ r0 → n1 ≡ next_after taken e n0 → m ≡ n0
    → is_some r2 ≡ is_some r1 → IfSome r1 (λ a. IfSome r2 (λ b. RecordsOwn contents service taken e m (f a) (f b)))
    → n2 ≡ n1 → IfSome r2 (λ b. IfSome r3 (λ d. RecordsAnswered contents service e (n2, f b) (n3, f d)))
    → r4 ≡ r3 → n4 ≡ n3
    → IfSome r0 (λ a. IfSome r4 (λ d. RecordsEvent contents service taken e (n0, f a) (n4, f d)))
event_recorded contents f service taken e r0 r1 r2 r3 r4 n0 n1 n2 n3 n4 m is1 next given same own is2 answers is4 last =
    rw (is4, last) (two_steps r0 r2 r3
    (λ a b. RecordsOwn contents service taken e n0 (f a) (f b))
    (λ b d. RecordsAnswered contents service e (n2, f b) (n3, f d))
    (λ a d. RecordsEvent contents service taken e (n0, f a) (n3, f d))
    (same ∙ ap is_some is1)
    (subst (λ n. IfSome r0 (λ a. IfSome r2 (λ b. RecordsOwn contents service taken e n (f a) (f b)))) given
    (subst (λ r. IfSome r (λ a. IfSome r2 (λ b. RecordsOwn contents service taken e m (f a) (f b)))) is1 own))
    answers
    (λ a b d one two. record {
      between = f b;
      own = one;
      answers = subst (λ n. RecordsAnswered contents service e (n, f b) (n3, f d)) (is2 ∙ next) two;
    }))
