-- Tables that one pass finds: at each position the shape is what some ways from earlier positions have
-- in common, and all ways serve where they end.
use Rattle.std.proofs.Common.{◌≡◌, ℕ, zero, suc, ◌+◌, ◌<◌, ◌≤◌, inl, inr, nat_lt, true, false, List, [], ◌∷◌, ◌++◌, length, Some, refl, sym, ap, ◌∙◌, subst, arith, slice_get, if◌then◌else◌}
use Rattle.std.specs.List.{AllByRecursion}
use Rattle.std.proofs.lemmas.Bool.{cases_lt}
use Rattle.std.proofs.lemmas.Bool.Decides.{nat_tests}
use Rattle.machine_code.specs.Instructions.{Instruction}
use Rattle.machine_code.specs.Shapes.{Serves, Shape, Way, ways}
use Rattle.machine_code.specs.Typable.{AllServe, Leads, LeadsOn, Least, SomeEnds, Table, ways_at, ways_before, ways_found}
use Rattle.cel_compile.proofs.Leading.{to}
pub use Rattle.machine_code.proofs.Fitting.{slots_refl, slots_trans, serves_trans, serve_front}

-- ---- shapes that serve

pub serves_same : (s t : Shape) → s ≡ t → Serves s t
serves_same s t e = subst (Serves s) e (record { slots = slots_refl s.slots; locals = λ l a h. h; loops = refl })

-- ---- tables in parts

-- the first table before the position, and the second one from there on
abbrev pub cut : ℕ → Table → Table → Table
cut m f g = λ r. if nat_lt r m then f r else g r

-- the shape at the position, and the table from the next one on
abbrev pub spot : ℕ → Shape → Table → Table
spot m s g = cut (m + 1) (λ r. s) g

-- the tables agree from p up to q
abbrev pub Agrees : Table → Table → ℕ → ℕ → Type 0
Agrees table f p q = (r : ℕ) → p ≤ r → r < q → table r ≡ f r

module _ (table f g : Table) (p m q : ℕ) (agrees : Agrees table (cut m f g) p q) where
  pub front : m ≤ q → Agrees table f p m
  front le r from below =
      let less : nat_lt r m ≡ true = grind (arith, nat_tests) in
      agrees r from (omega arith) ∙ ap (λ b. if b then f r else g r) less

  pub back : p ≤ m → Agrees table g m q
  back le r from below =
      let more : nat_lt r m ≡ false = grind (arith, nat_tests) in
      agrees r (omega arith) below ∙ ap (λ b. if b then f r else g r) more

module _ (table g : Table) (s : Shape) (m q : ℕ) (agrees : Agrees table (spot m s g) m q) where
  pub here : m < q → table m ≡ s
  here lt = front table (λ r. s) g m (m + 1) q agrees (omega arith) m (omega arith) (omega arith)

  pub next : Agrees table g (m + 1) q
  next = back table (λ r. s) g m (m + 1) q agrees (omega arith)

-- ---- ways

serve_back : (t : ℕ) (xs ys : List Way) (u : Shape) → AllServe t (xs ++ ys) u → AllServe t ys u
serve_back t [] ys u h = h
serve_back t (x ∷ xs) ys u h = serve_back t xs ys u h.1

some_front : (t : ℕ) (xs ys : List Way) → SomeEnds t xs → SomeEnds t (xs ++ ys)
some_front t [] ys h = absurd h
some_front t (x ∷ xs) ys (inl e) = inl e
some_front t (x ∷ xs) ys (inr h) = inr (some_front t xs ys h)

some_back : (t : ℕ) (xs ys : List Way) → SomeEnds t ys → SomeEnds t (xs ++ ys)
some_back t [] ys h = h
some_back t (x ∷ xs) ys h = inr (some_back t xs ys h)

module _ (code : List Instruction) (table : Table) where
  -- the ways from an earlier position are among those from before
  serve_one : (t r p : ℕ) (u : Shape) → r < p → AllServe t (ways_before code table p) u
      → AllServe t (ways_at (slice_get code r) r (table r)) u
  serve_one t r zero u lt h = absurd (omega arith)
  serve_one t r (suc p) u lt h =
      let own = ways_at (slice_get code p) p (table p) in
      elim (cases_lt r p) [
        | inl less ↦ serve_one t r p u less (serve_front t (ways_before code table p) own u h)
        | inr more ↦
            let same : p ≡ r = omega arith in
            subst (λ n. AllServe t (ways_at (slice_get code n) n (table n)) u) same
            (serve_back t (ways_before code table p) own u h)
      ]

  some_one : (t r p : ℕ) → r < p → SomeEnds t (ways_at (slice_get code r) r (table r)) → SomeEnds t (ways_before code table p)
  some_one t r zero lt h = absurd (omega arith)
  some_one t r (suc p) lt h =
      let own = ways_at (slice_get code p) p (table p) in
      elim (cases_lt r p) [
        | inl less ↦ some_front t (ways_before code table p) own (some_one t r p less h)
        | inr more ↦
            let same : r ≡ p = omega arith in
            some_back t (ways_before code table p) own
            (subst (λ n. SomeEnds t (ways_at (slice_get code n) n (table n))) same h)
      ]

  -- the shape says no more than what the ways to a position, from earlier ones, have in common
  pub record Settled (p : ℕ) (s : Shape) : Type 0 where
    pub least : 0 < p → Least p (ways_before code table p) s
    pub some : 0 < p → SomeEnds p (ways_before code table p)

  -- so the position's shape does, and its instruction leads on
  pub record Good (r : ℕ) : Type 0 where
    pub settled : Settled r (table r)
    pub leads : (i : Instruction) → slice_get code r ≡ Some i → LeadsOn code table r i

  -- so it is from p up to q, and the shape says no more than what the ways to q have in common
  pub record Flows (p q : ℕ) (s : Shape) : Type 0 where
    pub good : (r : ℕ) → p ≤ r → r < q → Good r
    pub out : Settled q s

  -- the instruction stands at the position, and has these ways there
  pub record Stands (r : ℕ) (i : Instruction) (s : Shape) (on : List Way) : Type 0 where
    pub at : slice_get code r ≡ Some i
    pub is : table r ≡ s
    pub found : ways i r s ≡ Some on

  module _ (r : ℕ) (i : Instruction) (s : Shape) (on : List Way) (stands : Stands r i s on) where
    found_here : ways i r (table r) ≡ Some on
    found_here = ap (ways i r) stands.is ∙ stands.found

    ways_here : ways_at (slice_get code r) r (table r) ≡ on
    ways_here = ap (λ o. ways_at o r (table r)) stands.at ∙ ap ways_found found_here

    -- where all of its ways lead on, the position is good
    pub good_at : Settled r (table r) → AllByRecursion (Leads code table) on → Good r
    good_at settled lead = record {
      settled = settled;
      leads = λ j e.
          let both : Some i ≡ Some j = sym stands.at ∙ e in
          let same : i ≡ j = cc (both) in
          subst (λ k. LeadsOn code table r k) same (record { on = on; found = found_here; lead = lead });
    }

    -- what all that are served by its ways to a later position serve too
    pub served : (p : ℕ) (u : Shape) → r < p → AllServe p (ways_before code table p) u → AllServe p on u
    served p u lt h = subst (λ ws. AllServe p ws u) ways_here (serve_one p r p u lt h)

    -- one of its ways settles a later position
    pub settles : (p : ℕ) (t : Shape) → r < p → Least p on t → SomeEnds p on → Settled p t
    settles p t lt least some = record {
      least = λ later u h. least u (served p u lt h);
      some = λ later. some_one p r p lt (subst (SomeEnds p) (sym ways_here) some);
    }

    pub first_settles : (p : ℕ) (w : Way) (others : List Way) → r < p → on ≡ w ∷ others → w.target ≡ p → Settled p w.shape
    first_settles p w others lt are ends =
        settles p w.shape lt (rw are (λ u h. h.0 ends)) (rw are (inl ends))

    pub second_settles : (p : ℕ) (v w : Way) (others : List Way) → r < p → on ≡ v ∷ w ∷ others → w.target ≡ p → Settled p w.shape
    second_settles p v w others lt are ends =
        settles p w.shape lt (rw are (λ u h. h.1.0 ends)) (rw are (inr (inl ends)))

  -- ---- pieces one after the other

  -- a way that serves at a position of the code
  pub lead : (p : ℕ) (s t : Shape) → p ≤ length code → table p ≡ t → Serves s t → Leads code table (to p s)
  lead p s t le is serves = record { inside = le; serves = subst (Serves s) (sym is) serves }

  -- the shape at a position is settled, where it is known
  pub known : (p : ℕ) (s : Shape) → Settled p s → table p ≡ s → Settled p (table p)
  known p s settled is = subst (Settled p) (sym is) settled

  pub then_flows : (p m q : ℕ) (s t : Shape) → Flows p m s → table m ≡ s → (Settled m (table m) → Flows m q t) → Flows p q t
  then_flows p m q s t first is others =
      let rest = others (known m s first.out is) in record {
        good = λ r from below. elim (cases_lt r m) [
          | inl less ↦ first.good r from less
          | inr more ↦ rest.good r more below
        ];
        out = rest.out;
      }

  pub one_more : (m q : ℕ) (t : Shape) → Good m → Flows (m + 1) q t → Flows m q t
  one_more m q t here rest = record {
    good = λ r from below. elim (cases_lt m r) [
      | inl less ↦ rest.good r (omega arith) below
      | inr more ↦ let same : m ≡ r = omega arith in subst Good same here
    ];
    out = rest.out;
  }

  -- one instruction with one way, to the next position
  pub plain : (m q : ℕ) (i : Instruction) (s t : Shape) → Stands m i s (to (m + 1) t ∷ []) → q ≡ m + 1 → q ≤ length code
      → Serves t (table q) → Settled m (table m) → Flows m q t
  plain m q i s t stands e le serves settled =
      let on = to (m + 1) t ∷ [] in
      let serves' : Serves t (table (m + 1)) = subst (λ n. Serves t (table n)) e serves in
      let here : Good m = good_at m i s on stands settled (record { inside = omega arith; serves = serves' }, tt) in record {
        good = λ r from below. let same : m ≡ r = omega arith in subst Good same here;
        out = first_settles m i s on stands q (to (m + 1) t) [] (omega arith) refl (sym e);
      }
