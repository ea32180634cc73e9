-- One line more of a batch, and how a batch ends.
use Rattle.std.proofs.Common.{◌≡◌, ◌≢◌, ◌⊎◌, ◌≤◌, ◌∙◌, inl, inr, ◌++◌, ◌+◌, codes, max, Ordering, Less, Equal, Greater, nat_cmp, true, Bool, ℕ, zero, suc, List, [], ◌∷◌, Option, Some, None, Result, Ok, Err, ap, ap₂, append_assoc, append-nil, arith, length, length-append, refl, subst, sym, string_bytes, option_map, take}
use lib.Seq.{take-append-le}
use Rattle.std.proofs.KnownBytes.{Appends-nil, Appends-trans}
use Rattle.std.proofs.Math.Nat.{le-max_left, le-max_right}
use Rattle.std.specs.Io.KnownBytes.{Appends}
use Rattle.std.specs.Cmp.Lexicographic.{slice_cmp}
use Rattle.std.specs.Ordering.{match_ordering}
use Rattle.std.specs.Prelude.{IfErr, IfOk, IfSome, IsUtf8, OnErr, OnOk, if◌then◌else◌, is_ok}
use Rattle.attributes.specs.Conn.{Facts}
use Rattle.attributes.specs.Limits.{FactsInLimits, largest}
use Rattle.serde_json.specs.Data.{Data, Items, Members, array, boolean, depth, items_depth, member, members_depth, no_members, null, number, object, string}
use Rattle.serde_json.specs.Find.{get, get_member}
use Rattle.serde_json.specs.Written.{compact_text}
use Rattle.serde_json.specs.Read.{read}
use Rattle.cost_bound.specs.declared.budget.Budget.{Budget}
use Rattle.rbac_policy.specs.Condition.{Program}
use Rattle.rbac_policy.specs.Filter.{Filter}
use Rattle.program_texts.proofs.LineLemmas.{end_of, read_at_end, read_more}
use Rattle.rbac_judge.specs.Batches.{Answer, Answered, AreAnswers, HasNoHead, IsAnswer, IsBatch, IsCutShort, IsHead, IsHeadText, IsIdOf, IsTooLong, LeavesAnswers, answer_text, answers_text, bad, bad_json, judged, with_id}
use Rattle.rbac_judge.specs.Outcome.{printed_of}
use Rattle.program_texts.specs.Output.{BreaksOff}
use Rattle.program_texts.specs.InputLines.{AreLines, ReadsLine}
use Rattle.program_texts.specs.InputLines.{IsReadingFault}
use Rattle.program_texts.specs.declared.replay_fault.ReplayFault.{ReplayFault}
use Rattle.program_texts.specs.declared.replay_fault.ReplayFault.TheVariants as faults
use Rattle.rbac_judge.specs.private.Batching.{BreaksOutput, IsAnsweredBy, IsIdText, IsLineOf, IsPlainAnswer, LacksHead}
use Rattle.rbac_judge.specs.Batches.{OfPolicies}
use Rattle.rbac_judge.specs.declared.head_lines.HeadLine.{HeadLine}
use Rattle.rbac_judge.specs.declared.explain.Explanation.TheVariants as explanations
use Rattle.rbac_judge.specs.Reports.{without_memory}
use Rattle.rbac_judge.specs.declared.outcome.Outcome.TheVariants as outcomes
use Rattle.rbac_judge.specs.declared.report.Report.{Report}
use Rattle.rbac_judge.specs.Json.{no_cause}

-- the text of one answer more
pub text_more : (answers : List Answer) (answer : Answer)
    → answers_text (answers ++ answer ∷ []) ≡ answers_text answers ++ answer_text answer
text_more [] answer = append-nil (answer_text answer)
text_more (first ∷ answers) answer =
    ap (λ rest. answer_text first ++ rest) (text_more answers answer)
    ∙ sym (append_assoc (answer_text first) (answers_text answers) (answer_text answer))

module _ (policy : List ℕ) (budget : Budget) (absent : Facts) (explain : Bool) where
  -- one answer more
  answers_more : (n m : ℕ) (lines : List (List ℕ)) (answers : List Answer) (line : List ℕ) (answer : Answer)
      → AreAnswers policy budget absent explain n lines answers → m ≡ n + length lines
      → IsAnswer policy budget absent explain m line answer
      → AreAnswers policy budget absent explain n (lines ++ line ∷ []) (answers ++ answer ∷ [])
  answers_more n m [] [] line answer are count is =
      let same : m ≡ n = omega (arith, count) in
      (subst (λ k. IsAnswer policy budget absent explain k line answer) same is, tt)
  answers_more n m [] (first ∷ answers) line answer are count is = absurd are
  answers_more n m (first ∷ lines) [] line answer are count is = absurd are
  answers_more n m (first ∷ lines) (own ∷ answers) line answer (here, rest) count is =
      (here, answers_more (n + 1) m lines answers line answer rest (omega (arith, count)) is)

  -- one line more was read and answered
  pub answered_more : (input now next : Option (List ℕ)) (m : ℕ) (lines : List (List ℕ)) (answers : List Answer)
      (line : List ℕ) (answer : Answer) → Answered policy budget absent explain input lines answers now
      → ReadsLine now line next → m ≡ length lines + 1 → IsAnswer policy budget absent explain m line answer
      → Answered policy budget absent explain input (lines ++ line ∷ []) (answers ++ answer ∷ []) next
  answered_more input now next m lines answers line answer so_far reads count is = record {
    right = answers_more 1 m lines answers line answer so_far.right (omega (arith, count)) is;
    taken = read_more input now next lines line so_far.taken reads;
  }

  -- before the first line
  pub answered_none : (input : Option (List ℕ)) → Answered policy budget absent explain input [] [] input
  answered_none input = record { right = tt; taken = at_first input }
    where
      at_first : (known : Option (List ℕ))
          → IfSome known (λ bytes. (left : List ℕ) × (known ≡ Some left) × AreLines bytes [] left)
      at_first None = tt
      at_first (Some bytes) = (bytes, refl, refl)

  -- at the end of the input
  pub answered_at_end : (input now next : Option (List ℕ)) (lines : List (List ℕ)) (answers : List Answer)
      → Answered policy budget absent explain input lines answers now
      → IfSome now (λ bytes. (bytes ≡ []) × (next ≡ Some []))
      → Answered policy budget absent explain input lines answers next × IfSome input (λ bytes. next ≡ Some [])
  answered_at_end input now next lines answers so_far end = (
    record {
      right = so_far.right;
      taken = read_at_end input now next (λ bytes left. AreLines bytes lines left) so_far.taken end;
    },
    end_of input now next (λ bytes left. AreLines bytes lines left) so_far.taken end,
  )

-- a beginning that goes beyond a part
take_past : (done rest : List ℕ) (n m : ℕ) → m ≡ length done + n → take m (done ++ rest) ≡ done ++ take n rest
take_past [] rest n m same = ap (λ k. take k rest) (omega (arith, same))
take_past (x ∷ done) rest n zero same = absurd (omega (arith, same))
take_past (x ∷ done) rest n (suc m) same = ap (λ l. x ∷ l) (take_past done rest n m (omega (arith, same)))

module _ (old now new : Option (List ℕ)) (done rest : List ℕ) (took : Appends old now done) where
  -- where the rest breaks off, the whole does
  breaks_more : BreaksOff now new rest → BreaksOff old new (done ++ rest)
  breaks_more (n, less, part) = (
    length done + n,
    omega (arith, less, length-append done rest),
    subst (Appends old new) (sym (take_past done rest n _ refl)) (Appends-trans old now new done (take n rest) took part),
  )

  -- what a fault left of the rest it left of the whole
  pub leaves_more : (e : ReplayFault) → LeavesAnswers now new rest e → LeavesAnswers old new (done ++ rest) e
  leaves_more (faults.Line n cause) left = left
  leaves_more (faults.Input cause) (other, all) = (other, Appends-trans old now new done rest took all)
  leaves_more (faults.Output cause) left = breaks_more left
  leaves_more faults.Memory all = Appends-trans old now new done rest took all

-- a fault ends the batch after some answers, of which `done` were written
pub cut_short : (policy : List ℕ) (budget : Budget) (absent : Facts) (explain : Bool) (input out between now new : Option (List ℕ))
    (lines : List (List ℕ)) (answers : List Answer) (done rest : List ℕ) (e : ReplayFault)
    → Answered policy budget absent explain input lines answers between → answers_text answers ≡ done ++ rest
    → Appends out now done → LeavesAnswers now new rest e
    → IsCutShort policy budget absent explain input out e new
cut_short policy budget absent explain input out between now new lines answers done rest e right text took left = record {
  lines = lines;
  answers = answers;
  between = between;
  answered = right;
  printed = rw text (leaves_more out now new done rest took e left);
}

-- all that was collected was written
pub written_all : {T E : Type 0} (r : Result T E) (out out_new : Option (List ℕ)) (old new : List ℕ)
    → OnOk r (Appends out out_new old) → OnOk r (new ≡ [])
    → OnOk r ((done : List ℕ) × (old ≡ done ++ new) × Appends out out_new done)
written_all (Ok v) out out_new old new wrote none = (old, rw none (sym (append-nil old)), wrote)
written_all (Err e) out out_new old new wrote none = tt

-- an output that failed left a beginning of the answers
pub leaves_broken : (out new : Option (List ℕ)) (text : List ℕ) (e : ReplayFault) → BreaksOutput out new text e
    → LeavesAnswers out new text e
leaves_broken out new text (faults.Line n cause) broken = absurd broken
leaves_broken out new text (faults.Input cause) broken = absurd broken
leaves_broken out new text (faults.Output cause) broken = broken
leaves_broken out new text faults.Memory broken = absurd broken

-- what broke off in the first of two texts broke off in both
pub breaks_first : (out new : Option (List ℕ)) (text rest : List ℕ) (e : ReplayFault) → BreaksOutput out new text e
    → BreaksOutput out new (text ++ rest) e
breaks_first out new text rest (faults.Line n cause) broken = absurd broken
breaks_first out new text rest (faults.Input cause) broken = absurd broken
breaks_first out new text rest (faults.Output cause) (n, less, part) = (
  n,
  omega (arith, less, length-append text rest),
  subst (Appends out new) (sym (take-append-le n text rest (omega (arith, less)))) part,
)
breaks_first out new text rest faults.Memory broken = absurd broken

-- and what broke off in the second
pub breaks_second : (out now new : Option (List ℕ)) (text rest : List ℕ) (e : ReplayFault) → Appends out now text
    → BreaksOutput now new rest e → BreaksOutput out new (text ++ rest) e
breaks_second out now new text rest (faults.Line n cause) took broken = absurd broken
breaks_second out now new text rest (faults.Input cause) took broken = absurd broken
breaks_second out now new text rest (faults.Output cause) took broken = breaks_more out now new text rest took broken
breaks_second out now new text rest faults.Memory took broken = absurd broken

-- where all was written, a fault of the input left it
pub all_left : (out out_new : Option (List ℕ)) (text : List ℕ) (e : ReplayFault) → IsReadingFault e
    → Appends out out_new text → LeavesAnswers out out_new text e
all_left out out_new text (faults.Line n cause) turn all = absurd turn
all_left out out_new text (faults.Input cause) turn all = (turn, all)
all_left out out_new text (faults.Output cause) turn all = absurd turn
all_left out out_new text faults.Memory turn all = all

-- the answers after one line more
pub text_pushed : (answers : List Answer) (answer : Answer) (done pending own pending_now : List ℕ)
    → answers_text answers ≡ done ++ pending → own ≡ answer_text answer → pending_now ≡ pending ++ own
    → answers_text (answers ++ answer ∷ []) ≡ done ++ pending_now
text_pushed answers answer done pending own pending_now text is added =
    text_more answers answer ∙ ap₂ (λ a b. a ++ b) text (sym is) ∙ append_assoc done pending own
    ∙ ap (λ l. done ++ l) (sym added)

-- and where some of them were written
pub text_step : (answers : List Answer) (answer : Answer) (done pending own pending_now more left : List ℕ)
    → answers_text answers ≡ done ++ pending → own ≡ answer_text answer → pending_now ≡ pending ++ own
    → pending_now ≡ more ++ left → answers_text (answers ++ answer ∷ []) ≡ (done ++ more) ++ left
text_step answers answer done pending own pending_now more left text is added split =
    text_pushed answers answer done pending own pending_now text is added
    ∙ ap (λ l. done ++ l) split ∙ sym (append_assoc done more left)

-- what is added to a vector where memory does not run out
pub appended : {T E : Type 0} (r : Result T E) (new old text : List ℕ)
    → new ≡ (if is_ok r then old ++ text else old) → OnOk r (new ≡ old ++ text)
appended (Ok x) new old text is = is
appended (Err e) new old text is = tt

-- the report that memory ran out
abbrev no_memory : Report
no_memory = record {
  outcome = outcomes.Memory;
  name = None;
  json = true;
  explanation = explanations.Absent;
  why = no_cause;
}

-- that memory ran out answers any line
pub answered_by_memory : (enforced : Filter Program) (explain : Bool) (absent : Facts) (n : ℕ) (line text : List ℕ)
    → ((report : Report) → report.json ≡ true → text ≡ printed_of (without_memory report))
    → IsAnsweredBy enforced explain absent n line text
answered_by_memory enforced explain absent n line text prints = record {
  answer = judged None no_memory;
  same = prints no_memory refl;
  right = λ policy budget filter admits. (refl, inl (refl, refl));
}

-- an answer, or that memory ran out for it, answers the line
pub answered_as : {T E : Type 0} (items : T → List ℕ) (r : Result T E) (enforced : Filter Program) (explain : Bool)
    (absent : Facts) (n : ℕ) (found : HeadLine) (line text : List ℕ)
    → IfOk r (λ v. (bytes : List ℕ) → IsLineOf found bytes → IsAnsweredBy enforced explain absent n bytes (items v))
    → IfOk r (λ v. text ≡ items v)
    → OnErr r ((report : Report) → report.json ≡ true → text ≡ printed_of (without_memory report))
    → IsLineOf found line → IsAnsweredBy enforced explain absent n line text
answered_as items (Ok v) enforced explain absent n found line text by same memory of = rw same (by line of)
answered_as items (Err e) enforced explain absent n found line text by same memory of =
    answered_by_memory enforced explain absent n line text memory

-- the head of a text is that of its one value
of_value : (absent : Facts) (line : List ℕ) (d : Data) (head : List ℕ) (facts : Facts) → read line ≡ Some d
    → IsHeadText absent line head facts → IsHead absent d head facts
of_value absent line d head facts is reported =
    let same : reported.1.0 ≡ d = cc (reported.1.1) in
    rw same at reported.1.2

-- what is no JSON text has no head
pub of_none : (absent : Facts) (line head : List ℕ) (facts : Facts) → read line ≡ None
    → IsHeadText absent line head facts → ⊥
of_none absent line head facts none reported = cc (reported.1.1)

-- a text whose value has no head has none
no_head : (absent : Facts) (line : List ℕ) (d : Data) → IsUtf8 line → read line ≡ Some d → LacksHead absent d
    → HasNoHead absent line
no_head absent line d utf is (inl none) = inl (λ head facts reported. none head facts (of_value absent line d head facts is reported))
no_head absent line d utf is (inr (head, facts, reported, outside)) = inr (head, facts, (utf, (d, is, reported)), outside)

-- the id of a line is that of its value
id_of : (line : List ℕ) (d : Data) (reported : Option (List ℕ)) → IsUtf8 line → read line ≡ Some d
    → IsIdText (get (codes "id") d) reported → IsIdOf line reported
id_of line d reported utf is id = of (get (codes "id") d) reported refl id
  where
    of : (found : Option Data) (reported : Option (List ℕ)) → get (codes "id") d ≡ found → IsIdText found reported → IsIdOf line reported
    of (Some value) (Some text) there id = (utf, (d, value, is, there, id))
    of (Some value) None there id = absurd id
    of None (Some text) there id = absurd id
    of None None there id = λ other utf' is'.
        let same : other ≡ d = cc (is, is') in
        rw same there

-- the answer to a value, with its id, is that to its line
pub answered_at : (enforced : Filter Program) (explain : Bool) (absent : Facts) (n : ℕ) (line text plain : List ℕ) (d : Data)
    (reported : Option (List ℕ)) → IsUtf8 line → read line ≡ Some d → ¬ IsTooLong line
    → IsPlainAnswer enforced explain absent d n plain → IsIdText (get (codes "id") d) reported → text ≡ with_id reported plain
    → IsAnsweredBy enforced explain absent n line text
answered_at enforced explain absent n line text plain d reported utf is short (inl (report, at_value, prints)) id same = record {
  answer = judged reported report;
  same = same ∙ ap (with_id reported) prints;
  right = λ policy budget filter admits. (
    at_value.is.json,
    inr (
      id_of line d reported utf is id,
      record {
        head = at_value.head;
        facts = at_value.facts;
        short = short;
        reported = (utf, (d, is, at_value.reported));
        fits = at_value.fits;
        found = at_value.is.under policy budget filter _ admits at_value.is.named;
        given = at_value.is.given;
      },
    ),
  );
}
answered_at enforced explain absent n line text plain d reported utf is short (inr (lacks, (cause, prints))) id same = record {
  answer = bad reported n cause;
  same = same ∙ ap (with_id reported) prints;
  right = λ policy budget filter admits.
      (refl, inr (short, id_of line d reported utf is id, no_head absent line d utf is lacks));
}

-- what is no JSON text has neither head nor id
pub answered_none_at : (enforced : Filter Program) (explain : Bool) (absent : Facts) (n : ℕ) (line text cause : List ℕ)
    → (IsUtf8 line → read line ≡ None) → ¬ IsTooLong line → text ≡ compact_text (bad_json n cause) ++ 10 ∷ []
    → IsAnsweredBy enforced explain absent n line text
answered_none_at enforced explain absent n line text cause none short same = record {
  answer = bad None n cause;
  same = same;
  right = λ policy budget filter admits. (
    refl,
    inr (
      short,
      (λ d utf is. let clash : Some d ≡ None = sym is ∙ none utf in cc),
      inl (λ head facts reported. of_none absent line head facts (none reported.0) reported),
    ),
  );
}

-- nor has a line that is too long
pub answered_long : (enforced : Filter Program) (explain : Bool) (absent : Facts) (n : ℕ) (line text cause : List ℕ)
    → IsTooLong line → text ≡ compact_text (bad_json n cause) ++ 10 ∷ [] → IsAnsweredBy enforced explain absent n line text
answered_long enforced explain absent n line text cause long same = record {
  answer = bad None n cause;
  same = same;
  right = λ policy budget filter admits. (refl, inl (long, refl));
}

-- a list that grew by four parts
pub of_parts : {X : Type 0} (first second third last a b c d : List X) {none : List X} → none ≡ [] → first ≡ none ++ a
    → second ≡ first ++ b → third ≡ second ++ c → last ≡ third ++ d → last ≡ a ++ b ++ (c ++ d)
of_parts {X = X} first second third last a b c d empty is second_is third_is last_is =
    let two : second ≡ a ++ b = second_is ∙ ap (λ (x : List X). x ++ b) (is ∙ ap (λ (x : List X). x ++ a) empty) in
    let three : third ≡ (a ++ b) ++ c = third_is ∙ ap (λ (x : List X). x ++ c) two in
    last_is ∙ ap (λ (x : List X). x ++ d) three ∙ append_assoc (a ++ b) c d

-- a member is nested less deeply than its object
member_depth : (k : List ℕ) (ms : Members) (v : Data) → get_member k ms ≡ Some v → depth v ≤ members_depth ms
member_depth k no_members v is = absurd (let clash : None ≡ Some v = is in cc)
member_depth k (member l e ms) v is = by (slice_cmp nat_cmp k l) (λ rest. member_depth k ms v rest) is
  where
    by : (o : Ordering) → (get_member k ms ≡ Some v → depth v ≤ members_depth ms)
        → match_ordering o (get_member k ms) (Some e) (get_member k ms) ≡ Some v
        → depth v ≤ max (depth e) (members_depth ms)
    by Less below is = let within = below is in omega (arith, within, le-max_right (depth e) (members_depth ms))
    by Equal below is =
        let both : Some e ≡ Some v = is in
        let same : e ≡ v = cc in
        subst (λ x. depth x ≤ max (depth e) (members_depth ms)) same (le-max_left (depth e) (members_depth ms))
    by Greater below is = let within = below is in omega (arith, within, le-max_right (depth e) (members_depth ms))

pub get_depth : (k : List ℕ) (d v : Data) (most : ℕ) → get k d ≡ Some v → depth d ≤ most → depth v ≤ most
get_depth k null v most is within = absurd (let clash : None ≡ Some v = is in cc)
get_depth k (boolean b) v most is within = absurd (let clash : None ≡ Some v = is in cc)
get_depth k (number n) v most is within = absurd (let clash : None ≡ Some v = is in cc)
get_depth k (string s) v most is within = absurd (let clash : None ≡ Some v = is in cc)
get_depth k (array ds) v most is within = absurd (let clash : None ≡ Some v = is in cc)
get_depth k (object ms) v most is within = omega (arith, within, member_depth k ms v is)

-- a member that is found is nested within a limit of its object
pub id_within : {V : Type 0} (view : V → Data) (found : Option V) (d : Data) (k : List ℕ) (most : ℕ)
    → option_map view found ≡ get k d → depth d ≤ most → IfSome found (λ v. depth (view v) ≤ most)
id_within view None d k most is within = tt
id_within view (Some v) d k most is within = get_depth k d (view v) most (sym is) within
