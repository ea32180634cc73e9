-- Members that are put in the order of the facts' names are those of the facts that are known.
use Rattle.std.proofs.Common.{◌≡◌, ◌<◌, ◌+◌, ℕ, true, List, [], ◌∷◌, ◌++◌, Option, Some, None, length, take, get_or, refl, sym, ap, ◌∙◌}
use Rattle.std.proofs.lemmas.Bool.{and_parts}
use Rattle.std.proofs.lemmas.List.{take_more}
use Rattle.attributes.specs.Conn.{Facts}
use Rattle.serde_json.specs.Data.{Data, Members, no_members}
use Rattle.program_texts.specs.Facts.{name_of}
use Rattle.program_texts.specs.WrittenFacts.{fact_data, facts_by_name, known_members, known_then}
use Rattle.program_texts.specs.declared.fact.Fact.{Fact}
use Rattle.program_texts.proofs.FactLines.{ascend, below_known}
use Rattle.program_texts.proofs.JsonLines.{AllBelow, IsBelow, all_below_last, join_none, joined, joined_last, none_below, put_last, with_last}
use Rattle.serve_log.specs.private.PutFacts.{put_facts, put_known}

module _ (f : Facts) where
  -- the members of one fact more
  put_more : (facts : List Fact) (fact : Fact) (ms : Members)
      → put_facts f (facts ++ fact ∷ []) ms ≡ put_known (name_of fact) (fact_data fact f) (put_facts f facts ms)
  put_more [] fact ms = refl
  put_more (first ∷ facts) fact ms = put_more facts fact (put_known (name_of first) (fact_data first f) ms)

  -- a step of the loop
  pub put_next : (facts : List Fact) (i : ℕ) (d : Fact) (now next first : Members) → i < length facts
      → now ≡ put_facts f (take i facts) first
      → next ≡ put_known (name_of (get_or facts i d)) (fact_data (get_or facts i d) f) now
      → next ≡ put_facts f (take (i + 1) facts) first
  put_next facts i d now next first below so_far is =
      let fact = get_or facts i d in
      is ∙ ap (put_known (name_of fact) (fact_data fact f)) so_far ∙ sym (put_more (take i facts) fact first)
      ∙ ap (λ l. put_facts f l first) (sym (take_more facts i d below))

  put_first : (name : List ℕ) (o : Option Data) (facts : List Fact) (ms found : Members)
      → ((g : Members) → AllBelow g ms → put_facts f facts g ≡ joined g ms) → IsBelow name ms
      → AllBelow found (known_then name o ms) → put_facts f facts (put_known name o found) ≡ joined found (known_then name o ms)
  put_first name None facts ms found more above below = more found below
  put_first name (Some d) facts ms found more above below =
      ap (put_facts f facts) (put_last found name d below.0)
      ∙ more (with_last found name d) (all_below_last found name d ms below.1 above)
      ∙ joined_last found name d ms

  puts : (facts : List Fact) (found : Members) → ascend facts ≡ true → AllBelow found (known_members f facts)
      → put_facts f facts found ≡ joined found (known_members f facts)
  puts [] found up below = sym (join_none found)
  puts (fact ∷ facts) found up below =
      let p = and_parts _ _ up in
      put_first (name_of fact) (fact_data fact f) facts (known_members f facts) found (λ g b. puts facts g p.1 b)
      (below_known f (name_of fact) facts p.0) below

  -- all of them
  pub puts_known : put_facts f facts_by_name no_members ≡ known_members f facts_by_name
  puts_known = puts facts_by_name no_members refl (none_below (known_members f facts_by_name))
