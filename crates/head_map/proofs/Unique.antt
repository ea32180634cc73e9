-- A front's request gives one client's request at most, or has a fault.
use Rattle.std.proofs.Common.{◌≡◌, ◌∙◌, ℕ, zero, suc, ◌<◌, true, false, List, [], ◌∷◌, length, get_or, ap, refl, sym, arith, Any, Bool}
use Rattle.std.specs.List.{AllZip, list_all}
use Rattle.std.specs.String.{string_bytes}
use Rattle.attributes.specs.Headers.{Entry, values_of}
use Rattle.attributes.proofs.OneAddress.{one_address}
use Rattle.attributes.specs.Address.{unmapped}
use Rattle.attributes.specs.declared.address.Ip.{Ip}
use Rattle.head_map.specs.declared.fact.Fact.{Fact}
use Rattle.head_map.specs.declared.fact.Fact.TheVariants as facts
use Rattle.head_map.specs.declared.fact.MapFault.{MapFault}
use Rattle.head_map.specs.declared.fact.MapFault.TheVariants.{Doubled, Missing, Unreadable}
use Rattle.head_map.specs.declared.fact.NamedFact.{NamedFact}
use Rattle.head_map.specs.Claims.{Claim, IsClientIp, Reads, direct_remote_ip, parts_of, remote_ip, without_back_blanks, without_front_blanks}
use Rattle.head_map.specs.Mapped.{HasMapFault, IsMapped, MappingValue, PartsValue, Says, SaysFault, absent, doubled, is_present, mapped, missing, no_mapping, other_lines, silent, unreadable}
use Rattle.head_map.proofs.Forwarding.{one_part}

-- a text spells one address, in one form
one_client : (text : List ℕ) (i j : Ip) → IsClientIp text i → IsClientIp text j → i ≡ j
one_client text i j (a, x, p) (b, y, q) = p ∙ ap unmapped (one_address text a b x y) ∙ sym q

-- a value says one thing
one_claim : (fact : Fact) (value : List ℕ) (a b : Claim) → Reads fact value a → Reads fact value b → a ≡ b
one_claim facts.Method value a b (x, p) (y, q) = p ∙ sym q
one_claim facts.Target value a b (x, p) (y, q) = p ∙ sym q
one_claim facts.Host value a b (x, p) (y, q) = p ∙ sym q
one_claim facts.Scheme value a b (x, p) (y, q) = p ∙ sym q
one_claim facts.RemoteIp value a b (i, x, p) (j, y, q) = p ∙ ap remote_ip (one_client value i j x y) ∙ sym q
one_claim (facts.ForwardedFor place) value a b (i, (part, at, x), p) (j, (other, there, y), q) =
    let same : other ≡ part = one_part place (parts_of value) part other at there in
    let y_too = ap (λ (t : List ℕ). without_back_blanks (without_front_blanks t)) same in
    p ∙ ap remote_ip (one_client (without_back_blanks (without_front_blanks part)) i j x (rw y_too at y)) ∙ sym q
one_claim facts.DirectRemoteIp value a b (i, x, p) (j, y, q) = p ∙ ap direct_remote_ip (one_client value i j x y) ∙ sym q
one_claim facts.SourcePort value a b (i, (x, u, is), p) (j, (y, v, was), q) = cc
one_claim (facts.Mtls is) value a b p q = p ∙ sym q
one_claim facts.RequestedServerName value a b p q = p ∙ sym q
one_claim facts.SubjectPeerCertificate value a b p q = p ∙ sym q
one_claim facts.DnsSanPeerCertificate value a b p q = p ∙ sym q
one_claim facts.UriSanPeerCertificate value a b p q = p ∙ sym q

-- a field says one thing
one_said : (lines : List Entry) (named : NamedFact) (a b : Claim) → Says lines named a → Says lines named b → a ≡ b
one_said lines named a b (value, one, x) (other, two, y) =
    let same : other ≡ value = cc in one_claim named.fact value a b x (rw same at y)

-- fields say one list of claims
all_said : (lines : List Entry) (named : List NamedFact) (a b : List Claim) → AllZip (Says lines) named a
    → AllZip (Says lines) named b → a ≡ b
all_said lines [] [] [] p q = refl
all_said lines [] (x ∷ a) b p q = absurd p
all_said lines [] [] (y ∷ b) p q = absurd q
all_said lines (n ∷ named) [] b p q = absurd p
all_said lines (n ∷ named) (x ∷ a) [] p q = absurd q
all_said lines (n ∷ named) (x ∷ a) (y ∷ b) (first, more) (second, others) =
    let head : x ≡ y = one_said lines n x y first second in
    let tail : a ≡ b = all_said lines named a b more others in cc

pub one_mapped : (m : MappingValue) (old new other : PartsValue) → IsMapped m old new → IsMapped m old other → new ≡ other
one_mapped m old new other a b =
    a.value ∙ ap (λ (said : List Claim). mapped m said old) (all_said old.lines m.named a.claims b.claims a.say b.say)
    ∙ sym b.value

-- each field of those says something
said_at : (lines : List Entry) (named : List NamedFact) (claims : List Claim) → AllZip (Says lines) named claims
    → (k : ℕ) (d : NamedFact) → k < length named → (claim : Claim) × Says lines (get_or named k d) claim
said_at lines [] claims all k d inside = absurd (omega arith)
said_at lines (n ∷ named) [] all k d inside = absurd all
said_at lines (n ∷ named) (c ∷ claims) (first, others) zero d inside = (c, first)
said_at lines (n ∷ named) (c ∷ claims) (first, others) (suc k) d inside =
    said_at lines named claims others k d (omega arith)

-- a field that says something has no fault
no_fault : (lines : List Entry) (named : NamedFact) (claim : Claim) (fault : MapFault) → Says lines named claim
    → ¬ (SaysFault lines named fault)
no_fault lines named claim fault (value, one, reads) (missing none is) = let clash : value ∷ [] ≡ [] = sym one ∙ none in absurd cc
no_fault lines named claim fault (value, one, reads) (doubled many is) =
    let single : length (values_of (string_bytes named.field) lines) ≡ 1 = ap length one in absurd (omega (arith, many, single))
no_fault lines named claim fault (value, one, reads) (unreadable other two never is) =
    let same : value ≡ other = cc in never claim (rw same at reads)

pub mapped_or_fault : (m : MappingValue) (old new : PartsValue) (fault : MapFault) → IsMapped m old new
    → ¬ (HasMapFault m old.lines fault)
mapped_or_fault m old new fault is (absent lacks which) = let clash : true ≡ false = sym is.required ∙ lacks in absurd cc
mapped_or_fault m old new fault is (silent (k, named, inside, at, says)) =
    let some = said_at old.lines m.named is.claims is.say k named inside in
    no_fault old.lines named some.0 fault (rw at at some.1) says

-- no line is named by no field
others_all : (lines : List Entry) → other_lines [] lines ≡ lines
others_all [] = refl
others_all (line ∷ lines) = ap (λ (more : List Entry). line ∷ more) (others_all lines)

-- without fields the parts are as they were
same_parts : (old : PartsValue) → mapped no_mapping [] old ≡ old
same_parts old = ap (λ (lines : List Entry). record old { lines = lines }) (others_all old.lines)

no_claims : (lines : List Entry) (claims : List Claim) → AllZip (Says lines) [] claims → claims ≡ []
no_claims lines [] all = refl
no_claims lines (claim ∷ claims) all = absurd all

pub unmapped_same : (old new : PartsValue) → IsMapped no_mapping old new → new ≡ old
unmapped_same old new is =
    is.value ∙ ap (λ (said : List Claim). mapped no_mapping said old) (no_claims old.lines is.claims is.say) ∙ same_parts old

pub unmapped_there : (old : PartsValue) → IsMapped no_mapping old old
unmapped_there old = record { claims = []; say = tt; required = refl; value = sym (same_parts old) }

-- a field says something or has a fault
said_or_fault : (lines : List Entry) (named : NamedFact) → ((claim : Claim) → ¬ (Says lines named claim))
    → ((fault : MapFault) → ¬ (SaysFault lines named fault)) → ⊥
said_or_fault lines named silence sound = by_values (values_of (string_bytes named.field) lines) refl
  where
    by_values : (values : List (List ℕ)) → values_of (string_bytes named.field) lines ≡ values → ⊥
    by_values [] is = sound Missing (missing is refl)
    by_values (value ∷ []) is =
        sound Unreadable (unreadable value is (λ claim reads. silence claim (value, is, reads)) refl)
    by_values (value ∷ other ∷ values) is =
        let many : length (values_of (string_bytes named.field) lines) ≡ suc (suc (length values)) = ap length is in
        sound Doubled (doubled (omega (arith, many)) refl)

-- all fields say something, or one has a fault
said_or_silent : (lines : List Entry) (named : List NamedFact)
    → ((claims : List Claim) → ¬ (AllZip (Says lines) named claims))
    → ((fault : MapFault) → ¬ (Any (λ n. SaysFault lines n fault) named)) → ⊥
said_or_silent lines [] silence sound = silence [] tt
said_or_silent lines (n ∷ named) silence sound =
    said_or_fault lines n
    (λ claim says. said_or_silent lines named
    (λ claims all. silence (claim ∷ claims) (says, all))
    (λ fault (k, x, inside, is, says_fault). sound fault (suc k, x, omega arith, is, says_fault)))
    (λ fault says_fault. sound fault (0, n, omega arith, refl, says_fault))

pub one_or_other : (m : MappingValue) (old : PartsValue) → ((new : PartsValue) → ¬ (IsMapped m old new))
    → ((fault : MapFault) → ¬ (HasMapFault m old.lines fault)) → ⊥
one_or_other m old none sound = by_test (list_all (is_present old.lines) m.required) refl
  where
    by_test : (t : Bool) → list_all (is_present old.lines) m.required ≡ t → ⊥
    by_test false is = sound Missing (absent is refl)
    by_test true is =
        said_or_silent old.lines m.named
        (λ claims all. none (mapped m claims old) (record { claims = claims; say = all; required = is; value = refl }))
        (λ fault says_fault. sound fault (silent says_fault))
