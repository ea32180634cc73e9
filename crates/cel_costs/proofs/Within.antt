-- What an expression comes to is within its size.
use Rattle.std.proofs.Common.{◌≡◌, ◌≤◌, ◌+◌, ◌==◌, ℕ, zero, suc, pos, negsuc, All, Bool, true, false, cond, nat_eq, List, [], ◌∷◌, ◌++◌, length, map, IfSome, Option, Some, None, option_map, codes, refl, ap, subst, arith, length-append}
use Rattle.std.specs.FinMap.{entries, len-entries}
use Rattle.std.specs.List.{after_first, before_first, position_or_len}
use Rattle.std.specs.Option.{option_and_then}
use Rattle.std.specs.Ordering.{is_lt}
use Rattle.std.specs.Str.{IsUtf8}
use Rattle.std.proofs.lemmas.List.{length-drop, length-take}
use Rattle.std.proofs.lemmas.Str.{encodes-append, encodes-chars}
use Rattle.attributes.specs.Attributes.{AttrData, HasAttrType, attr_of, attr_type, header_data, port_data, query_of, url_path_of, without_fragment}
use Rattle.attributes.specs.Attributes as attrs
use Rattle.attributes.specs.Headers.{Entry}
use Rattle.attributes.specs.Limits.{EntryInLimits, InLimits, IsWithin, LimitsValue}
use Rattle.attributes.specs.Request.{IsRequest, IsTextEntry, RequestValue, header_of}
use Rattle.attributes.specs.declared.attribute.AttrId.{AttrId}
use Rattle.attributes.specs.declared.attribute.AttrType.{AttrType}
use Rattle.attributes.proofs.HeaderMaps.{all_get}
use Rattle.attributes.proofs.TypedAttributes.{attr_typed}
use Rattle.cel_value.specs.Items.{item_at, joined_items}
use Rattle.cel_value.specs.Items as items
use Rattle.cel_value.specs.Keys.{get, is_ascending, key_cmp, key_of_value, put}
use Rattle.cel_value.specs.Equality.{key_eq}
use Rattle.cel_value.specs.Masses.{entry_count, item_count}
use Rattle.cel_value.specs.Texts.{points_of, utf8_of}
use Rattle.cel_value.specs.Types.{ValueType, list_type, map_type}
use Rattle.cel_value.specs.declared.cel_type.KeyType.{KeyType}
use Rattle.cel_value.specs.Values.{CelAnswer, CelEntries, CelKey, CelValue, CelValues, bool, bool_key, bytes, entry, fails, int, int_key, item, list, map_of, no_entries, no_items, text, text_key, uint, uint_key, value, value_of_key}
use Rattle.cel_value.specs.declared.error.CelError.{CelError}
use Rattle.cel_value.specs.declared.error.CelError.TheVariants.{Overflow, RepeatedKey}
use Rattle.cel_ops.specs.Arithmetic.{arithmetic, arithmetic_of, int_answer, is_int64, opposite, opposite_of}
use Rattle.cel_ops.specs.Attributes.{answer_of, attribute, header_entries}
use Rattle.cel_ops.specs.Collections.{all_put, are_distinct, at_key, entry_before, entry_of, field, field_of, found_or, has_field, has_field_of, in_list, in_list_of, in_map, in_map_of, keyed, numbered, size, item_of, list_literal, map_literal, map_made_of, value_at, written_entries}
use Rattle.cel_ops.specs.Collections as collections
use Rattle.cel_ops.specs.Comparison.{comparison, comparison_of}
use Rattle.cel_ops.specs.Logic.{conjunction, disjunction, logical_not, negation_of, not_strictly_false}
use Rattle.cel_ops.specs.Parts.{joined, joined_of, text_test, text_test_of}
use Rattle.cel_ops.specs.Strict.{Gathered, all_values, first_error, gather, gathered_after, strict_all, strict_two}
use Rattle.cel_overload.specs.Answers.{conditional, on_one, on_two, overload_answer}
use Rattle.cel_overload.specs.declared.overload.Overload.{Overload}
use Rattle.cel_ops.specs.declared.operation.Operation.TheVariants as operations
use Rattle.cel_overload.specs.declared.overload.Overload.TheVariants as overloads
use Rattle.cel_types.specs.WellTyped.{AreWellTyped, IsWellTyped}
use Rattle.cel_types.specs.Elaborated.{TypedTree, TypedTrees, kind, no_typed, typed, typed_attribute, typed_call, typed_constant, typed_field, typed_has, typed_list, typed_local, typed_loop, typed_map}
use Rattle.cel_types.specs.Meaning.{before, fold, one_each, over, turn, turns_of}
use Rattle.cel_types.specs.declared.typed.Variables.{Variables}
use Rattle.cel_types.specs.declared.typed.Variables.TheVariants as variables
use Rattle.cel_types.specs.TypedMeaning.{local_at, typed_answer, typed_answers}
use Rattle.cel_costs.specs.Costs.{attribute_size, call_size, concat_size, grown, join_all, keys_of, known, list_size, map_size, size_of, sizes_of, value_size, values_of, variable_sizes}
use Rattle.cel_costs.specs.Sizes.{AllWithin, EachFits, EntriesFit, Fits, Flat, HasRoom, KeyFits, Many, Size, Table, Text, Within, join, most_of}
use Rattle.cel_costs.proofs.Joins.{constant_within, each_left, each_right, entries_right, fits_left, grown_within, key_left, within_left, within_right}
use Rattle.cel_costs.proofs.Conversions.{converted_within}
use Rattle.cel_costs.proofs.Scalars.{IfWithin, calculated, compared, conjoined, disjoined, listed, mapped, named, negated, one_operand, one_within, opposed, scalar_within, sized, strict_scalar, tested, two_operands, two_scalar, unstrict}
use Rattle.cel_ops.proofs.AttributeTypes.{first_of, rest_of}

-- answers, if there are any, are within the sizes
abbrev pub IfAllWithin : Option (List CelAnswer) → List Size → Type 0
IfAllWithin None sizes = Unit {0}
IfAllWithin (Some answers) sizes = AllWithin answers sizes

-- a value, if there is one, is within the size
abbrev IfFits : Option CelValue → Size → Type 0
IfFits None s = Unit {0}
IfFits (Some v) s = Fits v s

-- ---- locals

lengths : (ls : List CelAnswer) (sizes : List Size) → AllWithin ls sizes → length ls ≡ length sizes
lengths [] [] h = refl
lengths [] (s ∷ sizes) h = absurd h
lengths (a ∷ ls) [] h = absurd h
lengths (a ∷ ls) (s ∷ sizes) h = ap suc (lengths ls sizes h.1)

local_within : (outside : ℕ) (ls : List CelAnswer) (sizes : List Size) → AllWithin ls sizes
    → IfWithin (local_at outside ls) (known (local_at outside sizes))
local_within n [] [] h = tt
local_within n [] (s ∷ sizes) h = absurd h
local_within n (a ∷ ls) [] h = absurd h
local_within n (a ∷ ls) (s ∷ sizes) h =
    rw (lengths ls sizes h.1) (at (nat_eq n (length sizes)) (local_within n ls sizes h.1))
  where
    at : (b : Bool) → IfWithin (local_at n ls) (known (local_at n sizes))
        → IfWithin (cond b (Some a) (local_at n ls)) (known (cond b (Some s) (local_at n sizes)))
    at true more = h.0
    at false more = more

-- ---- attributes

-- an attribute is within the size
abbrev DataFits : AttrData → Size → Type 0
DataFits (attrs.text bs) s = HasRoom (length bs) s
DataFits (attrs.int i) s = Unit {0}
DataFits (attrs.uint n) s = Unit {0}
DataFits (attrs.bool b) s = Unit {0}
DataFits (attrs.text_map headers) s = Fits (map_of (header_entries (entries headers))) s

-- a text's bytes are those of its code points
text_room : (bs : List ℕ) (s : Size) → IsUtf8 bs → HasRoom (length bs) s
    → HasRoom (length (utf8_of (points_of bs))) s
text_room bs s texts h = rw (encodes-chars bs texts) h

data_within : (t : AttrType) (found : Option AttrData) (s : Size) → IfSome found (HasAttrType t)
    → IfSome found (λ d. DataFits d s) → Within (answer_of found) s
data_within t None s h k = tt
data_within AttrType.Text (Some (attrs.text bs)) s h k = text_room bs s h k
data_within t (Some (attrs.int n)) s h k = tt
data_within t (Some (attrs.uint n)) s h k = tt
data_within t (Some (attrs.bool b)) s h k = tt
data_within t (Some (attrs.text_map headers)) s h k = k
data_within _ (Some (attrs.text bs)) s h k = absurd h

module _ (l : LimitsValue) where
  headers_fit : (es : List Entry) → All IsTextEntry es → All (EntryInLimits l) es
      → EntriesFit (header_entries es) (Text l.name) (Text l.value)
  headers_fit [] texts all = tt
  headers_fit (e ∷ es) texts all =
      let utf8 = first_of IsTextEntry e es texts in
      let within = first_of (EntryInLimits l) e es all in (
        text_room e.0 (Text l.name) utf8.0 within.0,
        text_room e.1 (Text l.value) utf8.1 within.1,
        headers_fit es (rest_of IsTextEntry e es texts) (rest_of (EntryInLimits l) e es all),
      )

  header_count : (es : List Entry) → entry_count (header_entries es) ≡ length es
  header_count [] = refl
  header_count (e ∷ es) = let more = header_count es in omega (arith, more)

  module _ (r : RequestValue) (sound : IsRequest r) (fits : InLimits r l) where
    before_length : (c : ℕ) (bs : List ℕ) → length (before_first (λ b. b == c) bs) ≤ length bs
    before_length c bs = omega (arith, length-take (position_or_len (λ b. b == c) bs) bs)

    after_length : (c : ℕ) (bs : List ℕ) → length (after_first (λ b. b == c) bs) ≤ length bs
    after_length c bs = omega (arith, length-drop (position_or_len (λ b. b == c) bs + 1) bs)

    header_fits : (name : List ℕ) → IfSome (header_data r name) (λ d. DataFits d (Text l.value))
    header_fits name = elim (header_of r name) as (λ o. header_of r name ≡ o
        → IfSome (option_map attrs.text o) (λ d. DataFits d (Text l.value))) [
          | None ↦ λ e. tt
          | Some v ↦ λ e. (all_get (EntryInLimits l) r.headers fits.headers name v e).1
        ] refl

    fact_fits : (o : Option (List ℕ)) → IsWithin l.text o
        → IfSome (option_map attrs.text o) (λ d. DataFits d (Text l.text))
    fact_fits None h = tt
    fact_fits (Some v) h = h

    port_fits : (o : Option ℕ) (s : Size) → IfSome (port_data o) (λ d. DataFits d s)
    port_fits None s = tt
    port_fits (Some n) s = tt

    number_fits : (o : Option ℕ) (s : Size)
        → IfSome (option_map attrs.uint o) (λ d. DataFits d s)
    number_fits None s = tt
    number_fits (Some n) s = tt

    flag_fits : (o : Option Bool) (s : Size) → IfSome (option_map attrs.bool o) (λ d. DataFits d s)
    flag_fits None s = tt
    flag_fits (Some b) s = tt

    path_length : length (url_path_of r.target) ≤ l.target
    path_length = omega (
      arith,
      before_length 63 (without_fragment r.target),
      before_length 35 r.target,
      fits.target,
    )

    query_length : length (query_of r.target) ≤ l.target
    query_length = omega (
      arith,
      after_length 63 (without_fragment r.target),
      before_length 35 r.target,
      fits.target,
    )

    map_length : length (entries r.headers) ≤ l.fields
    map_length = omega (arith, sound.few, fits.count, len-entries r.headers)

    attribute_fits : (id : AttrId)
        → IfSome (attr_of r id) (λ d. DataFits d (attribute_size l id))
    attribute_fits AttrId.RequestPath = fits.target
    attribute_fits AttrId.RequestUrlPath = path_length
    attribute_fits AttrId.RequestHost = header_fits (codes ":authority")
    attribute_fits AttrId.RequestScheme = fits.facts.1.1.1.1.1.1.1.0
    attribute_fits AttrId.RequestMethod = fits.method
    attribute_fits AttrId.RequestHeaders = (
      rw (header_count (entries r.headers)) map_length,
      headers_fit (entries r.headers) sound.headers fits.headers,
    )
    attribute_fits AttrId.RequestReferer = header_fits (codes "referer")
    attribute_fits AttrId.RequestUseragent = header_fits (codes "user-agent")
    attribute_fits AttrId.RequestId = header_fits (codes "x-request-id")
    attribute_fits AttrId.RequestProtocol = fits.protocol
    attribute_fits AttrId.RequestQuery = query_length
    attribute_fits AttrId.SourceAddress = fact_fits r.facts.source_address fits.facts.0
    attribute_fits AttrId.SourcePort = port_fits r.facts.source_port _
    attribute_fits AttrId.DestinationAddress =
        fact_fits r.facts.destination_address fits.facts.1.0
    attribute_fits AttrId.DestinationPort = port_fits r.facts.destination_port _
    attribute_fits AttrId.ConnectionMtls = flag_fits r.facts.mtls _
    attribute_fits AttrId.ConnectionId = number_fits r.facts.connection_id _
    attribute_fits AttrId.ConnectionRequestedServerName =
        fact_fits r.facts.requested_server_name fits.facts.1.1.0
    attribute_fits AttrId.ConnectionTlsVersion = fact_fits r.facts.tls_version fits.facts.1.1.1.0
    attribute_fits AttrId.ConnectionSubjectPeerCertificate =
        fact_fits r.facts.subject_peer_certificate fits.facts.1.1.1.1.0
    attribute_fits AttrId.ConnectionDnsSanPeerCertificate =
        fact_fits r.facts.dns_san_peer_certificate fits.facts.1.1.1.1.1.0
    attribute_fits AttrId.ConnectionUriSanPeerCertificate =
        fact_fits r.facts.uri_san_peer_certificate fits.facts.1.1.1.1.1.1.0

    -- what an attribute of a request within the limits comes to
    pub attribute_within : (id : AttrId) → Within (attribute r id) (attribute_size l id)
    attribute_within id = data_within (attr_type id) (attr_of r id) (attribute_size l id)
        (attr_typed r sound id) (attribute_fits id)

-- ---- what is found

item_fits : (vs : CelValues) (i : ℕ) (e : Size) → EachFits vs e → IfFits (item_at vs i) e
item_fits no_items i e h = tt
item_fits (item v vs) zero e h = h.0
item_fits (item v vs) (suc i) e h = item_fits vs i e h.1

get_fits : (es : CelEntries) (q : CelKey) (k v : Size) → EntriesFit es k v → IfFits (get es q) v
get_fits no_entries q k v h = tt
get_fits (entry j w es) q k v h = at (key_eq j q) (get_fits es q k v h.2)
  where
    at : (b : Bool) → IfFits (get es q) v → IfFits (cond b (Some w) (get es q)) v
    at true more = h.1
    at false more = more

found_within : (e : CelError) (o : Option CelValue) (s : Size) → IfFits o s
    → Within (found_or (fails e) o) s
found_within e None s h = tt
found_within e (Some v) s h = h

index_within : (v w : CelValue) (s : Size) → Fits v s → IfWithin (item_of v w) (value_size s)
index_within (list vs) (int (pos n)) Flat h = absurd h
index_within (list vs) (int (pos n)) (Text m) h = absurd h
index_within (list vs) (int (pos n)) (Many m e) h =
    found_within _ (item_at vs n) e (item_fits vs n e h.1)
index_within (list vs) (int (pos n)) (Table m k v) h =
    found_within _ (item_at vs n) v (item_fits vs n v h.2)
index_within (list vs) (int (negsuc n)) s h = tt
index_within _ _ s h = tt

at_key_within : (es : CelEntries) (o : Option CelKey) (k v : Size) → EntriesFit es k v
    → IfWithin (at_key value_at es o) v
at_key_within es None k v h = tt
at_key_within es (Some q) k v h = at (is_ascending es)
  where
    at : (b : Bool) → IfWithin (cond b (Some (value_at es q)) None) v
    at true = found_within _ (get es q) v (get_fits es q k v h)
    at false = tt

map_value_within : (es : CelEntries) (o : Option CelKey) (s : Size) → Fits (map_of es) s
    → IfWithin (at_key value_at es o) (value_size s)
map_value_within es o Flat h = absurd h
map_value_within es o (Text n) h = absurd h
map_value_within es o (Many n e) h = absurd h
map_value_within es o (Table n k v) h = at_key_within es o k v h.1

entry_within : (v w : CelValue) (s : Size) → Fits v s → IfWithin (entry_of v w) (value_size s)
entry_within (map_of es) w s h = map_value_within es (key_of_value w) s h
entry_within _ w s h = tt

field_within : (name : List ℕ) (v : CelValue) (s : Size) → Fits v s
    → IfWithin (field_of name v) (value_size s)
field_within name (map_of es) s h = map_value_within es (Some (text_key name)) s h
field_within name _ s h = tt

-- ---- what is joined

utf8_joined : (cs ds : List ℕ) → utf8_of (cs ++ ds) ≡ utf8_of cs ++ utf8_of ds
utf8_joined cs ds = encodes-append cs ds

two_rooms : (n m : ℕ) (s t : Size) → HasRoom n s → HasRoom m t → HasRoom (n + m) (concat_size s t)
two_rooms n m Flat t h k = absurd h
two_rooms n m s Flat h k = absurd k
two_rooms n m (Text p) (Text q) h k = omega arith
two_rooms n m (Text p) (Many q f) h k = omega arith
two_rooms n m (Text p) (Table q j w) h k = omega arith
two_rooms n m (Many p e) (Text q) h k = omega arith
two_rooms n m (Many p e) (Many q f) h k = omega arith
two_rooms n m (Many p e) (Table q j w) h k = omega arith
two_rooms n m (Table p i v) (Text q) h k = omega arith
two_rooms n m (Table p i v) (Many q f) h k = omega arith
two_rooms n m (Table p i v) (Table q j w) h k = omega arith

item_counts : (vs ws : CelValues)
    → item_count (joined_items vs ws) ≡ item_count vs + item_count ws
item_counts no_items ws = omega arith
item_counts (item v vs) ws = let more = item_counts vs ws in omega (arith, more)

each_joined : (vs ws : CelValues) (e : Size) → EachFits vs e → EachFits ws e
    → EachFits (joined_items vs ws) e
each_joined no_items ws e h k = k
each_joined (item v vs) ws e h k = (h.0, each_joined vs ws e h.1 k)

lists_joined : (vs ws : CelValues) (s t : Size) → Fits (list vs) s → Fits (list ws) t
    → Fits (list (joined_items vs ws)) (concat_size s t)
lists_joined vs ws Flat t h k = absurd h
lists_joined vs ws (Text n) t h k = absurd h
lists_joined vs ws s Flat h k = absurd k
lists_joined vs ws s (Text n) h k = absurd k
lists_joined vs ws (Many n e) (Many m f) h k = (
  omega (arith, item_counts vs ws, h.0, k.0),
  each_joined vs ws (join e f) (each_left vs e f h.1) (each_right ws e f k.1),
)
lists_joined vs ws (Many n e) (Table m j w) h k = (
  omega (arith, item_counts vs ws, h.0, k.0),
  each_joined vs ws (join e j) (each_left vs e j h.1) (each_right ws e j k.1),
  each_joined vs ws (join e w) (each_left vs e w h.1) (each_right ws e w k.2),
)
lists_joined vs ws (Table n i v) (Many m f) h k = (
  omega (arith, item_counts vs ws, h.0, k.0),
  each_joined vs ws (join i f) (each_left vs i f h.1) (each_right ws i f k.1),
  each_joined vs ws (join v f) (each_left vs v f h.2) (each_right ws v f k.1),
)
lists_joined vs ws (Table n i v) (Table m j w) h k = (
  omega (arith, item_counts vs ws, h.0, k.0),
  each_joined vs ws (join i j) (each_left vs i j h.1) (each_right ws i j k.1),
  each_joined vs ws (join v w) (each_left vs v w h.2) (each_right ws v w k.2),
)

joined_within : (v w : CelValue) (s t : Size) → Fits v s → Fits w t
    → IfWithin (joined_of v w) (concat_size s t)
joined_within (text a) (text b) s t h k =
    rw (utf8_joined a b, length-append (utf8_of a) (utf8_of b))
    (two_rooms (length (utf8_of a)) (length (utf8_of b)) s t h k)
joined_within (bytes a) (bytes b) s t h k =
    rw (length-append a b) (two_rooms (length a) (length b) s t h k)
joined_within (list a) (list b) s t h k = lists_joined a b s t h k
joined_within _ _ s t h k = tt

-- ---- calls

strict_within : (f : CelValue → CelValue → Option CelAnswer) (z s t : Size)
    → ((v w : CelValue) → Fits v s → Fits w t → IfWithin (f v w) z)
    → (a b : CelAnswer) → Within a s → Within b t → IfWithin (strict_two f a b) z
strict_within f z s t each (fails e) b h k = tt
strict_within f z s t each (value v) (fails e) h k = tt
strict_within f z s t each (value v) (value w) h k = each v w h k

two_within : (f : CelAnswer → CelAnswer → Option CelAnswer) (z : List Size → Size)
    → ((a b : CelAnswer) (s t : Size) → Within a s → Within b t → IfWithin (f a b) (z (s ∷ t ∷ [])))
    → (answers : List CelAnswer) (sizes : List Size) → AllWithin answers sizes
    → IfWithin (on_two f answers) (z sizes)
two_within f z each [] sizes h = tt
two_within f z each (a ∷ []) sizes h = tt
two_within f z each (a ∷ b ∷ []) [] h = absurd h
two_within f z each (a ∷ b ∷ []) (s ∷ []) h = absurd h.1
two_within f z each (a ∷ b ∷ []) (s ∷ t ∷ []) h = each a b s t h.0 h.1.0
two_within f z each (a ∷ b ∷ []) (s ∷ t ∷ u ∷ ss) h = absurd h.1.1
two_within f z each (a ∷ b ∷ c ∷ answers) sizes h = tt

-- the branch that is chosen
choice_within : (c : CelAnswer) (answers : List CelAnswer) (u : Size) (sizes : List Size)
    → AllWithin answers sizes
    → IfWithin (conditional (c ∷ answers)) (call_size overloads.Conditional (u ∷ sizes))
choice_within (value (bool true)) [] u sizes h = tt
choice_within (value (bool true)) (a ∷ []) u sizes h = tt
choice_within (value (bool true)) (a ∷ b ∷ []) u [] h = absurd h
choice_within (value (bool true)) (a ∷ b ∷ []) u (s ∷ []) h = absurd h.1
choice_within (value (bool true)) (a ∷ b ∷ []) u (s ∷ t ∷ []) h = within_left a s t h.0
choice_within (value (bool true)) (a ∷ b ∷ []) u (s ∷ t ∷ r ∷ ss) h = absurd h.1.1
choice_within (value (bool true)) (a ∷ b ∷ c ∷ answers) u sizes h = tt
choice_within (value (bool false)) [] u sizes h = tt
choice_within (value (bool false)) (a ∷ []) u sizes h = tt
choice_within (value (bool false)) (a ∷ b ∷ []) u [] h = absurd h
choice_within (value (bool false)) (a ∷ b ∷ []) u (s ∷ []) h = absurd h.1
choice_within (value (bool false)) (a ∷ b ∷ []) u (s ∷ t ∷ []) h = within_right b s t h.1.0
choice_within (value (bool false)) (a ∷ b ∷ []) u (s ∷ t ∷ r ∷ ss) h = absurd h.1.1
choice_within (value (bool false)) (a ∷ b ∷ c ∷ answers) u sizes h = tt
choice_within (fails e) [] u sizes h = tt
choice_within (fails e) (a ∷ []) u sizes h = tt
choice_within (fails e) (a ∷ b ∷ []) u sizes h = tt
choice_within (fails e) (a ∷ b ∷ c ∷ answers) u sizes h = tt
choice_within (value _) answers u sizes h = tt

conditional_within : (answers : List CelAnswer) (sizes : List Size) → AllWithin answers sizes
    → IfWithin (conditional answers) (call_size overloads.Conditional sizes)
conditional_within [] sizes h = tt
conditional_within (c ∷ answers) [] h = absurd h
conditional_within (c ∷ answers) (u ∷ sizes) h = choice_within c answers u sizes h.1

-- a call's answer is within its size
pub overload_within : (o : Overload) (answers : List CelAnswer) (sizes : List Size)
    → AllWithin answers sizes → IfWithin (overload_answer o answers) (call_size o sizes)
overload_within (overloads.Operate operations.And) given sizes h =
    scalar_within (on_two conjunction given) Flat (two_operands conjunction conjoined given)
overload_within (overloads.Operate operations.Or) given sizes h =
    scalar_within (on_two disjunction given) Flat (two_operands disjunction disjoined given)
overload_within (overloads.Operate operations.Not) given sizes h = scalar_within (on_one logical_not given) Flat
    (one_operand logical_not (strict_scalar negation_of negated) given)
overload_within (overloads.Operate operations.NotStrictlyFalse) given sizes h =
    scalar_within (on_one not_strictly_false given) Flat
    (one_operand not_strictly_false unstrict given)
overload_within overloads.Conditional given sizes h = conditional_within given sizes h
overload_within (overloads.Operate (operations.Compare op)) given sizes h =
    scalar_within (on_two (comparison op) given) Flat
    (two_operands (comparison op) (two_scalar (comparison_of op) (compared op)) given)
overload_within (overloads.Operate (operations.Arithmetic op)) given sizes h =
    scalar_within (on_two (arithmetic op) given) Flat
    (two_operands (arithmetic op) (two_scalar (arithmetic_of op) (calculated op)) given)
overload_within (overloads.Operate operations.Concat) given sizes h =
    two_within joined (call_size (overloads.Operate operations.Concat))
    (λ a b s t ha hb. strict_within joined_of (concat_size s t) s t
    (λ v w hv hw. joined_within v w s t hv hw) a b ha hb) given sizes h
overload_within (overloads.Operate operations.Negate) given sizes h = scalar_within (on_one opposite given) Flat
    (one_operand opposite (strict_scalar opposite_of opposed) given)
overload_within (overloads.Operate operations.ListIndex) given sizes h =
    two_within collections.list_index (call_size (overloads.Operate operations.ListIndex))
    (λ a b s t ha hb. strict_within item_of (value_size s) s t
    (λ v w hv hw. index_within v w s hv) a b ha hb) given sizes h
overload_within (overloads.Operate operations.MapIndex) given sizes h =
    two_within collections.map_index (call_size (overloads.Operate operations.MapIndex))
    (λ a b s t ha hb. strict_within entry_of (value_size s) s t
    (λ v w hv hw. entry_within v w s hv) a b ha hb) given sizes h
overload_within (overloads.Operate operations.InList) given sizes h = scalar_within (on_two in_list given) Flat
    (two_operands in_list (two_scalar in_list_of listed) given)
overload_within (overloads.Operate operations.InMap) given sizes h = scalar_within (on_two in_map given) Flat
    (two_operands in_map (two_scalar in_map_of mapped) given)
overload_within (overloads.Operate operations.Size) given sizes h = scalar_within (on_one size given) Flat
    (one_operand size (strict_scalar collections.size_of sized) given)
overload_within (overloads.Operate (operations.Convert kind)) given sizes h = converted_within kind given sizes h
overload_within (overloads.Operate (operations.TestText test)) given sizes h =
    scalar_within (on_two (text_test test) given) Flat
    (two_operands (text_test test) (two_scalar (text_test_of test) (tested test)) given)

-- ---- literals

-- values that are gathered are at most so many, each within the size
abbrev ItemsFit : Gathered → ℕ → Size → Type 0
ItemsFit (all_values vs) n e = (item_count vs ≤ n) × EachFits vs e
ItemsFit (first_error x) n e = Unit {0}

items_gathered : (answers : List CelAnswer) (sizes : List Size) → AllWithin answers sizes
    → ItemsFit (gather answers) (length sizes) (join_all sizes)
items_gathered [] [] h = (omega arith, tt)
items_gathered [] (s ∷ ss) h = absurd h
items_gathered (a ∷ answers) [] h = absurd h
items_gathered (fails e ∷ answers) (s ∷ ss) h = tt
items_gathered (value v ∷ answers) (s ∷ ss) h = at (gather answers) (items_gathered answers ss h.1)
  where
    at : (g : Gathered) → ItemsFit g (length ss) (join_all ss)
        → ItemsFit (gathered_after v g) (length (s ∷ ss)) (join s (join_all ss))
    at (all_values vs) more = (
      omega (arith, more.0),
      (fits_left v s (join_all ss) h.0, each_right vs s (join_all ss) more.1),
    )
    at (first_error e) more = tt

-- a list literal is within its size
pub list_within : (t k : ValueType) (answers : List CelAnswer) (sizes : List Size) → t ≡ list_type k
    → AllWithin answers sizes → IfWithin (list_literal answers) (list_size t sizes)
list_within t k [] [] e h = rw e (omega arith, tt)
list_within t k (a ∷ answers) [] e h = absurd h
list_within t k answers (s ∷ ss) e h = at (gather answers) (items_gathered answers (s ∷ ss) h)
  where
    at : (g : Gathered) → ItemsFit g (length (s ∷ ss)) (join_all (s ∷ ss))
        → IfWithin (strict_all (λ vs. Some (value (list vs))) g) (list_size t (s ∷ ss))
    at (all_values vs) each = each
    at (first_error e) each = tt

-- a key, if there is one, is within the size
abbrev IfKeyFits : Option CelKey → Size → Type 0
IfKeyFits None s = Unit {0}
IfKeyFits (Some k) s = KeyFits k s

key_fits : (v : CelValue) (s : Size) → Fits v s → IfKeyFits (key_of_value v) s
key_fits (bool b) s h = tt
key_fits (int i) s h = tt
key_fits (uint n) s h = tt
key_fits (text cs) s h = h
key_fits _ s h = tt

-- entries, if there are any, are at most so many, each within the sizes
abbrev WrittenFit : Option CelEntries → ℕ → (keys values : Size) → Type 0
WrittenFit None n k v = Unit {0}
WrittenFit (Some es) n k v = (entry_count es ≤ n) × EntriesFit es k v

-- the same of keys and values that are gathered
abbrev PairsFit : Gathered → ℕ → (keys values : Size) → Type 0
PairsFit (all_values vs) n k v = WrittenFit (written_entries vs) n k v
PairsFit (first_error e) n k v = Unit {0}

entry_fits : (o : Option CelKey) (w : CelValue) (found : Option CelEntries) (n : ℕ)
    (s t k v : Size) → IfKeyFits o s → Fits w t → WrittenFit found n k v
    → WrittenFit (entry_before o w found) (suc n) (join s k) (join t v)
entry_fits None w found n s t k v ho hw h = tt
entry_fits (Some q) w None n s t k v ho hw h = tt
entry_fits (Some q) w (Some es) n s t k v ho hw h = (
  omega (arith, h.0),
  (key_left q s k ho, fits_left w t v hw, entries_right es s t k v h.1),
)

pairs_gathered : (answers : List CelAnswer) (sizes : List Size) → AllWithin answers sizes
    → PairsFit (gather answers) (length (keys_of sizes)) (join_all (keys_of sizes))
    (join_all (values_of sizes))
pairs_gathered [] [] h = (omega arith, tt)
pairs_gathered [] (s ∷ ss) h = absurd h
pairs_gathered (a ∷ answers) [] h = absurd h
pairs_gathered (fails e ∷ answers) (s ∷ ss) h = tt
pairs_gathered (value w ∷ []) (s ∷ ss) h = tt
pairs_gathered (value w ∷ b ∷ answers) (s ∷ []) h = absurd h.1
pairs_gathered (value w ∷ fails e ∷ answers) (s ∷ t ∷ ss) h = tt
pairs_gathered (value w ∷ value v ∷ answers) (s ∷ t ∷ ss) h =
    at (gather answers) (pairs_gathered answers ss h.1.1)
  where
    at : (g : Gathered)
        → PairsFit g (length (keys_of ss)) (join_all (keys_of ss)) (join_all (values_of ss))
        → PairsFit (gathered_after w (gathered_after v g)) (length (s ∷ keys_of ss))
        (join s (join_all (keys_of ss))) (join t (join_all (values_of ss)))
    at (all_values vs) more = entry_fits (key_of_value w) v (written_entries vs)
        (length (keys_of ss)) s t (join_all (keys_of ss)) (join_all (values_of ss))
        (key_fits w s h.0) h.1.0 more
    at (first_error e) more = tt

put_count : (k : CelKey) (v : CelValue) (es : CelEntries)
    → entry_count (put k v es) ≡ 1 + entry_count es
put_count k v no_entries = refl
put_count k v (entry j w es) = at (is_lt (key_cmp k j)) (put_count k v es)
  where
    at : (b : Bool) → entry_count (put k v es) ≡ 1 + entry_count es
        → entry_count (cond b (entry k v (entry j w es)) (entry j w (put k v es)))
        ≡ 1 + (1 + entry_count es)
    at true more = refl
    at false more = omega (arith, more)

put_fits : (q : CelKey) (w : CelValue) (es : CelEntries) (k v : Size) → KeyFits q k → Fits w v
    → EntriesFit es k v → EntriesFit (put q w es) k v
put_fits q w no_entries k v hq hw h = (hq, hw, tt)
put_fits q w (entry j u es) k v hq hw h =
    at (is_lt (key_cmp q j)) (put_fits q w es k v hq hw h.2)
  where
    at : (b : Bool) → EntriesFit (put q w es) k v
        → EntriesFit (cond b (entry q w (entry j u es)) (entry j u (put q w es))) k v
    at true more = (hq, hw, h)
    at false more = (h.0, h.1, more)

all_put_count : (made es : CelEntries)
    → entry_count (all_put made es) ≡ entry_count made + entry_count es
all_put_count made no_entries = omega arith
all_put_count made (entry k v es) =
    let more = all_put_count (put k v made) es in omega (arith, more, put_count k v made)

all_put_fits : (made es : CelEntries) (k v : Size) → EntriesFit made k v → EntriesFit es k v
    → EntriesFit (all_put made es) k v
all_put_fits made no_entries k v g h = g
all_put_fits made (entry q w es) k v g h =
    all_put_fits (put q w made) es k v (put_fits q w made k v h.0 h.1 g) h.2

made_within : (es : CelEntries) (n : ℕ) (k v : Size) → entry_count es ≤ n → EntriesFit es k v
    → Within (map_made_of es) (Table n k v)
made_within es n k v few h = at (are_distinct es)
  where
    at : (b : Bool)
        → Within (cond b (value (map_of (all_put no_entries es))) (fails RepeatedKey)) (Table n k v)
    at true = (omega (arith, all_put_count no_entries es), all_put_fits no_entries es k v tt h)
    at false = tt

written_within : (found : Option CelEntries) (n : ℕ) (k v : Size) → WrittenFit found n k v
    → IfWithin (option_map map_made_of found) (Table n k v)
written_within None n k v h = tt
written_within (Some es) n k v h = made_within es n k v h.0 h.1

-- a map literal is within its size
pub map_literal_within : (t : ValueType) (k : KeyType) (v : ValueType) (answers : List CelAnswer) (sizes : List Size) → t ≡ map_type k v
    → AllWithin answers sizes → IfWithin (map_literal answers) (map_size t sizes)
map_literal_within t k v [] [] e h = rw e (omega arith, tt)
map_literal_within t k v (a ∷ answers) [] e h = absurd h
map_literal_within t k v answers (s ∷ ss) e h = at (gather answers) (pairs_gathered answers (s ∷ ss) h)
  where
    at : (g : Gathered) → PairsFit g (length (keys_of (s ∷ ss))) (join_all (keys_of (s ∷ ss)))
        (join_all (values_of (s ∷ ss)))
        → IfWithin (strict_all (λ vs. option_map map_made_of (written_entries vs)) g)
        (map_size t (s ∷ ss))
    at (all_values vs) pairs = written_within (written_entries vs) (length (keys_of (s ∷ ss)))
        (join_all (keys_of (s ∷ ss))) (join_all (values_of (s ∷ ss))) pairs
    at (first_error e) pairs = tt

-- ---- comprehensions

-- answers within their sizes before others within theirs
pub all_within_more : (vs ls : List CelAnswer) (each sizes : List Size) → AllWithin vs each
    → AllWithin ls sizes → AllWithin (vs ++ ls) (each ++ sizes)
all_within_more [] ls [] sizes h more = more
all_within_more [] ls (s ∷ each) sizes h more = absurd h
all_within_more (v ∷ vs) ls [] sizes h more = absurd h
all_within_more (v ∷ vs) ls (s ∷ each) sizes h more =
    (h.0, all_within_more vs ls each sizes h.1 more)

-- in each turn, what the variables get is within these sizes
abbrev pub TurnsWithin : List (List CelAnswer) → List Size → Type 0
TurnsWithin [] each = Unit {0}
TurnsWithin (vs ∷ turns) each = AllWithin vs each × TurnsWithin turns each

-- turns, if there are any, are at most as many as the size says, within the sizes of the variables
abbrev pub IfTurns : Variables → Option (List (List CelAnswer)) → Size → Type 0
IfTurns vars None s = Unit {0}
IfTurns vars (Some turns) s = (length turns ≤ most_of s) × TurnsWithin turns (variable_sizes vars s)

key_value_fits : (k : CelKey) (s : Size) → KeyFits k s → Fits (value_of_key k) s
key_value_fits (bool_key b) s h = tt
key_value_fits (int_key i) s h = tt
key_value_fits (uint_key n) s h = tt
key_value_fits (text_key cs) s h = h

one_within_each : (vs : CelValues) (e : Size) → EachFits vs e → TurnsWithin (one_each vs) (e ∷ [])
one_within_each no_items e h = tt
one_within_each (item v vs) e h = ((h.0, tt), one_within_each vs e h.1)

one_count : (vs : CelValues) → length (one_each vs) ≡ item_count vs
one_count no_items = refl
one_count (item v vs) = let more = one_count vs in omega (arith, more)

keys_fit : (es : CelEntries) (k v : Size) → EntriesFit es k v → EachFits (items.key_items es) k
keys_fit no_entries k v h = tt
keys_fit (entry j w es) k v h = (key_value_fits j k h.0, keys_fit es k v h.2)

key_count : (es : CelEntries) → item_count (items.key_items es) ≡ entry_count es
key_count no_entries = refl
key_count (entry j w es) = let more = key_count es in omega (arith, more)

-- an int or an error is within every size
index_fits : (n : ℕ) (s : Size) → Within (int_answer (pos n)) s
index_fits n s = at (is_int64 (pos n))
  where
    at : (b : Bool) → Within (cond b (value (int (pos n))) (fails Overflow)) s
    at true = tt
    at false = tt

numbered_within : (n : ℕ) (vs : CelValues) (e k : Size) → EachFits vs e
    → TurnsWithin (map (λ pair. value pair.1 ∷ pair.0 ∷ []) (numbered n vs)) (e ∷ k ∷ [])
numbered_within n no_items e k h = tt
numbered_within n (item v vs) e k h =
    ((h.0, (index_fits n k, tt)), numbered_within (suc n) vs e k h.1)

numbered_count : (n : ℕ) (vs : CelValues)
    → length (map (λ pair. value pair.1 ∷ pair.0 ∷ []) (numbered n vs)) ≡ item_count vs
numbered_count n no_items = refl
numbered_count n (item v vs) = let more = numbered_count (suc n) vs in omega (arith, more)

keyed_within : (es : CelEntries) (k v : Size) → EntriesFit es k v
    → TurnsWithin (map (λ pair. value pair.1 ∷ pair.0 ∷ []) (keyed es)) (v ∷ k ∷ [])
keyed_within no_entries k v h = tt
keyed_within (entry j w es) k v h =
    ((h.1, (key_value_fits j k h.0, tt)), keyed_within es k v h.2)

keyed_count : (es : CelEntries)
    → length (map (λ pair. value pair.1 ∷ pair.0 ∷ []) (keyed es)) ≡ entry_count es
keyed_count no_entries = refl
keyed_count (entry j w es) = let more = keyed_count es in omega (arith, more)

-- the turns over a value within a size
pub turns_within : (vars : Variables) (v : CelValue) (s : Size) → Fits v s → IfTurns vars (turns_of vars v) s
turns_within variables.One (list vs) Flat h = absurd h
turns_within variables.One (list vs) (Text n) h = absurd h
turns_within variables.One (list vs) (Many n e) h =
    (omega (arith, h.0, one_count vs), one_within_each vs e h.1)
turns_within variables.One (list vs) (Table n k v) h =
    (omega (arith, h.0, one_count vs), one_within_each vs k h.1)
turns_within variables.One (map_of es) Flat h = absurd h
turns_within variables.One (map_of es) (Text n) h = absurd h
turns_within variables.One (map_of es) (Many n e) h = absurd h
turns_within variables.One (map_of es) (Table n k v) h = (
  omega (arith, h.0, key_count es, one_count (items.key_items es)),
  one_within_each (items.key_items es) k (keys_fit es k v h.1),
)
turns_within variables.Two (list vs) Flat h = absurd h
turns_within variables.Two (list vs) (Text n) h = absurd h
turns_within variables.Two (list vs) (Many n e) h =
    (omega (arith, h.0, numbered_count 0 vs), numbered_within 0 vs e Flat h.1)
turns_within variables.Two (list vs) (Table n k v) h =
    (omega (arith, h.0, numbered_count 0 vs), numbered_within 0 vs v k h.2)
turns_within variables.Two (map_of es) Flat h = absurd h
turns_within variables.Two (map_of es) (Text n) h = absurd h
turns_within variables.Two (map_of es) (Many n e) h = absurd h
turns_within variables.Two (map_of es) (Table n k v) h =
    (omega (arith, h.0, keyed_count es), keyed_within es k v h.1)
turns_within variables.One _ s h = tt
turns_within variables.Two _ s h = tt

turn_within : (condition step : Option CelAnswer) (next : CelAnswer → Option CelAnswer)
    (ended : Option CelAnswer) (s z : Size) → IfWithin step s
    → ((a : CelAnswer) → Within a s → IfWithin (next a) z) → IfWithin ended z
    → IfWithin (turn condition step next ended) z
turn_within None step next ended s z h n e = tt
turn_within (Some (fails d)) step next ended s z h n e = tt
turn_within (Some (value (bool true))) None next ended s z h n e = tt
turn_within (Some (value (bool true))) (Some a) next ended s z h n e = n a h
turn_within (Some (value (bool false))) step next ended s z h n e = e
turn_within (Some (value _)) step next ended s z h n e = tt

-- a fold over turns within the sizes of the variables, by the sizes of its step and of its result
pub fold_within : (condition step : List CelAnswer → CelAnswer → Option CelAnswer)
    (result : CelAnswer → Option CelAnswer) (next : Size → Size) (each : List Size)
    (ended : Size → Size)
    → ((vs : List CelAnswer) (a : CelAnswer) (s : Size) → AllWithin vs each → Within a s
    → IfWithin (step vs a) (next s))
    → ((a : CelAnswer) (s : Size) → Within a s → IfWithin (result a) (ended s))
    → (turns : List (List CelAnswer)) (n : ℕ) (a : CelAnswer) (s : Size) → length turns ≤ n
    → TurnsWithin turns each → Within a s
    → IfWithin (fold condition step result turns a) (ended (grown next n s))
fold_within condition step result next each ended have last [] n a s few h ha =
    last a (grown next n s) (grown_within next n s a ha)
fold_within condition step result next each ended have last (vs ∷ turns) zero a s few h ha =
    absurd (omega arith)
fold_within condition step result next each ended have last (vs ∷ turns) (suc n) a s few h ha =
    turn_within (condition vs a) (step vs a) (fold condition step result turns) (result a) (next s)
    (ended (grown next (suc n) s)) (have vs a s h.0 ha)
    (λ b hb. fold_within condition step result next each ended have last turns n b
    (join s (next s)) (omega arith) h.1 (within_right b s (next s) hb))
    (last a (grown next (suc n) s) (grown_within next (suc n) s a ha))

over_within : (vars : Variables) (o : Option CelAnswer) (go : List (List CelAnswer) → Option CelAnswer)
    (s z : Size) → IfWithin o s
    → ((turns : List (List CelAnswer)) → length turns ≤ most_of s
    → TurnsWithin turns (variable_sizes vars s) → IfWithin (go turns) z)
    → IfWithin (over vars o go) z
over_within vars None go s z h each = tt
over_within vars (Some (fails e)) go s z h each = tt
over_within vars (Some (value v)) go s z h each = at (turns_of vars v) (turns_within vars v s h)
  where
    at : (found : Option (List (List CelAnswer))) → IfTurns vars found s
        → IfWithin (option_and_then go found) z
    at None have = tt
    at (Some turns) have = each turns have.0 have.1

-- ---- expressions

then_within : (f : CelAnswer → Option CelAnswer) (o : Option CelAnswer) (s z : Size)
    → IfWithin o s → ((a : CelAnswer) → Within a s → IfWithin (f a) z)
    → IfWithin (option_and_then f o) z
then_within f None s z h each = tt
then_within f (Some a) s z h each = each a h

all_then_within : (f : List CelAnswer → Option CelAnswer) (o : Option (List CelAnswer))
    (sizes : List Size) (z : Size) → IfAllWithin o sizes
    → ((answers : List CelAnswer) → AllWithin answers sizes → IfWithin (f answers) z)
    → IfWithin (option_and_then f o) z
all_then_within f None sizes z h each = tt
all_then_within f (Some answers) sizes z h each = each answers h

before_within : (o : Option CelAnswer) (others : Option (List CelAnswer)) (s : Size)
    (sizes : List Size) → IfWithin o s → IfAllWithin others sizes
    → IfAllWithin (before o others) (s ∷ sizes)
before_within None others s sizes h hs = tt
before_within (Some a) None s sizes h hs = tt
before_within (Some a) (Some answers) s sizes h hs = (h, hs)

-- a Select's answer
pub select_within : (name : List ℕ) (a : CelAnswer) (s : Size) → Within a s
    → IfWithin (field name a) (value_size s)
select_within name a s h =
    one_within (field_of name) s (value_size s) (λ v hv. field_within name v s hv) a h

-- whether a map has a name
pub has_within : (name : List ℕ) (a : CelAnswer) (s : Size) → IfWithin (has_field name a) s
has_within name a s =
    scalar_within (has_field name a) s (strict_scalar (has_field_of name) (named name) a)

module _ (l : LimitsValue) (r : RequestValue) (sound : IsRequest r) (fits : InLimits r l) where
  mutual
    within_here : (e : TypedTree) (ks : List ValueType) → IsWellTyped ks e → (ls : List CelAnswer) (sizes : List Size) → AllWithin ls sizes
        → IfWithin (typed_answer e r ls) (size_of e l sizes)
    within_here (typed_constant t v) ks g ls sizes h = constant_within v t g.0
    within_here (typed_local t outside) ks g ls sizes h = local_within outside ls sizes h
    within_here (typed_attribute t a) ks g ls sizes h = attribute_within l r sound fits a
    within_here (typed_field t on name) ks g ls sizes h =
        then_within (field name) (typed_answer on r ls) (size_of on l sizes)
        (value_size (size_of on l sizes)) (within_here on ks g.0 ls sizes h)
        (λ a ha. select_within name a (size_of on l sizes) ha)
    within_here (typed_has t on name) ks g ls sizes h =
        then_within (has_field name) (typed_answer on r ls) (size_of on l sizes) Flat
        (within_here on ks g.0 ls sizes h) (λ a ha. has_within name a Flat)
    within_here (typed_call t o operands) ks g ls sizes h =
        all_then_within (overload_answer o) (typed_answers operands r ls)
        (sizes_of operands l sizes) (call_size o (sizes_of operands l sizes))
        (all_within_here operands ks g.0 ls sizes h)
        (λ answers have. overload_within o answers (sizes_of operands l sizes) have)
    within_here (typed_list t elements) ks g ls sizes h =
        all_then_within list_literal (typed_answers elements r ls) (sizes_of elements l sizes)
        (list_size t (sizes_of elements l sizes)) (all_within_here elements ks g.0 ls sizes h)
        (λ answers have. list_within t g.1.0 answers (sizes_of elements l sizes) g.1.1 have)
    within_here (typed_map t pairs) ks g ls sizes h =
        all_then_within map_literal (typed_answers pairs r ls) (sizes_of pairs l sizes)
        (map_size t (sizes_of pairs l sizes)) (all_within_here pairs ks g.0 ls sizes h)
        (λ answers have. map_literal_within t g.1.0 g.1.1 answers (sizes_of pairs l sizes) g.1.2 have)
    within_here (typed_loop t vars range init condition step result) ks g ls sizes h =
        let over_size : Size = size_of range l sizes in
        let each : List Size = variable_sizes vars over_size in
        let first : Size = size_of init l sizes in
        let next : Size → Size = λ s. size_of step l (each ++ s ∷ sizes) in
        let ended : Size → Size = λ s. size_of result l (s ∷ sizes) in
        let go : CelAnswer → List (List CelAnswer) → Option CelAnswer = λ a turns. fold
        (λ vs b. typed_answer condition r (vs ++ b ∷ ls))
        (λ vs b. typed_answer step r (vs ++ b ∷ ls))
        (λ b. typed_answer result r (b ∷ ls)) turns a in
        over_within vars (typed_answer range r ls)
        (λ turns. option_and_then (λ a. go a turns) (typed_answer init r ls))
        over_size (ended (grown next (most_of over_size) first))
        (within_here range ks g.0 ls sizes h)
        (λ turns few have. then_within (λ a. go a turns) (typed_answer init r ls) first
        (ended (grown next (most_of over_size) first)) (within_here init ks g.1 ls sizes h)
        (λ a ha. fold_within (λ vs b. typed_answer condition r (vs ++ b ∷ ls))
        (λ vs b. typed_answer step r (vs ++ b ∷ ls))
        (λ b. typed_answer result r (b ∷ ls)) next each ended
        (λ vs b s hv hb. within_here step (g.2.0 ++ kind init ∷ ks) g.2.4 (vs ++ b ∷ ls)
        (each ++ s ∷ sizes) (all_within_more vs (b ∷ ls) each (s ∷ sizes) hv (hb, h)))
        (λ b s hb. within_here result (kind init ∷ ks) g.3 (b ∷ ls) (s ∷ sizes) (hb, h))
        turns (most_of over_size) a first few have ha))

    all_within_here : (es : TypedTrees) (ks : List ValueType) → AreWellTyped ks es → (ls : List CelAnswer) (sizes : List Size)
        → AllWithin ls sizes → IfAllWithin (typed_answers es r ls) (sizes_of es l sizes)
    all_within_here no_typed ks g ls sizes h = tt
    all_within_here (typed e es) ks g ls sizes h =
        before_within (typed_answer e r ls) (typed_answers es r ls) (size_of e l sizes)
        (sizes_of es l sizes) (within_here e ks g.0 ls sizes h) (all_within_here es ks g.1 ls sizes h)

-- what an expression comes to is within its size
pub answer_within : (e : TypedTree) (ks : List ValueType) → IsWellTyped ks e → (r : RequestValue) → IsRequest r → (l : LimitsValue)
    → InLimits r l → (ls : List CelAnswer) (sizes : List Size) → AllWithin ls sizes
    → (a : CelAnswer) → typed_answer e r ls ≡ Some a → Within a (size_of e l sizes)
answer_within e ks g r sound l fits ls sizes h a is =
    subst (λ o. IfWithin o (size_of e l sizes)) is (within_here l r sound fits e ks g ls sizes h)

-- and so is each of expressions one after the other
pub answers_within : (es : TypedTrees) (ks : List ValueType) → AreWellTyped ks es → (r : RequestValue) → IsRequest r → (l : LimitsValue)
    → InLimits r l → (ls : List CelAnswer) (sizes : List Size) → AllWithin ls sizes
    → (answers : List CelAnswer) → typed_answers es r ls ≡ Some answers
    → AllWithin answers (sizes_of es l sizes)
answers_within es ks g r sound l fits ls sizes h answers is =
    subst (λ o. IfAllWithin o (sizes_of es l sizes)) is
    (all_within_here l r sound fits es ks g ls sizes h)
