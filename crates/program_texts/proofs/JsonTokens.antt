-- A line feed after the text of tokens changes none of them.
use Rattle.std.proofs.Common.{◌≡◌, ℕ, Bool, true, false, cond, ◌&&◌, List, [], ◌∷◌, ◌++◌, refl, sym, ap, ap₂, ◌∙◌, append_assoc}
use Rattle.json.specs.Token.{Token, begin_object, end_object, begin_array, end_array, key, string, number, boolean, null, bad}
use Rattle.json.specs.Word.{ends_word, word}
use Rattle.json.specs.Lex.{Lexeme, token, comma, colon, string_token, lex, between, fresh, punctuate, tokens}
use Rattle.json.specs.Print.{escape, quoted, token_text, begins, ends, print_from, print, IsPrintable, ArePrintable}
use Rattle.json.proofs.Printed.Strings.{content-escape, lex-escape}
use Rattle.json.proofs.Printed.Numbers.{lex-number, in_word-ended}
use Rattle.json.proofs.Printed.Tokens.{tokens-print}

-- the lexemes of a token
abbrev lexemes_of : Token → List Lexeme
lexemes_of begin_object = token begin_object ∷ []
lexemes_of end_object = token end_object ∷ []
lexemes_of begin_array = token begin_array ∷ []
lexemes_of end_array = token end_array ∷ []
lexemes_of (key s) = token (string s) ∷ colon ∷ []
lexemes_of (string s) = token (string s) ∷ []
lexemes_of (number s) = token (number s) ∷ []
lexemes_of (boolean b) = token (boolean b) ∷ []
lexemes_of null = token null ∷ []
lexemes_of bad = []

-- a text in quotes is one lexeme
lex_quoted : (s r : List ℕ) → lex between (quoted s ++ r) ≡ token (string s) ∷ lex between r
unfolding lex
lex_quoted s r =
    ap (λ l. lex between (34 ∷ l)) (append_assoc (escape s) (34 ∷ []) r)
    ∙ ap₂ (λ o l. token (string_token o) ∷ l) (content-escape s r) (lex-escape s r)

-- the text of a token gives its lexemes, if a word ends after it
lex_token : (t : Token) (r : List ℕ) → IsPrintable t → (ends t ≡ true → ends_word r ≡ true)
    → lex between (token_text t ++ r) ≡ lexemes_of t ++ lex between r
unfolding lex word
lex_token begin_object r h ended = refl
lex_token end_object r h ended = refl
lex_token begin_array r h ended = refl
lex_token end_array r h ended = refl
lex_token (key s) r h ended = ap (lex between) (append_assoc (quoted s) (58 ∷ []) r) ∙ lex_quoted s (58 ∷ r)
lex_token (string s) r h ended = lex_quoted s r
lex_token (number s) r h ended = lex-number s r h (ended refl)
lex_token (boolean true) r h ended =
    ap₂ (λ b l. token (cond b (boolean true) bad) ∷ l) (ended refl) (in_word-ended r (ended refl))
lex_token (boolean false) r h ended =
    ap₂ (λ b l. token (cond b (boolean false) bad) ∷ l) (ended refl) (in_word-ended r (ended refl))
lex_token null r h ended = ap₂ (λ b l. token (cond b null bad) ∷ l) (ended refl) (in_word-ended r (ended refl))
lex_token bad r h ended = absurd h

lex_comma : (b : Bool) (r : List ℕ) → lex between (cond b (44 ∷ []) [] ++ r) ≡ cond b (comma ∷ []) [] ++ lex between r
unfolding lex
lex_comma true r = refl
lex_comma false r = refl

-- after a value a word ends, also where the text does
ended_alone : (ts : List Token) → ends_word (print_from true ts) ≡ true
unfolding print_from
ended_alone [] = refl
ended_alone (begin_object ∷ ts) = refl
ended_alone (end_object ∷ ts) = refl
ended_alone (begin_array ∷ ts) = refl
ended_alone (end_array ∷ ts) = refl
ended_alone (key s ∷ ts) = refl
ended_alone (string s ∷ ts) = refl
ended_alone (number s ∷ ts) = refl
ended_alone (boolean b ∷ ts) = refl
ended_alone (null ∷ ts) = refl
ended_alone (bad ∷ ts) = refl

-- and where a line feed follows
ended_by_feed : (ts : List Token) → ends_word (print_from true ts ++ 10 ∷ []) ≡ true
unfolding print_from
ended_by_feed [] = refl
ended_by_feed (begin_object ∷ ts) = refl
ended_by_feed (end_object ∷ ts) = refl
ended_by_feed (begin_array ∷ ts) = refl
ended_by_feed (end_array ∷ ts) = refl
ended_by_feed (key s ∷ ts) = refl
ended_by_feed (string s ∷ ts) = refl
ended_by_feed (number s ∷ ts) = refl
ended_by_feed (boolean b ∷ ts) = refl
ended_by_feed (null ∷ ts) = refl
ended_by_feed (bad ∷ ts) = refl

-- a token before texts with the same lexemes
lex_either : (t : Token) (r s : List ℕ) → IsPrintable t → (ends t ≡ true → ends_word r ≡ true)
    → (ends t ≡ true → ends_word s ≡ true) → lex between r ≡ lex between s
    → lex between (token_text t ++ r) ≡ lex between (token_text t ++ s)
lex_either t r s h ended_r ended_s same =
    lex_token t r h ended_r ∙ ap (λ l. lexemes_of t ++ l) same ∙ sym (lex_token t s h ended_s)

lex_feed : (c : Bool) (ts : List Token) → ArePrintable ts → lex between (print_from c ts ++ 10 ∷ []) ≡ lex between (print_from c ts)
unfolding lex print_from ArePrintable
lex_feed c [] h = refl
lex_feed c (t ∷ ts) h =
    let b = c && begins t in
    let rest = print_from (ends t) ts in
    ap (lex between) (append_assoc (cond b (44 ∷ []) []) (token_text t ++ rest) (10 ∷ [])
    ∙ ap (λ l. cond b (44 ∷ []) [] ++ l) (append_assoc (token_text t) rest (10 ∷ [])))
    ∙ lex_comma b _
    ∙ ap (λ l. cond b (comma ∷ []) [] ++ l)
    (lex_either t (rest ++ 10 ∷ []) rest h.0
    (λ e. ap (λ d. ends_word (print_from d ts ++ 10 ∷ [])) e ∙ ended_by_feed ts)
    (λ e. ap (λ d. ends_word (print_from d ts)) e ∙ ended_alone ts) (lex_feed (ends t) ts h.1))
    ∙ sym (lex_comma b _)

-- the tokens that were printed are read back from the line
pub tokens_line : (ts : List Token) → ArePrintable ts → tokens (print ts ++ 10 ∷ []) ≡ ts
tokens_line ts h = ap (punctuate fresh) (lex_feed false ts h) ∙ tokens-print ts h
