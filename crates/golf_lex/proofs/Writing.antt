-- What is written is the tokens with inserted semicolons, without optional separators.
-- For: `with_lexemes` and `finished`, golf_lex/specs/Output.antt; `tokens_of`, golf_lex_tokens/specs/Semicolons.antt.
-- By: induction over the list of lexemes.
use Rattle.std.proofs.Common.{◌≡◌, ℕ, ◌+◌, Bool, true, false, cond, ◌&&◌, List, [], ◌∷◌, ◌++◌, refl, sym, ap, ◌∙◌}
use Rattle.std.proofs.Common.{append_assoc}
use Rattle.std.specs.Prelude.{Option, Some, None, MatchOption, option_to_list, nat_eq}
use Rattle.golf_lex_tokens.specs.declared.token.Token.{Token}
use Rattle.golf_lex_tokens.specs.declared.token.TokenKind.{TokenKind}
use Rattle.golf_lex_tokens.specs.Bytes.{newlines}
use Rattle.golf_lex_tokens.specs.Lexemes.{Class, Blank, LineComment, GeneralComment, Lexeme}
use Rattle.golf_lex_tokens.specs.Lexemes as lexemes
use Rattle.golf_lex_tokens.specs.Semicolons.{Item, Of, Newline, newline_in, lexeme_items, items, may_end, line_ends}
use Rattle.golf_lex_tokens.specs.Semicolons.{semicolon, semicolon_behind, inserted, is_separator, is_closing, closes}
use Rattle.golf_lex_tokens.specs.Semicolons.{without_optional, tokens_of}
use Rattle.golf_lex.specs.declared.output.Output.{Output}
use Rattle.golf_lex.specs.Output.{empty, released, pushed, with_token, line_ended_by, line_ended, with_space}
use Rattle.golf_lex.specs.Output.{with_class, moved, with_lexemes, finished}

-- what is held back is a separator
abbrev pub Holds : Option Token → Type 0
Holds held = MatchOption held (Unit {0}) (λ token. is_separator token.kind ≡ true)

-- the tokens written, and those that are left to write
unfoldable pub left : List Token → Option Token → List Token → List Token
left tokens held rest = tokens ++ without_optional (option_to_list held ++ rest)

released-left : (tokens : List Token) (held : Option Token) (token : Token) (rest : List Token) → Holds held
    → left tokens held (token ∷ rest) ≡ released tokens held token ++ without_optional (token ∷ rest)
unfolding left
released-left tokens None token rest h = refl
released-left tokens (Some s) token rest h =
    ap (λ t. tokens ++ cond (t && is_closing token.kind) (without_optional (token ∷ rest))
    (s ∷ without_optional (token ∷ rest))) h ∙ at (is_closing token.kind)
  where
    at : (t : Bool) → tokens ++ cond t (without_optional (token ∷ rest)) (s ∷ without_optional (token ∷ rest))
        ≡ cond t tokens (tokens ++ s ∷ []) ++ without_optional (token ∷ rest)
    at true = refl
    at false = sym (append_assoc tokens (s ∷ []) (without_optional (token ∷ rest)))

-- a token that is pushed is written first of those that are left
pushed-left : (o : Output) (token : Token) (rest : List Token) → Holds o.held
    → left (pushed o token).tokens (pushed o token).held rest ≡ left o.tokens o.held (token ∷ rest)
unfolding left
pushed-left o token rest h = at (is_separator token.kind) refl ∙ sym (released-left o.tokens o.held token rest h)
  where
    at : (t : Bool) → is_separator token.kind ≡ t
        → left (cond t (record o { tokens = released o.tokens o.held token; held = Some token })
        (record o { tokens = released o.tokens o.held token ++ token ∷ []; held = None })).tokens
        (cond t (record o { tokens = released o.tokens o.held token; held = Some token })
        (record o { tokens = released o.tokens o.held token ++ token ∷ []; held = None })).held rest
        ≡ released o.tokens o.held token ++ without_optional (token ∷ rest)
    at true e = refl
    at false e =
        append_assoc (released o.tokens o.held token) (token ∷ []) (without_optional rest)
        ∙ ap (λ t. released o.tokens o.held token
        ++ cond (t && closes rest) (without_optional rest) (token ∷ without_optional rest)) (sym e)

pushed-holds : (o : Output) (token : Token) → Holds (pushed o token).held
pushed-holds o token = at (is_separator token.kind) refl
  where
    at : (t : Bool) → is_separator token.kind ≡ t
        → Holds (cond t (record o { tokens = released o.tokens o.held token; held = Some token })
        (record o { tokens = released o.tokens o.held token ++ token ∷ []; held = None })).held
    at true e = e
    at false e = tt

pub pushed-line : (o : Output) (token : Token) → ((pushed o token).line ≡ o.line)
    × ((pushed o token).semicolon ≡ o.semicolon)
pushed-line o token = at (is_separator token.kind)
  where
    at : (t : Bool) → ((cond t (record o { tokens = released o.tokens o.held token; held = Some token })
        (record o { tokens = released o.tokens o.held token ++ token ∷ []; held = None })).line ≡ o.line)
        × ((cond t (record o { tokens = released o.tokens o.held token; held = Some token })
        (record o { tokens = released o.tokens o.held token ++ token ∷ []; held = None })).semicolon ≡ o.semicolon)
    at true = (refl, refl)
    at false = (refl, refl)

-- the semicolon that is inserted where the line ends, or the file
unfoldable pub now_by : Option ℕ → List Token
now_by None = []
now_by (Some line) = semicolon line ∷ []

-- the semicolon that is inserted before these items
unfoldable pub pending : Option ℕ → List Item → List Token
pending wanted rest = cond (line_ends rest) (now_by wanted) []

line_ended-facts : (o : Output) (rest : List Token) → Holds o.held
    → (left (line_ended o).tokens (line_ended o).held rest ≡ left o.tokens o.held (now_by o.semicolon ++ rest))
    × (Holds (line_ended o).held) × ((line_ended o).semicolon ≡ None) × ((line_ended o).line ≡ o.line)
unfolding now_by
line_ended-facts o rest h = by o.semicolon refl
  where
    by : (s : Option ℕ) → o.semicolon ≡ s → (left (line_ended_by o s).tokens (line_ended_by o s).held rest
        ≡ left o.tokens o.held (now_by s ++ rest)) × (Holds (line_ended_by o s).held)
        × ((line_ended_by o s).semicolon ≡ None) × ((line_ended_by o s).line ≡ o.line)
    by None e = (refl, h, e, refl)
    by (Some line) e =
        let before : Output = record o { semicolon = None } in
        let kept = pushed-line before (semicolon line) in
        (pushed-left before (semicolon line) rest h, pushed-holds before (semicolon line), kept.1, kept.0)

-- at the end what is held back is written
flushed : (tokens : List Token) (held : Option Token) → Holds held → tokens ++ option_to_list held ≡ left tokens held []
unfolding left
flushed tokens None h = refl
flushed tokens (Some s) h = ap (λ t. tokens ++ cond (t && false) [] (s ∷ [])) (sym h)

-- all that is left of the items, after what was written
abbrev pub rest_of : Option ℕ → List Item → List Token
rest_of wanted rest = pending wanted rest ++ inserted rest

pending-token : (kind : TokenKind) (line : ℕ) (rest : List Item)
    → pending (cond (may_end kind) (Some line) None) rest ≡ semicolon_behind (record { kind = kind; line = line }) rest
unfolding pending now_by
pending-token kind line rest = at (may_end kind) (line_ends rest)
  where
    at : (m e : Bool) → cond e (now_by (cond m (Some line) None)) [] ≡ cond (m && e) (semicolon line ∷ []) []
    at true true = refl
    at true false = refl
    at false true = refl
    at false false = refl

pending-none : (rest : List Item) → pending None rest ≡ []
unfolding pending now_by
pending-none rest = at (line_ends rest)
  where
    at : (e : Bool) → cond e (now_by None) [] ≡ []
    at true = refl
    at false = refl

-- what is written at the end, if these lexemes follow
abbrev pub Later : List Lexeme → Type 0
Later ps = (o : Output) → Holds o.held → finished (with_lexemes o ps) ≡ left o.tokens o.held
    (rest_of o.semicolon (items o.line ps))

writes-token : (o : Output) (kind : TokenKind) (bytes : List ℕ) (ps : List Lexeme) → Holds o.held → Later ps
    → finished (with_lexemes (moved (with_token o kind) bytes) ps) ≡ left o.tokens o.held
    (rest_of o.semicolon (Of (record { kind = kind; line = o.line }) ∷ items (o.line + newlines bytes) ps))
unfolding pending
writes-token o kind bytes ps h later =
    let token : Token = record { kind = kind; line = o.line } in
    let rest = items (o.line + newlines bytes) ps in
    let wanted = cond (may_end kind) (Some o.line) None in
    later (moved (with_token o kind) bytes) (pushed-holds o token)
    ∙ ap (λ n. left (pushed o token).tokens (pushed o token).held (rest_of wanted (items (n + newlines bytes) ps)))
    (pushed-line o token).0
    ∙ pushed-left o token (rest_of wanted rest) h
    ∙ ap (λ xs. left o.tokens o.held (token ∷ (xs ++ inserted rest))) (pending-token kind o.line rest)

writes-space : (o : Output) (bytes : List ℕ) (ps : List Lexeme) → Holds o.held → Later ps
    → finished (with_lexemes (moved (with_space o bytes) bytes) ps) ≡ left o.tokens o.held
    (rest_of o.semicolon (newline_in bytes ++ items (o.line + newlines bytes) ps))
unfolding pending
writes-space o bytes ps h later = at (nat_eq (newlines bytes) 0)
  where
    at : (t : Bool) → finished (with_lexemes (moved (cond t o (line_ended o)) bytes) ps) ≡ left o.tokens o.held
        (rest_of o.semicolon (cond t [] (Newline ∷ []) ++ items (o.line + newlines bytes) ps))
    at true = later (moved o bytes) h
    at false =
        let rest = items (o.line + newlines bytes) ps in
        let f = line_ended-facts o (inserted rest) h in
        later (moved (line_ended o) bytes) f.1
        ∙ ap (λ n. left (line_ended o).tokens (line_ended o).held
        (rest_of (line_ended o).semicolon (items (n + newlines bytes) ps))) f.3
        ∙ ap (λ w. left (line_ended o).tokens (line_ended o).held (rest_of w rest)) f.2
        ∙ ap (λ xs. left (line_ended o).tokens (line_ended o).held (xs ++ inserted rest)) (pending-none rest)
        ∙ f.0

pub writes-left : (ps : List Lexeme) → Later ps
unfolding pending
writes-left [] o h =
    let f = line_ended-facts o [] h in
    flushed (line_ended o).tokens (line_ended o).held f.1 ∙ f.0
writes-left (p ∷ ps) o h = by p.class (writes-left ps)
  where
    by : (class : Class) → Later ps → finished (with_lexemes (moved (with_class o class p.bytes) p.bytes) ps)
        ≡ left o.tokens o.held (rest_of o.semicolon
        (lexeme_items o.line class p.bytes ++ items (o.line + newlines p.bytes) ps))
    by Blank later = writes-space o p.bytes ps h later
    by LineComment later = writes-space o p.bytes ps h later
    by GeneralComment later = writes-space o p.bytes ps h later
    by (lexemes.Of kind) later = writes-token o kind p.bytes ps h later

-- what is written of the lexemes of a file is its tokens
pub writes-tokens : (ps : List Lexeme) → finished (with_lexemes empty ps) ≡ tokens_of ps
unfolding left
writes-tokens ps = writes-left ps empty tt
    ∙ ap (λ xs. without_optional (xs ++ inserted (items 1 ps))) (pending-none (items 1 ps))
