-- Doctypes (WHATWG HTML, 13.2.5.53 to 13.2.5.68).
use Rattle.std.specs.Prelude.{◌==◌, ◌||◌, if◌then◌else◌, [], ◌∷◌, Bool, List, None, Option, Some, codes, drop, false}
use Rattle.std.specs.Prelude.{length, not, true, ℕ}
use Rattle.html_lexemes.specs.declared.token.Doctype.{Doctype}
use Rattle.token_grammar.specs.Characters.{name_of, shown_text}
use Rattle.token_grammar.specs.Slices.{after, begins, begins_word, cut, cut_or_all, front_while, rest_while}
use Rattle.token_grammar.specs.Tags.{ends_unquoted, without_spaces}

-- a doctype, and what follows it
pub record DoctypeEnd : Type 0 where
  pub doctype : Doctype
  pub rest : List ℕ

-- the rest up to `>` is skipped
abbrev pub skipped : Doctype → List ℕ → DoctypeEnd
skipped doctype cs = record { doctype = doctype; rest = (cut_or_all (cut (after (codes ">")) cs) cs).rest }

abbrev pub with_quirks : Doctype → Doctype
with_quirks doctype = record doctype { force_quirks = true }

-- `>` ends the doctype as it is, and anything else with the flag
abbrev pub ends_here : Doctype → List ℕ → DoctypeEnd
ends_here doctype cs = if begins (codes ">") cs then record { doctype = doctype; rest = drop 1 cs }
    else skipped (with_quirks doctype) cs

abbrev pub is_quote : ℕ → Bool
is_quote c = c == 34 || c == 39

-- a quoted identifier, up to its quote, `>` or the end, and what follows, from that character on
abbrev pub ends_identifier : ℕ → ℕ → Bool
ends_identifier quote c = c == quote || c == 62

abbrev pub identifier : ℕ → List ℕ → List ℕ
identifier quote cs = shown_text (front_while (λ c. not (ends_identifier quote c)) cs)

abbrev pub after_identifier : ℕ → List ℕ → List ℕ
after_identifier quote cs = rest_while (λ c. not (ends_identifier quote c)) cs

-- after a system identifier: `>`, the end, or what is skipped without setting the flag
abbrev pub after_system : Doctype → List ℕ → DoctypeEnd
after_system doctype [] = record { doctype = with_quirks doctype; rest = [] }
after_system doctype (c ∷ cs) = skipped doctype (c ∷ cs)

-- the identifier was closed by its quote, or `>` or the end cuts it
abbrev pub closed_system : ℕ → Doctype → List ℕ → DoctypeEnd
closed_system quote doctype cs =
    if begins (quote ∷ []) cs then after_system doctype (without_spaces (drop 1 cs))
    else skipped (with_quirks doctype) cs

abbrev pub with_system : Doctype → List ℕ → Doctype
with_system doctype id = record doctype { system_id = Some id }

abbrev pub with_public : Doctype → List ℕ → Doctype
with_public doctype id = record doctype { public_id = Some id }

-- a system identifier that begins with a quote
abbrev pub system_at : Doctype → ℕ → List ℕ → DoctypeEnd
system_at doctype quote cs =
    closed_system quote (with_system doctype (identifier quote cs)) (after_identifier quote cs)

-- a system identifier, over spaces; `otherwise` says what is without one
abbrev pub system_or : Doctype → (List ℕ → DoctypeEnd) → List ℕ → DoctypeEnd
system_or doctype otherwise [] = otherwise []
system_or doctype otherwise (c ∷ cs) = if is_quote c then system_at doctype c cs else otherwise (c ∷ cs)

abbrev pub closed_public : ℕ → Doctype → List ℕ → DoctypeEnd
closed_public quote doctype cs =
    if begins (quote ∷ []) cs then system_or doctype (ends_here doctype) (without_spaces (drop 1 cs))
    else skipped (with_quirks doctype) cs

abbrev pub public_at : Doctype → ℕ → List ℕ → DoctypeEnd
public_at doctype quote cs =
    closed_public quote (with_public doctype (identifier quote cs)) (after_identifier quote cs)

-- after `PUBLIC` and `SYSTEM`, over spaces: a quoted identifier, or the flag
abbrev pub after_public : Doctype → List ℕ → DoctypeEnd
after_public doctype [] = skipped (with_quirks doctype) []
after_public doctype (c ∷ cs) = if is_quote c then public_at doctype c cs else skipped (with_quirks doctype) (c ∷ cs)

abbrev pub after_keyword : Doctype → List ℕ → DoctypeEnd
after_keyword doctype cs =
    if begins_word (codes "public") cs then after_public doctype (without_spaces (drop 6 cs))
    else (if begins_word (codes "system") cs then
    system_or doctype (skipped (with_quirks doctype)) (without_spaces (drop 6 cs))
    else ends_here doctype cs)

abbrev pub named_doctype : Option (List ℕ) → Doctype
named_doctype name = record { name = name; public_id = None; system_id = None; force_quirks = false }

-- a name up to a space or `>`, and what follows it over spaces
abbrev pub after_spaces : List ℕ → DoctypeEnd
after_spaces cs =
    if length (front_while (λ c. not (ends_unquoted c)) cs) == 0
    then skipped (with_quirks (named_doctype None)) cs
    else after_keyword (named_doctype (Some (name_of (front_while (λ c. not (ends_unquoted c)) cs))))
    (without_spaces (rest_while (λ c. not (ends_unquoted c)) cs))

-- The doctype after `<!doctype`.
abbrev pub doctype_at : List ℕ → DoctypeEnd
doctype_at cs = after_spaces (without_spaces cs)
