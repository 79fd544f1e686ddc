-- A text after tokens, as items.
use Rattle.std.proofs.Common.{◌≡◌, ◌<◌, [], ◌∷◌, ◌++◌, ◌∙◌, List, ap, append_assoc, arith, length, map, refl, sym, ℕ}
use Rattle.std.proofs.lemmas.List.{map-append}
use Rattle.html_lexemes.specs.declared.token.Token.{Token}
use Rattle.html_lexemes.specs.declared.token.Token.TheVariants.{CharacterTokens, CommentToken, DoctypeToken, EOFToken}
use Rattle.html_lexemes.specs.declared.token.Token.TheVariants.{NullCharacterToken, ParseError, TagToken}
use Rattle.token_grammar.specs.Items.{Item, characters, item_of}
use Rattle.test_token_sinks.specs.KeptTokens.{kept, with_text}

not_last : (item next : Item) (items : List Item) (cs : List ℕ)
    → with_text (item ∷ next ∷ items) cs ≡ item ∷ with_text (next ∷ items) cs
not_last (characters ds) next items cs = refl
not_last item next items cs = refl

at_last : (items : List Item) (last : Item) (cs : List ℕ)
    → with_text (items ++ last ∷ []) cs ≡ items ++ with_text (last ∷ []) cs
at_last [] last cs = refl
at_last (item ∷ []) last cs = not_last item last [] cs
at_last (item ∷ next ∷ items) last cs =
    not_last item next (items ++ last ∷ []) cs ∙ ap (λ l. item ∷ l) (at_last (next ∷ items) last cs)

-- a text after tokens of which the last is a text
pub after_text : (whole front : List Token) (ds cs joined : List ℕ)
    → whole ≡ front ++ CharacterTokens ds ∷ [] → joined ≡ ds ++ cs
    → map item_of front ++ characters joined ∷ [] ≡ with_text (map item_of whole) cs
after_text whole front ds cs joined e f =
    ap (λ l. map item_of front ++ characters l ∷ []) f
    ∙ sym (ap (λ l. with_text (map item_of l) cs) e
    ∙ (ap (λ l. with_text l cs) (map-append item_of front (CharacterTokens ds ∷ []))
    ∙ at_last (map item_of front) (characters ds) cs))

after : (token : Token) (cs : List ℕ) → ((ds : List ℕ) → ¬ (token ≡ CharacterTokens ds))
    → with_text (item_of token ∷ []) cs ≡ item_of token ∷ characters cs ∷ []
after (CharacterTokens ds) cs h = absurd (h ds refl)
after (DoctypeToken d) cs h = refl
after (TagToken t) cs h = refl
after (CommentToken ds) cs h = refl
after NullCharacterToken cs h = refl
after EOFToken cs h = refl
after (ParseError message) cs h = refl

-- a text after tokens of which the last is another
pub after_other : (whole new front : List Token) (last : Token) (cs : List ℕ)
    → whole ≡ front ++ last ∷ [] → new ≡ front ++ last ∷ [] → ((ds : List ℕ) → ¬ (last ≡ CharacterTokens ds))
    → map item_of new ++ characters cs ∷ [] ≡ with_text (map item_of whole) cs
after_other whole new front last cs e f h =
    let items : map item_of (front ++ last ∷ []) ≡ map item_of front ++ item_of last ∷ [] =
    map-append item_of front (last ∷ []) in
    ap (λ l. map item_of l ++ characters cs ∷ []) f
    ∙ (ap (λ l. l ++ characters cs ∷ []) items ∙ append_assoc (map item_of front) (item_of last ∷ [])
    (characters cs ∷ []))
    ∙ sym (ap (λ l. with_text (map item_of l) cs) e
    ∙ (ap (λ l. with_text l cs) items ∙ (at_last (map item_of front) (item_of last) cs ∙
    ap (λ l. map item_of front ++ l) (after last cs h))))

pub nothing_kept : (items : List Item) (cs : List ℕ) → cs ≡ [] → items ≡ kept items (characters cs)
nothing_kept items cs e = sym (ap (λ l. kept items (characters l)) e)

pub text_kept : (items : List Item) (cs : List ℕ) → 0 < length cs → with_text items cs ≡ kept items (characters cs)
text_kept items [] h = absurd (omega arith)
text_kept items (c ∷ cs) h = refl
