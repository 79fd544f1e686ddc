-- Words, runs of characters and the search for a place, one character more at a time.
use Rattle.std.proofs.Common.{◌≡◌, [], ◌∷◌, ◌++◌, ◌∙◌, Bool, IsUtf8, List, None, Some, ap, bytes_eq, chars, codes, cond}
use Rattle.std.proofs.Common.{drop, eqb, false, length, option_map, refl, sym, true, ℕ}
use Rattle.std.proofs.lemmas.Bool.{and_from, and_parts, eq-eqb, eqb-true, false≢true, false_from_ne_true}
use Rattle.std.proofs.lemmas.Slice.Eq.{bytes_eq-Decides}
use Rattle.std.specs.Char.{to_ascii_lowercase}
use Rattle.std.specs.Option.{option_or}
use Rattle.token_grammar.specs.Slices.{after, after_word, begins_word, cut}
use Rattle.tree_predicates.specs.Attributes.{in_lower_case}
use Rattle.tree_predicates.proofs.WordLemmas.{is_whole, word_chars}
use Rattle.rules_table.specs.Encodings.{after_charset, after_first, slice_of, written_name}

-- ---- a text in lower case beside a word

word_split : (word cs : List ℕ) → begins_word word cs ≡ true →
    in_lower_case cs ≡ word ++ in_lower_case (drop (length word) cs)
word_split [] cs e = refl
word_split (w ∷ ws) [] e = absurd (false≢true e)
word_split (w ∷ ws) (c ∷ cs) e =
    let parts = and_parts _ (begins_word ws cs) e in
    ap (λ x. x ∷ in_lower_case cs) (eqb-true (to_ascii_lowercase c) w parts.0)
    ∙ ap (λ l. w ∷ l) (word_split ws cs parts.1)

word_begins : (cs : List ℕ) → begins_word (in_lower_case cs) cs ≡ true
word_begins [] = refl
word_begins (c ∷ cs) = and_from _ _ (eq-eqb (to_ascii_lowercase c) (to_ascii_lowercase c) refl) (word_begins cs)

some_same : (xs ys : List ℕ) → Some xs ≡ Some ys → xs ≡ ys
some_same xs ys e = cc

some_none : (xs : List ℕ) → Some xs ≡ None → ⊥
some_none xs e = cc

split_at : (word cs rest : List ℕ) (b : Bool) → b ≡ begins_word word cs →
    Some rest ≡ cond b (Some (drop (length word) cs)) None → in_lower_case cs ≡ word ++ in_lower_case rest
split_at word cs rest true e is = word_split word cs (sym e)
    ∙ ap (λ l. word ++ in_lower_case l) (sym (some_same rest (drop (length word) cs) is))
split_at word cs rest false e is = absurd (some_none rest is)

not_begun : (word cs : List ℕ) (b : Bool) → b ≡ begins_word word cs →
    None ≡ cond b (Some (drop (length word) cs)) None → begins_word word cs ≡ false
not_begun word cs true e is = absurd (some_none (drop (length word) cs) (sym is))
not_begun word cs false e is = sym e

-- the text is the word where nothing is left after it
pub word_whole : (word cs left : List ℕ) → IsUtf8 left → Some (chars left) ≡ after_word word cs →
    eqb (length left) 0 ≡ bytes_eq (in_lower_case cs) word
word_whole word cs left u is =
    is_whole cs word left u (split_at word cs (chars left) (begins_word word cs) refl is)

pub another_word : (word cs : List ℕ) → None ≡ after_word word cs → false ≡ bytes_eq (in_lower_case cs) word
another_word word cs is = sym (false_from_ne_true (bytes_eq (in_lower_case cs) word) (λ e. false≢true
    (sym (not_begun word cs (begins_word word cs) refl is)
    ∙ ap (λ l. begins_word l cs) (sym ((bytes_eq-Decides (in_lower_case cs) word).0 e)) ∙ word_begins cs)))

-- ---- the texts of the code

pub charset_codes : chars (codes "charset") ≡ codes "charset"
charset_codes = word_chars (codes "charset") refl

pub equals_codes : chars (codes "=") ≡ codes "="
equals_codes = word_chars (codes "=") refl

pub double_quote_codes : chars (codes "\"") ≡ 34 ∷ []
double_quote_codes = word_chars (codes "\"") refl

pub single_quote_codes : chars (codes "'") ≡ 39 ∷ []
single_quote_codes = word_chars (codes "'") refl

-- ---- a name between quotes

pub double_quoted : (c : ℕ) (cs : List ℕ) → c ≡ 34 →
    option_map slice_of (cut (after (34 ∷ [])) cs) ≡ written_name (c ∷ cs)
double_quoted c cs e = ap (λ q. written_name (q ∷ cs)) (sym e)

pub single_quoted : (c : ℕ) (cs : List ℕ) → c ≡ 39 →
    option_map slice_of (cut (after (39 ∷ [])) cs) ≡ written_name (c ∷ cs)
single_quoted c cs e = ap (λ q. written_name (q ∷ cs)) (sym e)

-- ---- the first place

pub place_here : (cs : List ℕ) (c : ℕ) (later rest : List ℕ) → cs ≡ c ∷ later → Some rest ≡ after_charset cs →
    Some rest ≡ after_first cs
place_here cs c later rest e is = ap (λ o. option_or o (after_first later)) (is ∙ ap after_charset e)
    ∙ ap after_first (sym e)

pub place_later : (cs : List ℕ) (c : ℕ) (later : List ℕ) → cs ≡ c ∷ later → None ≡ after_charset cs →
    after_first cs ≡ after_first later
place_later cs c later e is = ap after_first e
    ∙ ap (λ o. option_or o (after_first later)) (sym (is ∙ ap after_charset e))
