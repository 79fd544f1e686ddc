use Rattle.std.proofs.Common.{◌≡◌, ◌<◌, [], ◌∷◌, ◌-◌, ◌∙◌, List, String, ap, arith, drop, length, map, refl}
use Rattle.std.proofs.Common.{string_bytes, subst, sym, take}
use Rattle.std.proofs.lemmas.List.{take_rest}
use Rattle.command_line.specs.CommandWords.{Asks, words_after_name}
use Rattle.command_line.proofs.words.request_of.Goals as goal

none_after : {A : Type 0} (words : List (String A)) → length words < 1 → words_after_name (map string_bytes words)
    ≡ []
none_after [] h = refl
none_after (word ∷ words) h = absurd (omega arith)

after_rest : {A : Type 0} (words : List (String A)) → words_after_name (map string_bytes words)
    ≡ map string_bytes (drop 1 words)
after_rest [] = refl
after_rest (word ∷ words) = refl

-- all words but the first
some_after : {A : Type 0} (words slice : List (String A)) → slice ≡ words
    → words_after_name (map string_bytes words) ≡ map string_bytes (take (length slice - 1) (drop 1 slice))
some_after words slice is = after_rest words
    ∙ ap (map string_bytes) (sym (take_rest words 1) ∙ ap (λ l. take (length l - 1) (drop 1 l)) (sym is))

pub returns-in-empty-clause-answered : goal.returns-in-empty-clause-answered
returns-in-empty-clause-answered c =
    rw c.in-Ok.is
    (λ asked asks. c.read_words.ensures.answered asked
    (subst (λ words. Asks words asked) (none_after c.in-Ok.words.items
    (rw c.as_slice.ensures.value at c.in-empty.len_below)) asks))

pub returns-in-Ok-clause-answered : goal.returns-in-Ok-clause-answered
returns-in-Ok-clause-answered c =
    rw c.in-Ok.is
    (λ asked asks. c.read_words-in-len1-up.ensures.answered asked
    (subst (λ words. Asks words asked) (some_after c.in-Ok.words.items c.as_slice.result.now c.as_slice.ensures.value)
    asks))
