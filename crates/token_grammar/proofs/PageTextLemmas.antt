-- Adding a character to the text of a page.
use Rattle.std.proofs.Common.{◌≡◌, ◌≢◌, if◌then◌else◌, [], ◌∷◌, ◌++◌, ◌∙◌, Err, IsUtf8, List, Ok, OnOk, Result, ap}
use Rattle.std.proofs.Common.{append_assoc, false, is_ok, sym, ℕ}
use Rattle.std.proofs.lemmas.Bool.{ne_eqb, eq-eqb}
use Rattle.std.proofs.lemmas.Str.{chars-append}
use Rattle.std.specs.Str.{chars}
use Rattle.std.specs.Char.{IsScalar}
use lib.Utf8.{encode}
use Rattle.token_grammar.proofs.MarkLemmas.{chars-encode}
use Rattle.html_lexemes.specs.LineEnds.{begins_with_line_feed, lines_ended}

pub pushed : {E : Type 0} (r : Result (Unit {0}) E) (old new rest : List ℕ) (c : ℕ) (whole : List ℕ) → IsUtf8 old →
    IsScalar c → new ≡ (if is_ok r then old ++ encode c
    else old) → whole ≡ c ∷ rest → OnOk r (chars new ++ rest ≡ chars old ++ whole)
pushed (Ok u) old new rest c whole t s e w =
    ap (λ l. chars l ++ rest) e
    ∙ (ap (λ l. l ++ rest) (chars-append old (encode c) t ∙ ap (λ l. chars old ++ l) (chars-encode c s))
    ∙ (append_assoc (chars old) (c ∷ []) rest ∙ ap (λ l. chars old ++ l) (sym w)))
pushed (Err x) old new rest c whole t s e w = tt

pub ended_other : (c : ℕ) (cs : List ℕ) → c ≢ 13 → lines_ended (c ∷ cs) ≡ c ∷ lines_ended cs
ended_other c cs h = ap (λ b. if b then (if begins_with_line_feed cs then lines_ended cs else 10 ∷ lines_ended cs)
    else c ∷ lines_ended cs) (ne_eqb c 13 h)

pub ended_return : (c : ℕ) (cs : List ℕ) → c ≡ 13 → begins_with_line_feed cs ≡ false →
    lines_ended (c ∷ cs) ≡ 10 ∷ lines_ended cs
ended_return c cs h b = ap (λ b. if b then (if begins_with_line_feed cs then lines_ended cs else 10 ∷ lines_ended cs)
    else c ∷ lines_ended cs) (eq-eqb c 13 h) ∙ ap (λ b. if b then lines_ended cs else 10 ∷ lines_ended cs) b
