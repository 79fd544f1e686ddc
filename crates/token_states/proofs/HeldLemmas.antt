-- Changes to a text that is held, by its characters.
use Rattle.std.proofs.Common.{◌≡◌, if◌then◌else◌, [], ◌∷◌, ◌++◌, ◌∙◌, Err, IsUtf8, List, Ok, OnOk, Result, ap, codes}
use Rattle.std.proofs.Common.{drop, is_ok, length, sym, ℕ}
use Rattle.std.proofs.lemmas.Str.{chars-append, chars_past_char}
use Rattle.std.specs.Char.{IsScalar}
use Rattle.std.specs.Str.{chars}
use lib.Utf8.{encode}
use Rattle.token_grammar.proofs.MarkLemmas.{chars-encode}
use Rattle.token_grammar.proofs.LexemeLemmas.{dashes}
use Rattle.token_grammar.proofs.SliceLemmas.{no_bytes}

pub one_more : {E : Type 0} (r : Result (Unit {0}) E) (old new : List ℕ) (c : ℕ) → IsUtf8 old → IsScalar c →
    new ≡ (if is_ok r then old ++ encode c else old) → OnOk r (chars new ≡ chars old ++ c ∷ [])
one_more (Ok u) old new c t s e =
    ap chars e ∙ chars-append old (encode c) t ∙ ap (λ l. chars old ++ l) (chars-encode c s)
one_more (Err x) old new c t s e = tt

-- two dashes in place of what was held
pub two_dashes : {E : Type 0} (r : Result (Unit {0}) E) (start new : List ℕ) → start ≡ [] →
    new ≡ (if is_ok r then start ++ codes "--" else start) → OnOk r (chars new ≡ codes "--")
two_dashes (Ok u) start new s e = ap chars (e ∙ ap (λ l. l ++ codes "--") s) ∙ dashes
two_dashes (Err x) start new s e = tt

pub nothing_left : (bs : List ℕ) → length bs ≡ 0 → chars bs ≡ drop 1 (chars bs)
nothing_left bs e = no_bytes bs e ∙ ap (drop 1) (sym (no_bytes bs e))

pub without_first : (old new : List ℕ) (c : ℕ) → IsUtf8 old → old ≡ encode c ++ new → chars new ≡ drop 1 (chars old)
without_first old new c u e = ap (drop 1) (sym (chars_past_char old new c u e))
