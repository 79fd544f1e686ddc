-- Steps of the iterators over a line.
use Rattle.std.proofs.Common.{◌≡◌, ℕ, ◌<◌, List, [], ◌∷◌, ◌++◌, length, sym, ap, ◌∙◌, arith}
use Rattle.std.specs.Prelude.{Option, None, Some, MatchOption, chars}
use Rattle.std.specs.Iterator.{YieldsFirstBy, MakesProgress, item_count}
use Rattle.std.specs.Str.{IsUtf8}
use Rattle.std.proofs.lemmas.Str.{chars-nil, chars_past_char}
use Rattle.text_lines.specs.declared.tagged_string.TaggedLineElement.{TaggedLineElement}
use Rattle.text_lines.specs.Elements.{element_text, elements_text}
use lib.Utf8.{encode}

-- an iterator that shows what is left nears its end
pub progress : {S A B : Type 0} (can : S → Type 0) (view : A → B) (rest : S → List B) (s t : S) (r : Option A) → can t
    → YieldsFirstBy view rest s r t → MakesProgress can (item_count rest) s r t
progress can view rest s t None callable h = record { on = λ _. tt; keeps = tt; rests = λ _. tt }
progress can view rest s t (Some x) callable h =
    record { on = λ _. (callable, tt, omega (arith, ap length h)); keeps = callable; rests = λ _. tt }

-- ---- the characters of a text, and then of elements

pub none_left : {T : Type 0} (text : List ℕ) (es : List (TaggedLineElement T)) → text ≡ [] → es ≡ []
    → chars text ++ elements_text es ≡ []
none_left text es no_text none = ap (λ bs. chars bs ++ elements_text es) no_text
    ∙ ap (λ cs. cs ++ elements_text es) chars-nil ∙ ap elements_text none

pub next_text : {T : Type 0} (text later : List ℕ) (es others : List (TaggedLineElement T))
    (first : TaggedLineElement T) → text ≡ [] → es ≡ first ∷ others → later ≡ element_text first
    → chars later ++ elements_text others ≡ chars text ++ elements_text es
next_text text later es others first no_text split same =
    ap (λ bs. chars bs ++ elements_text others) same ∙ sym (ap elements_text split)
    ∙ sym (ap (λ cs. cs ++ elements_text es) chars-nil) ∙ sym (ap (λ bs. chars bs ++ elements_text es) no_text)

-- one call of `next` on the characters of a text, from and to being what those have left
pub char_taken : (P : Type 0) (r : Option ℕ) (text from to rest more whole : List ℕ) → from ≡ text → rest ≡ to
    → IsUtf8 text → 0 < length text → whole ≡ chars text ++ more → MatchOption r ((length from ≡ 0) × P)
    (λ c. from ≡ encode c ++ to)
    → MatchOption r ((whole ≡ []) × (chars rest ++ more ≡ [])) (λ c. whole ≡ c ∷ (chars rest ++ more))
char_taken P None text from to rest more whole begins ends utf8 some same h = absurd
    (omega (arith, h.0, some, ap length begins))
char_taken P (Some c) text from to rest more whole begins ends utf8 some same h =
    same ∙ ap (λ cs. cs ++ more) (chars_past_char text rest c utf8 (sym begins ∙ h ∙ ap (λ bs. encode c ++ bs)
    (sym ends)))
