-- What calls on the bytes of a text say of a page.
use Rattle.std.proofs.Common.{◌≡◌, ◌==◌, ◌&&◌, if◌then◌else◌, ◌∷◌, ◌++◌, ◌∙◌, Bool, Err, IsUtf8, List, Ok, OnOk, Result}
use Rattle.std.proofs.Common.{ap, chars, cond, drop, false, is_ok, refl, sym, true, ℕ}
use Rattle.std.specs.Str.{bytes_eq}
use Rattle.std.proofs.lemmas.Bool.{ne_eqb}
use Rattle.std.proofs.lemmas.Str.{chars-append}
use Rattle.test_token_sinks.specs.PreformattedText.{Page, is_named, said}

abbrev pub page_of : List (List ℕ) → Bool → List ℕ → Page
page_of elements skips text = record { elements = elements; skips_line_feed = skips; text = text }

pub page_same : {names others : List (List ℕ)} {b d : Bool} {cs ds : List ℕ}
    → names ≡ others → b ≡ d → cs ≡ ds → page_of names b cs ≡ page_of others d ds
page_same {names} {others} {b} {d} {cs} {ds} e f g =
    ap (λ (l : List (List ℕ)). page_of l b cs) e
    ∙ (ap (λ (x : Bool). page_of others x cs) f ∙ ap (λ (l : List ℕ). page_of others d l) g)

-- the innermost element is named so
pub innermost_named : (names : List (List ℕ)) (innermost name : List ℕ) (b : Bool)
    → b ≡ bytes_eq innermost name → names ≡ innermost ∷ drop 1 names → b ≡ is_named name names
innermost_named names innermost name b e f = e ∙ sym (ap (is_named name) f)

-- what of a text is shown
abbrev pub shown_of : Bool → ℕ → List ℕ → List ℕ
shown_of b c cs = if b && c == 10 then cs else c ∷ cs

pub shown-without : (b : Bool) (c : ℕ) (cs : List ℕ) → b ≡ true → c ≡ 10 → cs ≡ shown_of b c cs
shown-without b c cs e f = sym (ap (λ (x : Bool). shown_of x c cs) e ∙ ap (λ d. shown_of true d cs) f)

pub shown-by_rule : (b : Bool) (c : ℕ) (cs : List ℕ) → b ≡ false → c ∷ cs ≡ shown_of b c cs
shown-by_rule b c cs e = sym (ap (λ (x : Bool). shown_of x c cs) e)

pub shown-other : (b : Bool) (c : ℕ) (cs : List ℕ) → ¬ (c ≡ 10) → c ∷ cs ≡ shown_of b c cs
shown-other true c cs h = sym (ap (λ (x : Bool). if x then cs else c ∷ cs) (ne_eqb c 10 h))
shown-other false c cs h = refl

-- a text is after the page's text, by its bytes
pub said_on : {T E : Type 0} (r : Result T E) (page : Page) (elements : List (List ℕ)) (skips : Bool)
    (c : ℕ) (cs text had shown new : List ℕ)
    → page_of elements skips (chars had) ≡ page → text ≡ c ∷ cs → IsUtf8 had
    → new ≡ cond (is_ok r) (had ++ shown) had → chars shown ≡ shown_of skips c cs
    → OnOk r (page_of elements false (chars new) ≡ said page text)
said_on (Ok x) page elements skips c cs text had shown new is e u f g =
    ap (page_of elements false) (ap chars f ∙ (chars-append had shown u ∙ ap (λ l. chars had ++ l) g))
    ∙ (ap (λ (p : Page). said p (c ∷ cs)) is ∙ ap (said page) (sym e))
said_on (Err x) page elements skips c cs text had shown new is e u f g = tt
