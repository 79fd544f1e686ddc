-- The value of an attribute, as it is written.
use Rattle.std.proofs.Common.{◌≡◌, if◌then◌else◌, [], ◌∷◌, ◌∙◌, Bool, List, None, Option, Some, ap, drop, false, refl}
use Rattle.std.proofs.Common.{sym, true, ℕ}
use Rattle.std.specs.Str.{chars}
use Rattle.std.proofs.lemmas.Option.{same_Some, none-some}
use Rattle.std.proofs.lemmas.Str.{chars-nil}
use Rattle.token_grammar.specs.Characters.{is_space}
use Rattle.token_grammar.specs.Slices.{Cut, after, begins, cut, rest_while}
use Rattle.token_grammar.specs.Tags.{value_after, written_value}

double_mark : chars (34 ∷ []) ≡ 34 ∷ []
unfolding chars
double_mark = refl

single_mark : chars (39 ∷ []) ≡ 39 ∷ []
unfolding chars
single_mark = refl

equals_mark : chars (61 ∷ []) ≡ 61 ∷ []
unfolding chars
equals_mark = refl

pub quoted-by_double : (cs rest : List ℕ) (d : ℕ) (o : Option Cut) → cs ≡ d ∷ rest → d ≡ 34 →
    o ≡ cut (after (34 ∷ [])) rest → o ≡ written_value cs
quoted-by_double cs rest d o e q h = h ∙ ap written_value (sym (e ∙ ap (λ x. x ∷ rest) q))

pub quoted-by_single : (cs rest : List ℕ) (d : ℕ) (o : Option Cut) → cs ≡ d ∷ rest → d ≡ 39 →
    o ≡ cut (after (39 ∷ [])) rest → o ≡ written_value cs
quoted-by_single cs rest d o e q h = h ∙ ap written_value (sym (e ∙ ap (λ x. x ∷ rest) q))

abbrev whole_with : List ℕ → List ℕ → Cut
whole_with slice cs = record { slice = slice; rest = cs }

-- where a test gave what follows `=`, it held
held : (b : Bool) (cs trailing : List ℕ) (x y : Option Cut) → Some trailing ≡ (if b then Some (drop 1 cs)
    else None) → (x ≡ (if b then x else y)) × (trailing ≡ drop 1 cs)
held true cs trailing x y e = (refl, same_Some trailing (drop 1 cs) e)
held false cs trailing x y e = absurd (none-some trailing (sym e))

failed : (b : Bool) (cs : List ℕ) (x y : Option Cut) → None ≡ (if b then Some (drop 1 cs) else None) → y ≡ (if b then x
    else y)
failed true cs x y e = absurd (none-some (drop 1 cs) e)
failed false cs x y e = refl

pub value-found : (cs ws trailing rest : List ℕ) (o : Option Cut) → ws ≡ rest_while is_space cs →
    Some trailing ≡ after (chars (61 ∷ [])) ws → rest ≡ rest_while is_space trailing → o ≡ written_value rest →
    o ≡ value_after cs
value-found cs ws trailing rest o w found r h =
    let spaces = rest_while is_space cs in
    let e : Some trailing ≡ after (61 ∷ []) spaces = found ∙ ap (λ m. after m ws) equals_mark ∙ ap (after (61 ∷ [])) w in
    let k = held (begins (61 ∷ []) spaces) spaces trailing (written_value (rest_while is_space (drop 1 spaces)))
    (Some (record { slice = []; rest = cs })) e in
    h ∙ ap written_value (r ∙ ap (rest_while is_space) k.1) ∙ k.0

pub value-missing : (cs ws : List ℕ) → ws ≡ rest_while is_space cs → None ≡ after (chars (61 ∷ [])) ws →
    Some (record { slice = chars []; rest = cs }) ≡ value_after cs
value-missing cs ws w missing =
    let spaces = rest_while is_space cs in
    let e : None ≡ after (61 ∷ []) spaces = missing ∙ ap (λ m. after m ws) equals_mark ∙ ap (after (61 ∷ [])) w in
    let nothing : Option Cut = Some (record { slice = []; rest = cs }) in
    ap (λ (s : List ℕ). Some (whole_with s cs)) chars-nil ∙ failed (begins (61 ∷ []) spaces) spaces
    (written_value (rest_while is_space (drop 1 spaces))) nothing e
