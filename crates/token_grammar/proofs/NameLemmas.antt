-- The longest name of a table that a text begins with.
use Rattle.std.proofs.Common.{◌≡◌, ◌<◌, ◌≤◌, [], ◌∷◌, ◌++◌, ◌∙◌, Bool, IsTrue, IsUtf8, List, MatchBool, None, Option}
use Rattle.std.proofs.Common.{Some, ap, append-nil, append_assoc, arith, chars, drop, eqb, false, is_some, length}
use Rattle.std.proofs.Common.{length-drop, option_map, refl, subst, sym, take, true, ℕ}
use Rattle.std.proofs.lemmas.Bool.{or_left, or_right, or_from, eq-eqb}
use Rattle.std.proofs.lemmas.List.{take-append-drop}
use Rattle.std.proofs.lemmas.Option.{none-some, same_Some}
use Rattle.std.proofs.lemmas.Str.{IsCharBoundary-before_ascii, IsUtf8-drop, IsUtf8-take, chars-append}
use Rattle.std.proofs.lemmas.Str.{chars_from_encodes, chars_past_char}
use Rattle.std.proofs.lemmas.Str.Pattern.{drop_at_char}
use Rattle.std.specs.List.{list_any}
use Rattle.std.specs.Option.{option_or}
use Rattle.std.specs.Str.{NonePass}
use Rattle.std.specs.Str.Pattern.{FindsChar}
use Rattle.std.specs.FinMap as finite
use Rattle.lex_base.specs.References.{References}
use Rattle.lex_base.specs.Lookup.{BeginsWithNoName, IsLongestName}
use Rattle.token_grammar.specs.References.{Found, named, named_from}
use Rattle.token_grammar.specs.Slices.{after}
use Rattle.token_grammar.proofs.SliceLemmas.{after_mark}

-- ---- whether a character stands in a text

none_pass : (mark : ℕ) (cs : List ℕ) → NonePass (λ d. eqb d mark) cs → list_any (λ d. eqb d mark) cs ≡ false
none_pass mark [] h = refl
none_pass mark (c ∷ cs) h = or_from _ _ h.0 (none_pass mark cs h.1)

any_at : (mark : ℕ) (front back : List ℕ) → list_any (λ d. eqb d mark) (front ++ mark ∷ back) ≡ true
any_at mark [] back = or_left _ _ (eq-eqb mark mark refl)
any_at mark (c ∷ front) back = or_right _ _ (any_at mark front back)

-- the clause of `contains` at an ASCII character
pub contains_any : (mark : ℕ) (bs : List ℕ) (r : Bool) → IsUtf8 bs → mark < 128 →
    MatchBool r ((i : ℕ) × (j : ℕ) × FindsChar mark bs (Some (i, j)) × (i ≤ j) × (j ≤ length bs))
    (FindsChar mark bs None)
    → r ≡ list_any (λ d. eqb d mark) (chars bs)
contains_any mark bs true u low h =
    let rest = drop_at_char mark bs h.0 h.1 h.2.1 low in
    let inside : h.0 < length bs = omega (arith, ap length rest, length-drop h.0 bs) in
    let edge = IsCharBoundary-before_ascii bs h.0 inside (omega (arith, h.2.1.byte low)) in
    let whole : chars bs ≡ chars (take h.0 bs) ++ mark ∷ chars (drop h.1 bs) =
    ap chars (sym (take-append-drop h.0 bs)) ∙ chars-append (take h.0 bs) (drop h.0 bs) (IsUtf8-take bs h.0 u edge)
    ∙ ap (λ l. chars (take h.0 bs) ++ l) (chars_past_char (drop h.0 bs) (drop h.1 bs) mark
    (IsUtf8-drop bs h.0 u edge) h.2.1.split) in
    sym (ap (list_any (λ d. eqb d mark)) whole ∙ any_at mark (chars (take h.0 bs)) (chars (drop h.1 bs)))
contains_any mark bs false u low h =
    sym (ap (list_any (λ d. eqb d mark)) (sym (chars_from_encodes h.0 bs u h.1)) ∙ none_pass mark h.0 h.2)

-- ---- the longest name

abbrev pub named_as : List ℕ → List ℕ → List ℕ → Found
named_as front rest value = record { characters = value; closed = list_any (λ c. eqb c 59) front; rest = rest }

none_since : {A : Type 0} (o : Option A) → (IsTrue (is_some o) → ⊥) → o ≡ None
none_since None h = refl
none_since (Some a) h = absurd (h refl)

-- no text that begins with the front and goes on in the text is a name
pub none_from : (table : References) (front cs : List ℕ) →
    ((k more : List ℕ) → cs ≡ k ++ more → finite.get table (front ++ k) ≡ None) → named_from table front cs ≡ None
none_from table front [] h =
    ap (option_map (named_as front [])) (subst (λ l. finite.get table l ≡ None) (append-nil front) (h [] [] refl))
none_from table front (c ∷ cs) h =
    ap (λ o. option_or o (option_map (named_as front (c ∷ cs)) (finite.get table front)))
    (none_from table (front ++ c ∷ []) cs (λ k more e. subst (λ l. finite.get table l ≡ None)
    (sym (append_assoc front (c ∷ []) k)) (h (c ∷ k) more (ap (λ l. c ∷ l) e))))
    ∙ ap (option_map (named_as front (c ∷ cs))) (subst (λ l. finite.get table l ≡ None) (append-nil front)
    (h [] (c ∷ cs) refl))

-- no longer text is a name
abbrev pub NoneLonger : References → List ℕ → List ℕ → ℕ → Type 0
NoneLonger table front cs n = (k more : List ℕ) → cs ≡ k ++ more → IsTrue (finite.contains_key table (front ++ k)) →
    length k ≤ n

name_here : (table : References) (front cs value : List ℕ) → finite.get table front ≡ Some value →
    NoneLonger table front cs 0 → named_from table front cs ≡ Some (named_as front cs value)
name_here table front [] value e h = ap (option_map (named_as front [])) e
name_here table front (c ∷ cs) value e h =
    ap (λ o. option_or o (option_map (named_as front (c ∷ cs)) (finite.get table front)))
    (none_from table (front ++ c ∷ []) cs (λ k more is. none_since (finite.get table ((front ++ c ∷ []) ++ k))
    (λ there.
    absurd (omega (
      arith,
      h (c ∷ k) more (ap (λ l. c ∷ l) is) (subst (λ l. IsTrue (finite.contains_key table l))
          (append_assoc front (c ∷ []) k) there),
    )))))
    ∙ ap (option_map (named_as front (c ∷ cs))) e

name_from : (table : References) (front name rest value : List ℕ) → finite.get table (front ++ name) ≡ Some value →
    NoneLonger table front (name ++ rest) (length name)
    → named_from table front (name ++ rest) ≡ Some (named_as (front ++ name) rest value)
name_from table front [] rest value e h =
    name_here table front rest value (subst (λ l. finite.get table l ≡ Some value) (append-nil front) e) h
    ∙ ap (λ (l : List ℕ). Some (named_as l rest value)) (sym (append-nil front))
name_from table front (n ∷ name) rest value e h =
    ap (λ o. option_or o (option_map (named_as front (n ∷ (name ++ rest))) (finite.get table front)))
    (name_from table (front ++ n ∷ []) name rest value
    (subst (λ l. finite.get table l ≡ Some value) (sym (append_assoc front (n ∷ []) name)) e)
    (λ k more is there.
    omega (
      arith,
      h (n ∷ k) more (ap (λ l. n ∷ l) is) (subst (λ l. IsTrue (finite.contains_key table l))
          (append_assoc front (n ∷ []) k) there),
    ))
    ∙ ap (λ (l : List ℕ). Some (named_as l rest value)) (append_assoc front (n ∷ []) name))

pub no_name : (table : References) (cs : List ℕ) → BeginsWithNoName table cs → None ≡ named table cs
no_name table cs h = sym (none_from table [] cs (λ k more e. h k more e))

pub longest_name : (table : References) (cs name value : List ℕ) (h : IsLongestName table cs name value) →
    named table cs ≡ Some (named_as name h.rest value)
longest_name table cs name value h =
    ap (named table) h.begins ∙ name_from table []
    name h.rest value h.named (λ k more e there. h.longest k more (h.begins ∙ e) there)

-- what follows the longest name is found
pub name_and_rest : (table : References) (cs name value rest copy : List ℕ) (closed : Bool) →
    IsLongestName table cs name value → Some rest ≡ after name cs → copy ≡ value →
    closed ≡ list_any (λ c. eqb c 59) name
    → Some (record { characters = copy; closed = closed; rest = rest }) ≡ named table cs
name_and_rest table cs name value rest copy closed h e same is =
    let left : rest ≡ h.rest = same_Some rest h.rest (e ∙ ap (after name) h.begins ∙ after_mark name h.rest) in
    sym (
    longest_name table cs name value h ∙ ap (λ (l : List ℕ). Some (named_as name l value)) (sym left) ∙
    ap (λ (l : List ℕ). Some (named_as name rest l)) (sym same)
    ∙ ap (λ (b : Bool). let f : Found = record { characters = copy; closed = b; rest = rest } in Some f) (sym is))

-- the name that a text begins with stands at its front
pub name_stands : (table : References) (cs name value : List ℕ) → IsLongestName table cs name value →
    None ≡ after name cs → ⊥
name_stands table cs name value h e = none-some h.rest (e ∙ ap (after name) h.begins ∙ after_mark name h.rest)
