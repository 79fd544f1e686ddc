-- What is escaped of a text, run by run.
use Rattle.std.proofs.Common.{◌≡◌, [], ◌∷◌, ◌++◌, ◌∙◌, Bool, IsUtf8, List, None, Option, ap, append_assoc, arith, drop}
use Rattle.std.proofs.Common.{false, length, refl, subst, sym, take, take-append-drop, true, ℕ}
use Rattle.std.proofs.lemmas.Bool.Decides.{nat_tests}
use Rattle.std.proofs.lemmas.List.{length-append}
use Rattle.std.proofs.lemmas.Str.{IsUtf8-drop, IsUtf8-take, chars-append, chars_from_encodes, chars_past_char}
use Rattle.std.proofs.lemmas.Str.{encode_same, len_utf8_bounds, length-encode}
use Rattle.std.specs.Char.{char_set_contains, encode_utf8}
use Rattle.std.specs.Str.{NoCharPasses, NonePass, chars}
use Rattle.std.specs.Str.Pattern.{FindsBy, MatchBeginsAt}
use Rattle.tree_serializer.specs.Escapes.{escaped, escaped_character}
use Rattle.tree_serializer.specs.Marks.{is_mark, marks}

pub reference_38 : (c : ℕ) → c ≡ 38 → (in_value : Bool) → is_mark in_value c ≡ true
    → chars (38 ∷ 97 ∷ 109 ∷ 112 ∷ 59 ∷ []) ≡ escaped_character in_value c
unfolding chars
reference_38 c e v h = subst (λ d. chars (38 ∷ 97 ∷ 109 ∷ 112 ∷ 59 ∷ []) ≡ escaped_character v d) (sym e) refl

pub reference_160 : (c : ℕ) → c ≡ 160 → (in_value : Bool) → is_mark in_value c ≡ true
    → chars (38 ∷ 110 ∷ 98 ∷ 115 ∷ 112 ∷ 59 ∷ []) ≡ escaped_character in_value c
unfolding chars
reference_160 c e v h = subst (λ d. chars (38 ∷ 110 ∷ 98 ∷ 115 ∷ 112 ∷ 59 ∷ []) ≡ escaped_character v d) (sym e) refl

pub reference_60 : (c : ℕ) → c ≡ 60 → (in_value : Bool) → is_mark in_value c ≡ true
    → chars (38 ∷ 108 ∷ 116 ∷ 59 ∷ []) ≡ escaped_character in_value c
unfolding chars
reference_60 c e v h = subst (λ d. chars (38 ∷ 108 ∷ 116 ∷ 59 ∷ []) ≡ escaped_character v d) (sym e) refl

pub reference_62 : (c : ℕ) → c ≡ 62 → (in_value : Bool) → is_mark in_value c ≡ true
    → chars (38 ∷ 103 ∷ 116 ∷ 59 ∷ []) ≡ escaped_character in_value c
unfolding chars
reference_62 c e v h = subst (λ d. chars (38 ∷ 103 ∷ 116 ∷ 59 ∷ []) ≡ escaped_character v d) (sym e) refl

quote_34 : (in_value : Bool) → is_mark in_value 34 ≡ true
    → chars (38 ∷ 113 ∷ 117 ∷ 111 ∷ 116 ∷ 59 ∷ []) ≡ escaped_character in_value 34
unfolding chars
quote_34 true h = refl
quote_34 false h = cc

pub reference_34 : (c : ℕ) → c ≡ 34 → (in_value : Bool) → is_mark in_value c ≡ true
    → chars (38 ∷ 113 ∷ 117 ∷ 111 ∷ 116 ∷ 59 ∷ []) ≡ escaped_character in_value c
reference_34 c e v h =
    subst (λ d. chars (38 ∷ 113 ∷ 117 ∷ 111 ∷ 116 ∷ 59 ∷ []) ≡ escaped_character v d) (sym e)
    (quote_34 v (subst (λ d. is_mark v d ≡ true) e h))

pub escaped-append : (in_value : Bool) (cs ds : List ℕ)
    → escaped in_value (cs ++ ds) ≡ escaped in_value cs ++ escaped in_value ds
escaped-append v [] ds = refl
escaped-append v (c ∷ cs) ds =
    ap (λ l. escaped_character v c ++ l) (escaped-append v cs ds)
    ∙ sym (append_assoc (escaped_character v c) (escaped v cs) (escaped v ds))

-- a character that is no mark stays
plain_character : (in_value : Bool) (c : ℕ) → is_mark in_value c ≡ false → escaped_character in_value c ≡ c ∷ []
plain_character true c h = grind (arith, nat_tests)
plain_character false c h = grind (arith, nat_tests)

plain_all : (in_value : Bool) (cs : List ℕ) → NonePass (is_mark in_value) cs → escaped in_value cs ≡ cs
plain_all v [] h = refl
plain_all v (c ∷ cs) h = ap (λ l. l ++ escaped v cs) (plain_character v c h.0) ∙ ap (λ l. c ∷ l) (plain_all v cs h.1)

plain_text : (in_value : Bool) (bs : List ℕ) → IsUtf8 bs → NoCharPasses (is_mark in_value) bs
    → escaped in_value (chars bs) ≡ chars bs
plain_text v bs u h =
    subst (λ cs. escaped v cs ≡ cs) (chars_from_encodes h.0 bs u h.1) (plain_all v h.0 h.2)

-- what `find` promises at a set of characters
abbrev pub FindsOneOf : List ℕ → List ℕ → Option (ℕ × ℕ) → Type 0
FindsOneOf set bs r = (k : ℕ → Bool) → ((c : ℕ) → char_set_contains set c ≡ k c) → FindsBy k bs r

pub none_found : (in_value : Bool) (set bs : List ℕ) → IsUtf8 bs → set ≡ marks in_value → FindsOneOf set bs None
    → escaped in_value (chars bs) ≡ chars bs
none_found v set bs u same found =
    plain_text v bs u (found (is_mark v) (λ c. ap (λ l. char_set_contains l c) same))

-- where one is found, a character stands
pub not_at_end : (in_value : Bool) (set bs rest : List ℕ) (i : ℕ) → set ≡ marks in_value
    → MatchBeginsAt (FindsOneOf set) bs i → rest ≡ drop i bs → length rest ≡ 0 → ⊥
not_at_end v set bs rest i same found at none =
    let hit = (found.1 (is_mark v) (λ c. ap (λ l. char_set_contains l c) same)).1 in
    let e = ap length (at ∙ hit.2.split) ∙ length-append (encode_utf8 hit.0) (drop found.0 bs) in
    let w = length-encode hit.0 in
    let b = len_utf8_bounds hit.0 in
    omega arith

pub mark_found : (in_value : Bool) (set bs run rest trailing reference : List ℕ) (i c : ℕ) → IsUtf8 bs
    → set ≡ marks in_value → MatchBeginsAt (FindsOneOf set) bs i → run ≡ take i bs → rest ≡ drop i bs
    → rest ≡ encode_utf8 c ++ trailing
    → ((v : Bool) → is_mark v c ≡ true → chars reference ≡ escaped_character v c)
    → escaped in_value (chars bs) ≡ chars run ++ (chars reference ++ escaped in_value (chars trailing))
mark_found v set bs run rest trailing reference i c u same found is_run is_rest at is =
    let all = found.1 (is_mark v) (λ c. ap (λ l. char_set_contains l c) same) in
    let hit = all.1 in
    let one = encode_same c hit.0 trailing (drop found.0 bs) (sym at ∙ is_rest ∙ hit.2.split) in
    let mark : is_mark v c ≡ true = ap (is_mark v) one.0 ∙ hit.1 in
    let front : IsUtf8 (take i bs) = IsUtf8-take bs i u found.3 in
    let back : IsUtf8 (drop i bs) = IsUtf8-drop bs i u found.3 in
    let plain = plain_text v (take i bs) front all.0 in
    let cut = ap chars (sym (take-append-drop i bs)) ∙ chars-append (take i bs) (drop i bs) front
    ∙ ap (λ l. chars (take i bs) ++ l) (chars_past_char (drop i bs) trailing c back (sym is_rest ∙ at)) in
    ap (escaped v) cut ∙ escaped-append v (chars (take i bs)) (c ∷ chars trailing)
    ∙ ap (λ l. l ++ (escaped_character v c ++ escaped v (chars trailing))) (plain ∙ ap chars (sym is_run))
    ∙ ap (λ l. chars run ++ (l ++ escaped v (chars trailing))) (sym (is v mark))
