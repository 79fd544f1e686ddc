-- What is shown of a text, run by run.
use Rattle.std.proofs.Common.{◌≡◌, [], ◌∷◌, ◌++◌, ◌∙◌, Bool, IsUtf8, List, None, Option, ap, arith, drop, false, length}
use Rattle.std.proofs.Common.{refl, subst, sym, take, take-append-drop, true, ℕ}
use Rattle.std.proofs.lemmas.Bool.Decides.{nat_tests}
use Rattle.std.proofs.lemmas.Grind.{flat_map-append}
use Rattle.std.proofs.lemmas.List.{length-append}
use Rattle.std.proofs.lemmas.Str.{IsUtf8-drop, IsUtf8-take, chars-append, chars_from_encodes, chars_past_char}
use Rattle.std.proofs.lemmas.Str.{encode_same, len_utf8_bounds, length-encode}
use Rattle.std.specs.Char.{char_set_contains, encode_utf8}
use Rattle.std.specs.Str.{NoCharPasses, NonePass, chars}
use Rattle.std.specs.Str.Pattern.{FindsBy, MatchBeginsAt}
use Rattle.dom_writing.specs.Dumps.{shown, shown_character}
use Rattle.dom_writing.specs.Marks.{marks}

abbrev pub is_mark : ℕ → Bool
is_mark c = char_set_contains marks c

pub escape_10 : (c : ℕ) → c ≡ 10 → is_mark c ≡ true → chars (92 ∷ 110 ∷ []) ≡ shown_character c
unfolding chars
escape_10 c e h = subst (λ d. chars (92 ∷ 110 ∷ []) ≡ shown_character d) (sym e) refl

pub escape_92 : (c : ℕ) → c ≡ 92 → is_mark c ≡ true → chars (92 ∷ 92 ∷ []) ≡ shown_character c
unfolding chars
escape_92 c e h = subst (λ d. chars (92 ∷ 92 ∷ []) ≡ shown_character d) (sym e) refl

-- a character that is no mark stays
plain_character : (c : ℕ) → is_mark c ≡ false → shown_character c ≡ c ∷ []
plain_character c h = grind (arith, nat_tests)

plain_all : (cs : List ℕ) → NonePass is_mark cs → shown cs ≡ cs
plain_all [] h = refl
plain_all (c ∷ cs) h = ap (λ l. l ++ shown cs) (plain_character c h.0) ∙ ap (λ l. c ∷ l) (plain_all cs h.1)

plain_text : (bs : List ℕ) → IsUtf8 bs → NoCharPasses is_mark bs → shown (chars bs) ≡ chars bs
plain_text bs u h = subst (λ cs. shown cs ≡ cs) (chars_from_encodes h.0 bs u h.1) (plain_all h.0 h.2)

-- what `find` promises at a set of characters
abbrev pub FindsOneOf : List ℕ → List ℕ → Option (ℕ × ℕ) → Type 0
FindsOneOf set bs r = (k : ℕ → Bool) → ((c : ℕ) → char_set_contains set c ≡ k c) → FindsBy k bs r

pub none_found : (bs : List ℕ) → IsUtf8 bs → FindsOneOf marks bs None → shown (chars bs) ≡ chars bs
none_found bs u found = plain_text bs u (found is_mark (λ c. refl))

-- where one is found, a character stands
pub not_at_end : (bs rest : List ℕ) (i : ℕ) → MatchBeginsAt (FindsOneOf marks) bs i → rest ≡ drop i bs
    → length rest ≡ 0 → ⊥
not_at_end bs rest i found at none =
    let hit = (found.1 is_mark (λ c. refl)).1 in
    let e = ap length (at ∙ hit.2.split) ∙ length-append (encode_utf8 hit.0) (drop found.0 bs) in
    let w = length-encode hit.0 in
    let b = len_utf8_bounds hit.0 in
    omega arith

pub mark_found : (bs run rest trailing escape : List ℕ) (i c : ℕ) → IsUtf8 bs → MatchBeginsAt (FindsOneOf marks) bs i
    → run ≡ take i bs → rest ≡ drop i bs → rest ≡ encode_utf8 c ++ trailing
    → (is_mark c ≡ true → chars escape ≡ shown_character c)
    → shown (chars bs) ≡ chars run ++ (chars escape ++ shown (chars trailing))
mark_found bs run rest trailing escape i c u found is_run is_rest at is =
    let all = found.1 is_mark (λ c. refl) in
    let hit = all.1 in
    let one = encode_same c hit.0 trailing (drop found.0 bs) (sym at ∙ is_rest ∙ hit.2.split) in
    let mark : is_mark c ≡ true = ap is_mark one.0 ∙ hit.1 in
    let front : IsUtf8 (take i bs) = IsUtf8-take bs i u found.3 in
    let back : IsUtf8 (drop i bs) = IsUtf8-drop bs i u found.3 in
    let plain = plain_text (take i bs) front all.0 in
    let cut = ap chars (sym (take-append-drop i bs)) ∙ chars-append (take i bs) (drop i bs) front
    ∙ ap (λ l. chars (take i bs) ++ l) (chars_past_char (drop i bs) trailing c back (sym is_rest ∙ at)) in
    ap shown cut ∙ flat_map-append shown_character (chars (take i bs)) (c ∷ chars trailing)
    ∙ ap (λ l. l ++ (shown_character c ++ shown (chars trailing))) (plain ∙ ap chars (sym is_run))
    ∙ ap (λ l. chars run ++ (l ++ shown (chars trailing))) (sym (is mark))
