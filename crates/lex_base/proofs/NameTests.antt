-- Names and values of references, from what calls on the bytes of a text say.
use Rattle.std.proofs.Common.{◌≡◌, ◌≢◌, ◌-◌, ◌<◌, ◌&&◌, [], ◌∷◌, ◌++◌, ◌∙◌, Bool, Bor, IsUtf8, List, MatchOption, None}
use Rattle.std.proofs.Common.{Option, Some, ap, append-nil, arith, chars, drop, encode_utf8, encode_utf8_all, eqb}
use Rattle.std.proofs.Common.{false, inl, inr, leb, length, length-drop, not, refl, subst, sym, take, true, unwrap_or}
use Rattle.std.proofs.Common.{ℕ}
use Rattle.std.proofs.lemmas.Bool.{eqb-false, ne_eqb, lt-leb, lt-ltb, and_parts, cases_lt}
use Rattle.std.proofs.lemmas.Bool.Decides.{nat_tests}
use Rattle.std.proofs.lemmas.List.{take-append-drop, nil_from_length}
use Rattle.std.proofs.lemmas.Str.{IsUtf8-past_char, IsUtf8-take, chars-append, chars-nil, chars_past_char}
use Rattle.std.proofs.lemmas.Str.{encodes-append, encodes-chars, scalars-chars}
use Rattle.std.proofs.Math.Bool.{and-true}
use Rattle.std.proofs.Math.Utf8.{scalar}
use Rattle.std.specs.Char.{IsScalar}
use Rattle.std.specs.Str.{all_scalars, IsCharBoundary}
use Rattle.std.specs.List.{list_all}
use Rattle.std.specs.Str.Pattern.{FindsCharSuffix, StripsSuffix}
use Rattle.lex_base.proofs.TextFronts.{chars-encode}
use Rattle.lex_base.specs.References.{is_alphanumeric, without_semicolon, is_word, is_name, is_shown, is_value}

not_empty : (c : ℕ) (cs : List ℕ) → eqb (length (c ∷ cs)) 0 ≡ false
not_empty c cs = ne_eqb (length (c ∷ cs)) 0 (λ e. omega arith)

-- a last semicolon is left out, and a text without one stays
semicolon_gone : (cs : List ℕ) → without_semicolon (cs ++ 59 ∷ []) ≡ cs
semicolon_gone [] = refl
semicolon_gone (c ∷ []) = ap (λ l. c ∷ l) (semicolon_gone [])
semicolon_gone (c ∷ d ∷ cs) = rw (not_empty d (cs ++ 59 ∷ [])) (ap (λ l. c ∷ l) (semicolon_gone (d ∷ cs)))

semicolon_lacking : (cs : List ℕ) → ((front : List ℕ) → cs ≢ front ++ 59 ∷ []) → without_semicolon cs ≡ cs
semicolon_lacking [] h = refl
semicolon_lacking (c ∷ []) h = rw (ne_eqb c 59 (λ e. h [] (ap (λ d. d ∷ []) e))) refl
semicolon_lacking (c ∷ d ∷ cs) h =
    rw (not_empty d cs) (ap (λ l. c ∷ l) (semicolon_lacking (d ∷ cs) (λ front e. h (c ∷ front) (ap (λ l. c ∷ l) e))))

-- `strip_suffix` of a semicolon
pub stripped : (text : Bor (List ℕ)) (r : Option (Bor (List ℕ))) → IsUtf8 text.now →
    MatchOption r (FindsCharSuffix 59 text.now None) (λ x. StripsSuffix (FindsCharSuffix 59) text.now x.now)
    → chars (unwrap_or r text).now ≡ without_semicolon (chars text.now)
stripped text None u h = sym (semicolon_lacking (chars text.now) (λ front e.
    h (encode_utf8_all front) (sym (encodes-chars text.now u) ∙ ap encode_utf8_all e ∙ encodes-append front (59 ∷ []) ∙
    ap (λ l. encode_utf8_all front ++ l) (append-nil (encode_utf8 59)))))
stripped text (Some x) u h =
    let at = length text.now - h.0 in
    let front : IsUtf8 (take at text.now) =
    IsUtf8-take text.now at u (subst (λ k. IsCharBoundary text.now (length text.now - k)) (sym h.1.0) h.1.2) in
    let end : drop (length text.now) text.now ≡ [] =
    nil_from_length _ (omega (arith, length-drop (length text.now) text.now)) in
    let last : drop at text.now ≡ encode_utf8 59 =
    h.1.1.split ∙ ap (λ l. encode_utf8 59 ++ l) end ∙ append-nil (encode_utf8 59) in
    let whole : chars text.now ≡ chars (take at text.now) ++ 59 ∷ [] =
    ap chars (sym (take-append-drop at text.now)) ∙ chars-append (take at text.now) (drop at text.now) front ∙
    ap (λ l. chars (take at text.now) ++ l) (ap chars last ∙ chars-encode 59 refl) in
    ap chars h.2 ∙ sym (semicolon_gone (chars (take at text.now))) ∙ ap without_semicolon (sym whole)

-- what a word of a text says of the text
pub named : (cs w : List ℕ) (all : Bool) → w ≡ without_semicolon cs → all ≡ list_all is_alphanumeric w → 0 < length w →
    all ≡ is_name cs
named cs w all e is some =
    is ∙ ap (λ t. t && list_all is_alphanumeric w) (sym (lt-ltb 0 (length w) some)) ∙ ap is_word e

pub unnamed : (cs w : List ℕ) → w ≡ without_semicolon cs → w ≡ [] → false ≡ is_name cs
unnamed cs w e none = ap is_word (sym none ∙ e)

-- a text with bytes has characters
pub some_chars : (bs : List ℕ) → IsUtf8 bs → eqb (length bs) 0 ≡ false → 0 < length (chars bs)
some_chars bs u e = elim (cases_lt 0 (length (chars bs))) [
  | inl some ↦ some
  | inr none ↦
      let nothing : bs ≡ [] =
      sym (encodes-chars bs u) ∙ ap encode_utf8_all (nil_from_length (chars bs) (omega arith)) in
      absurd (eqb-false (length bs) 0 e (ap length nothing))
]

-- the characters of a text that is read one by one
pub no_chars : (bs : List ℕ) → length bs ≡ 0 → chars bs ≡ []
no_chars bs e = ap chars (nil_from_length bs e) ∙ chars-nil

pub one_char : (bs bs1 : List ℕ) (c : ℕ) → IsUtf8 bs → bs ≡ encode_utf8 c ++ bs1 → length bs1 ≡ 0 → chars bs ≡ c ∷ []
one_char bs bs1 c u e none = chars_past_char bs bs1 c u e ∙ ap (λ l. c ∷ l) (no_chars bs1 none)

pub two_chars : (bs bs1 bs2 : List ℕ) (c d : ℕ) → IsUtf8 bs → bs ≡ encode_utf8 c ++ bs1 → bs1 ≡ encode_utf8 d ++ bs2 →
    length bs2 ≡ 0 → chars bs ≡ c ∷ d ∷ []
two_chars bs bs1 bs2 c d u e f none =
    chars_past_char bs bs1 c u e ∙ ap (λ l. c ∷ l) (one_char bs1 bs2 d (IsUtf8-past_char bs bs1 c u e) f none)

pub three_chars : (bs bs1 bs2 bs3 : List ℕ) (c d x : ℕ) → IsUtf8 bs → bs ≡ encode_utf8 c ++ bs1 →
    bs1 ≡ encode_utf8 d ++ bs2 → bs2 ≡ encode_utf8 x ++ bs3 → chars bs ≡ c ∷ d ∷ x ∷ chars bs3
three_chars bs bs1 bs2 bs3 c d x u e f g =
    let v = IsUtf8-past_char bs bs1 c u e in
    let w = IsUtf8-past_char bs1 bs2 d v f in
    chars_past_char bs bs1 c u e ∙ ap (λ l. c ∷ l) (chars_past_char bs1 bs2 d v f) ∙
    ap (λ l. c ∷ d ∷ l) (chars_past_char bs2 bs3 x w g)

shown_scalar : (c : ℕ) → IsScalar c → is_shown c ≡ not (eqb c 0)
shown_scalar c s = grind (arith, nat_tests)

pub one_value : (bs : List ℕ) (c : ℕ) → IsUtf8 bs → chars bs ≡ c ∷ [] → not (eqb c 0) ≡ is_value (chars bs)
one_value bs c u e =
    let s : all_scalars (c ∷ []) ≡ true = ap all_scalars (sym e) ∙ scalars-chars bs u in
    rw (e, shown_scalar c (and_parts (scalar c) true s).0) (sym (and-true (not (eqb c 0))))

pub two_value : (bs : List ℕ) (c d : ℕ) → IsUtf8 bs → chars bs ≡ c ∷ d ∷ [] → (not (eqb c 0) && not (eqb d 0))
    ≡ is_value (chars bs)
two_value bs c d u e =
    let s : all_scalars (c ∷ d ∷ []) ≡ true = ap all_scalars (sym e) ∙ scalars-chars bs u in
    let parts = and_parts (scalar c) (all_scalars (d ∷ [])) s in
    rw (e, shown_scalar c parts.0, shown_scalar d (and_parts (scalar d) true parts.1).0)
    (ap (λ t. not (eqb c 0) && t) (sym (and-true (not (eqb d 0)))))

too_long : (a z : Bool) → false ≡ ((a && false) && z)
too_long true z = refl
too_long false z = refl

pub three_value : (cs rest : List ℕ) (c d x : ℕ) → cs ≡ c ∷ d ∷ x ∷ rest → false ≡ is_value cs
three_value cs rest c d x e =
    let long : leb (length cs) 2 ≡ false = lt-leb (length cs) 2 (omega (arith, ap length e)) in
    too_long (leb 1 (length cs)) (list_all is_shown cs) ∙ ap (λ t. (leb 1 (length cs) && t) && list_all is_shown cs)
    (sym long)

pub none_value : (cs : List ℕ) → cs ≡ [] → false ≡ is_value cs
none_value cs e = ap is_value (sym e)
