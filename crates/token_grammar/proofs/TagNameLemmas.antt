-- The characters of a name, and the last of a text.
use Rattle.std.proofs.Common.{◌≡◌, ◌-◌, ◌==◌, [], ◌∷◌, ◌++◌, ◌∙◌, Bool, IsUtf8, List, MatchBool, None, String, ap}
use Rattle.std.proofs.Common.{append-nil, append_assoc, arith, chars, drop, encode_utf8, encode_utf8_all, false, length}
use Rattle.std.proofs.Common.{refl, string_bytes, subst, suc, sym, take, true, ℕ}
use Rattle.std.proofs.lemmas.Bool.{ne_eqb, eqb-true, and_parts}
use Rattle.std.proofs.lemmas.Bool.Decides.{nat_tests}
use Rattle.std.proofs.lemmas.List.{take-append-drop, drop_all, nil_from_length}
use Rattle.std.proofs.lemmas.Str.{IsUtf8-encode, IsUtf8-past_char, IsUtf8-string_bytes, IsUtf8-take, chars-append}
use Rattle.std.proofs.lemmas.Str.{chars-nil, chars_past_char, cons_from_encodes, encodes-append, encodes-chars}
use Rattle.std.proofs.Math.Utf8.{scalar}
use Rattle.std.specs.Char.{IsScalar, to_ascii_lowercase}
use Rattle.std.specs.Str.{all_scalars}
use Rattle.std.specs.Str.Pattern.{FindsCharSuffix, HasSuffixMatch}
use Rattle.token_grammar.specs.Characters.{name_of, shown}
use Rattle.token_grammar.specs.Classes.{is_of}
use Rattle.token_grammar.specs.Slices.{front_while, rest_while}
use Rattle.token_grammar.specs.declared.slices.CharacterClass.TheVariants.{AttributeName, Lowered}
use Rattle.token_grammar.proofs.SliceLemmas.{front_on, rest_off, rest_on}
use Rattle.token_grammar.specs.Tags.{ends_with_slash}

ends_in : (front : List ℕ) (c : ℕ) → ends_with_slash (front ++ c ∷ []) ≡ (c == 47)
ends_in [] c = refl
ends_in (d ∷ front) c = rw (ne_eqb (length (front ++ c ∷ [])) 0 (longer front c)) (ends_in front c) where
  longer : (front : List ℕ) (c : ℕ) → length (front ++ c ∷ []) ≡ 0 → ⊥
  longer [] c e = omega arith
  longer (d ∷ front) c e = omega arith

-- what ends with `/` has it after the others
abbrev HasSlashAfter : List ℕ → Type 0
HasSlashAfter cs = (front : List ℕ) × (cs ≡ front ++ 47 ∷ [])

slash_after : (cs : List ℕ) → ends_with_slash cs ≡ true → HasSlashAfter cs
slash_after [] e = cc
slash_after (c ∷ []) e = ([], ap (λ d. d ∷ []) (eqb-true c 47 e))
slash_after (c ∷ d ∷ cs) e =
    let rest = slash_after (d ∷ cs) (sym (rw (ne_eqb (suc (length cs)) 0 (λ k. omega arith)) refl) ∙ e) in
    (c ∷ rest.0, ap (λ l. c ∷ l) rest.1)

no_slash : (b : Bool) → (b ≡ true → ⊥) → false ≡ b
no_slash true h = absurd (h refl)
no_slash false h = refl

pub slash_tested : (bs : List ℕ) (r : Bool) → IsUtf8 bs →
    MatchBool r (HasSuffixMatch (FindsCharSuffix 47) bs) (FindsCharSuffix 47 bs None) → r ≡ ends_with_slash (chars bs)
slash_tested bs true u h =
    let at = length bs - h.0 in
    let last : drop at bs ≡ encode_utf8 47 ++ [] =
    h.1.1.split ∙ ap (λ l. encode_utf8 47 ++ l) (drop_all (length bs) bs (omega arith)) in
    let front_text : IsUtf8 (take at bs) = IsUtf8-take bs at u h.3 in
    let text : IsUtf8 (encode_utf8 47 ++ []) =
    subst IsUtf8 (sym (append-nil (encode_utf8 47))) (IsUtf8-encode 47 refl) in
    let one : chars (drop at bs) ≡ 47 ∷ [] =
    ap chars last ∙ chars_past_char (encode_utf8 47 ++ []) [] 47 text refl ∙ ap (λ l. 47 ∷ l) chars-nil in
    let whole : chars bs ≡ chars (take at bs) ++ 47 ∷ [] =
    ap chars (sym (take-append-drop at bs)) ∙ chars-append (take at bs) (drop at bs) front_text ∙
    ap (λ l. chars (take at bs) ++ l) one in
    sym (ap ends_with_slash whole ∙ ends_in (chars (take at bs)) 47)
slash_tested bs false u h =
    no_slash (ends_with_slash (chars bs)) (λ e.
    let found = slash_after (chars bs) e in
    h (encode_utf8_all found.0) (sym (encodes-chars bs u) ∙ ap encode_utf8_all found.1 ∙
    encodes-append found.0 (47 ∷ []) ∙ ap (λ l. encode_utf8_all found.0 ++ l) (append-nil (encode_utf8 47))))

lowered_scalar : (c : ℕ) → IsScalar c → IsScalar (to_ascii_lowercase (shown c))
lowered_scalar c h = grind (arith, nat_tests)

scalar_first : (bs rest : List ℕ) (c : ℕ) → IsUtf8 bs → bs ≡ encode_utf8 c ++ rest → IsScalar c
scalar_first bs rest c u e =
    let cut = cons_from_encodes u.0 rest c (u.1.1 ∙ e) in
    (and_parts (scalar c) (all_scalars cut.0) (ap all_scalars (sym cut.1) ∙ u.1.0)).0

one_character : (c : ℕ) → IsScalar c → chars (encode_utf8 c) ≡ c ∷ []
one_character c h =
    chars_past_char (encode_utf8 c) [] c (IsUtf8-encode c h) (sym (append-nil (encode_utf8 c))) ∙
    ap (λ l. c ∷ l) chars-nil

-- one more character of a name is pushed, and what is pushed with what is left stays the same
pub record IsNamed (name rest whole : List ℕ) : Type 0 where
  pub text : IsUtf8 rest
  pub same : chars name ++ name_of (chars rest) ≡ whole

pub named-more : {Z : Type 0} (old : String Z) (new bs rest whole : List ℕ) (c d : ℕ) →
    IsNamed (string_bytes old) bs whole → bs ≡ encode_utf8 c ++ rest → d ≡ to_ascii_lowercase (shown c) →
    new ≡ string_bytes old ++ encode_utf8 d → IsNamed new rest whole
named-more old new bs rest whole c d h e lower pushed =
    let is : IsScalar d = subst IsScalar (sym lower) (lowered_scalar c (scalar_first bs rest c h.text e)) in
    let longer : chars new ≡ chars (string_bytes old) ++ d ∷ [] =
    ap chars pushed ∙ chars-append (string_bytes old) (encode_utf8 d) (IsUtf8-string_bytes old) ∙
    ap (λ l. chars (string_bytes old) ++ l) (one_character d is) in
    let left : name_of (chars bs) ≡ d ∷ name_of (chars rest) =
    ap name_of (chars_past_char bs rest c h.text e) ∙ ap (λ x. x ∷ name_of (chars rest)) (sym lower) in
    record {
      text = IsUtf8-past_char bs rest c h.text e;
      same = ap (λ l. l ++ name_of (chars rest)) longer ∙ append_assoc (chars (string_bytes old)) (d ∷ [])
          (name_of (chars rest)) ∙ ap (λ l. chars (string_bytes old) ++ l) (sym left) ∙ h.same;
    }

lowered_step : (c : ℕ) (cs : List ℕ) (is_lowered : Bool) → is_of Lowered c ≡ is_lowered →
    (rest_while (is_of Lowered) cs ≡ [] → name_of cs ≡ cs) →
    rest_while (is_of Lowered) (c ∷ cs) ≡ [] → name_of (c ∷ cs) ≡ c ∷ cs
lowered_step c cs true e h none =
    ap (λ d. d ∷ name_of cs) (stays c e) ∙ ap (λ l. c ∷ l) (h (sym (rest_on (is_of Lowered) c cs e) ∙ none)) where
      stays : (c : ℕ) → is_of Lowered c ≡ true → to_ascii_lowercase (shown c) ≡ c
      stays c e = grind (arith, nat_tests, e)
lowered_step c cs false e h none = let absurd_list : c ∷ cs ≡ [] = sym (rest_off (is_of Lowered) c cs e) ∙ none in cc

-- a name is what is written where all of it is lowered
pub lowered_name : (cs : List ℕ) → rest_while (is_of Lowered) cs ≡ [] → name_of cs ≡ cs
lowered_name [] none = refl
lowered_name (c ∷ cs) none = lowered_step c cs (is_of Lowered c) refl (lowered_name cs) none

pub lowered_text : (cs bs : List ℕ) → chars bs ≡ rest_while (is_of Lowered) cs → (length bs == 0) ≡ true →
    name_of cs ≡ cs
lowered_text cs bs left none =
    lowered_name cs (sym left ∙ ap chars (nil_from_length bs (eqb-true (length bs) 0 none)) ∙ chars-nil)

-- a name goes on with its first character where this is of the class
pub named-with_first : (made slice cs trailing : List ℕ) (first : ℕ) → cs ≡ first ∷ trailing →
    is_of AttributeName first ≡ true → slice ≡ front_while (is_of AttributeName) cs → made ≡ name_of slice
    → made ≡ name_of (first ∷ front_while (is_of AttributeName) trailing)
named-with_first made slice cs trailing first e passes front named =
    named ∙ ap name_of (front ∙ ap (front_while (is_of AttributeName)) e ∙ front_on
    (is_of AttributeName) first trailing passes)

pub left-with_first : (rest cs trailing : List ℕ) (first : ℕ) → cs ≡ first ∷ trailing → is_of AttributeName first ≡ true →
    rest ≡ rest_while (is_of AttributeName) cs
    → rest ≡ rest_while (is_of AttributeName) trailing
left-with_first rest cs trailing first e passes left =
    left ∙ ap (rest_while (is_of AttributeName)) e ∙ rest_on (is_of AttributeName) first trailing passes

pub named-after_first : (made slice trailing : List ℕ) (first : ℕ) → slice ≡ front_while (is_of AttributeName) trailing →
    made ≡ name_of (first ∷ slice)
    → made ≡ name_of (first ∷ front_while (is_of AttributeName) trailing)
named-after_first made slice trailing first front named = named ∙ ap (λ l. name_of (first ∷ l)) front

pub named-all : (name rest whole : List ℕ) → IsNamed name rest whole → length rest ≡ 0 → chars name ≡ whole
named-all name rest whole h none =
    sym (append-nil (chars name)) ∙ ap (λ l. chars name ++ name_of l)
    (sym (ap chars (nil_from_length rest none) ∙ chars-nil)) ∙ h.same

pub named-trailing : (made start text : List ℕ) → made ≡ chars start ++ name_of text → start ≡ [] → made ≡ name_of text
named-trailing made start text e none = e ∙ ap (λ l. l ++ name_of text) (ap chars none ∙ chars-nil)

pub named-from_first : (made start pushed text : List ℕ) (c d : ℕ) → IsScalar c → d ≡ to_ascii_lowercase (shown c) →
    start ≡ [] → pushed ≡ start ++ encode_utf8 d → made ≡ chars pushed ++ name_of text → made ≡ name_of (c ∷ text)
named-from_first made start pushed text c d is lower none p e =
    let one : chars pushed ≡ d ∷ [] =
    ap chars (p ∙ ap (λ l. l ++ encode_utf8 d) none) ∙
    one_character d (subst IsScalar (sym lower) (lowered_scalar c is)) in
    e ∙ ap (λ l. l ++ name_of text) one ∙ ap (λ x. x ∷ name_of text) lower
