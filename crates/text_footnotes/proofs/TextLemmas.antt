-- Texts among others, and each text once.
use Rattle.std.proofs.Common.{◌≡◌, ◌+◌, ◌||◌, [], ◌∷◌, ◌++◌, ◌∙◌, Bool, List, Some, String, ap, arith, chars, cond}
use Rattle.std.proofs.Common.{false, fold, length, not, refl, string_bytes, string_eq, sym, true, ℕ}
use Rattle.std.proofs.lemmas.Bool.{cond-true, cond-false}
use Rattle.std.proofs.lemmas.List.Folds.{list_any-append}
use Rattle.std.proofs.lemmas.List.Sums.{fold-append}
use Rattle.std.proofs.lemmas.Str.{encodes-chars, IsUtf8-string_bytes}
use Rattle.std.specs.Cmp.{both_ways}
use Rattle.std.specs.Cmp.Lexicographic.{bytes_decides, nat_list_eq_equiv}
use Rattle.std.specs.Global.{Global}
use Rattle.std.specs.List.{list_any, position_or_len}
use Rattle.std.specs.Str.{encode_utf8_all}
use Rattle.text_footnotes.specs.Targets.{distinct, has_text, is_same_text, number_among, with_text}

abbrev pub text_of : String Global → List ℕ
text_of s = chars (string_bytes s)

same_bytes : (a b : String Global) → text_of a ≡ text_of b → string_bytes a ≡ string_bytes b
same_bytes a b e = sym (encodes-chars (string_bytes a) (IsUtf8-string_bytes a)) ∙ ap encode_utf8_all e
    ∙ encodes-chars (string_bytes b) (IsUtf8-string_bytes b)

-- strings are equal where their texts are
pub string_eq-text : (a b : String Global) → string_eq a b ≡ is_same_text (text_of a) (text_of b)
string_eq-text a b = both_ways (string_eq a b) (is_same_text (text_of a) (text_of b))
    (λ e. (bytes_decides (text_of a) (text_of b)).1 (ap chars ((bytes_decides (string_bytes a) (string_bytes b)).0 e)))
    (λ e. (bytes_decides (string_bytes a) (string_bytes b)).1
    (same_bytes a b ((bytes_decides (text_of a) (text_of b)).0 e)))

or-false : (b : Bool) → (b || false) ≡ b
or-false true = refl
or-false false = refl

or_assoc : (x y z : Bool) → ((x || y) || z) ≡ (x || (y || z))
or_assoc true y z = refl
or_assoc false y z = refl

-- the same text is among the same texts
pub has_same : (texts : List (List ℕ)) (a b : List ℕ) → is_same_text a b ≡ true →
    has_text texts a ≡ has_text texts b
has_same [] a b e = refl
has_same (t ∷ texts) a b e = λ i. nat_list_eq_equiv.congr a b t e i || has_same texts a b e i

pub has_push : (texts : List (List ℕ)) (text t : List ℕ) →
    has_text (texts ++ text ∷ []) t ≡ (has_text texts t || is_same_text t text)
has_push texts text t = list_any-append (is_same_text t) texts (text ∷ [])
    ∙ ap (λ b. has_text texts t || b) (or-false (is_same_text t text))

-- a text that is there changes nothing
had : (texts : List (List ℕ)) (text t : List ℕ) → has_text texts text ≡ true → (s : Bool) →
    is_same_text t text ≡ s → has_text texts t ≡ (has_text texts t || s)
had texts text t has true e =
    let there : has_text texts t ≡ true = has_same texts t text e ∙ has in there ∙ ap (λ b. b || true) (sym there)
had texts text t has false e = sym (or-false (has_text texts t))

pub has_again : (texts : List (List ℕ)) (text t : List ℕ) → has_text texts text ≡ true →
    has_text (texts ++ text ∷ []) t ≡ has_text texts t
has_again texts text t has = has_push texts text t ∙ sym (had texts text t has (is_same_text t text) refl)

pub has_with_at : (texts : List (List ℕ)) (text t : List ℕ) (b : Bool) → has_text texts text ≡ b →
    has_text (cond b texts (texts ++ text ∷ [])) t ≡ (has_text texts t || is_same_text t text)
has_with_at texts text t true e = had texts text t e (is_same_text t text) refl
has_with_at texts text t false e = has_push texts text t

has_fold : (held texts : List (List ℕ)) (t : List ℕ) →
    has_text (fold with_text held texts) t ≡ (has_text held t || has_text texts t)
has_fold held [] t = sym (or-false (has_text held t))
has_fold held (u ∷ texts) t = has_fold (with_text held u) texts t
    ∙ ap (λ b. b || has_text texts t) (has_with_at held u t (has_text held u) refl)
    ∙ or_assoc (has_text held t) (is_same_text t u) (has_text texts t)

-- each once, they are the same texts
pub has_distinct : (texts : List (List ℕ)) (t : List ℕ) → has_text (distinct texts) t ≡ has_text texts t
has_distinct texts t = has_fold [] texts t

distinct_push : (texts : List (List ℕ)) (text : List ℕ) →
    distinct (texts ++ text ∷ []) ≡ with_text (distinct texts) text
distinct_push texts text = fold-append with_text [] texts (text ∷ [])

pub distinct_again : (texts : List (List ℕ)) (text : List ℕ) → has_text texts text ≡ true →
    distinct (texts ++ text ∷ []) ≡ distinct texts
distinct_again texts text has = distinct_push texts text
    ∙ cond-true (has_text (distinct texts) text) _ _ (has_distinct texts text ∙ has)

pub distinct_new : (texts : List (List ℕ)) (text : List ℕ) → has_text texts text ≡ false →
    distinct (texts ++ text ∷ []) ≡ distinct texts ++ text ∷ []
distinct_new texts text new = distinct_push texts text
    ∙ cond-false (has_text (distinct texts) text) _ _ (has_distinct texts text ∙ new)

-- the first place of what is there stays
position_found : (p : List ℕ → Bool) (texts more : List (List ℕ)) → list_any p texts ≡ true →
    position_or_len p (texts ++ more) ≡ position_or_len p texts
position_found p [] more h = cc h
position_found p (t ∷ texts) more h = at (p t) h (λ e. position_found p texts more e)
  where
    at : (b : Bool) → (b || list_any p texts) ≡ true →
        (list_any p texts ≡ true → position_or_len p (texts ++ more) ≡ position_or_len p texts) →
        cond (not b) (1 + position_or_len p (texts ++ more)) 0 ≡ cond (not b) (1 + position_or_len p texts) 0
    at true e rest = refl
    at false e rest = ap (λ n. 1 + n) (rest e)

position_after : (p : List ℕ → Bool) (texts : List (List ℕ)) (text : List ℕ) → list_any p texts ≡ false →
    p text ≡ true → position_or_len p (texts ++ text ∷ []) ≡ length texts
position_after p [] text none one = ap (λ b. cond (not b) (1 + 0) 0) one
position_after p (t ∷ texts) text none one = at (p t) none (λ e. position_after p texts text e one)
  where
    at : (b : Bool) → (b || list_any p texts) ≡ false →
        (list_any p texts ≡ false → position_or_len p (texts ++ text ∷ []) ≡ length texts) →
        cond (not b) (1 + position_or_len p (texts ++ text ∷ [])) 0 ≡ length (t ∷ texts)
    at true e rest = cc e
    at false e rest = omega (arith, rest e)

-- the number of what is there stays, and a new text has the next one
pub number_found : (texts : List (List ℕ)) (text t : List ℕ) → has_text texts t ≡ true →
    number_among (texts ++ text ∷ []) (Some t) ≡ number_among texts (Some t)
number_found texts text t has = ap (λ n. n + 1) (position_found (is_same_text t) texts (text ∷ []) has)

pub number_after : (texts : List (List ℕ)) (text t : List ℕ) → has_text texts t ≡ false →
    is_same_text t text ≡ true → number_among (texts ++ text ∷ []) (Some t) ≡ length texts + 1
number_after texts text t none same = ap (λ n. n + 1) (position_after (is_same_text t) texts text none same)
