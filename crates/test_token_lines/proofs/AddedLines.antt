-- What is read of lines that others were added to.
use Rattle.std.proofs.Common.{◌≡◌, ◌<◌, ◌^◌, [], ◌∷◌, ◌++◌, ◌==◌, ◌∙◌, IsUtf8, List, OnOk, Result, ap, append_assoc}
use Rattle.std.proofs.Common.{arith, codes, encode_utf8_all, false, length, refl, sym, true, ℕ}
use Rattle.std.proofs.lemmas.Bool.Decides.{nat_tests}
use Rattle.std.proofs.lemmas.Fmt.{IsAscii-decimal}
use Rattle.std.proofs.lemmas.Result.{on_ok_weaker}
use Rattle.std.proofs.lemmas.Str.{chars-IsAscii, chars-nil, encodes-chars}
use Rattle.std.proofs.lemmas.Str.Ascii.{IsAscii-cons}
use Rattle.std.specs.Fmt.{decimal}
use Rattle.std.specs.Str.{chars}
use Rattle.test_token_lines.specs.TokenLines.{Part, says, field, line, lines_from, text_line}

pub number_reads : (n : ℕ) → n < 2 ^ 64 → chars (9 ∷ decimal n) ≡ 9 ∷ decimal n
number_reads n small =
    chars-IsAscii (9 ∷ decimal n) (IsAscii-cons 9 (decimal n) (omega arith) (IsAscii-decimal n small))

-- one text was added, and then another
pub both : (old mid new xs ys : List ℕ) → mid ≡ old ++ xs → new ≡ mid ++ ys → new ≡ old ++ (xs ++ ys)
both old mid new xs ys first next = next ∙ ap (λ l. l ++ ys) first ∙ append_assoc old xs ys

-- a word, its fields and the end of the line
pub is_line : {T E : Type 0} (r : Result T E) (old mid more new word fields : List ℕ) → mid ≡ old ++ word
    → more ≡ mid ++ fields → OnOk r (new ≡ more ++ 10 ∷ []) → OnOk r (new ≡ old ++ line word fields)
is_line r old mid more new word fields first next last = on_ok_weaker r
    (λ e. both old mid new word (fields ++ 10 ∷ []) first (both mid more new fields (10 ∷ []) next e)) last

-- more was said
pub is_said : {T E : Type 0} (r : Result T E) (lines said new cs : List ℕ) → OnOk r (new ≡ said ++ cs)
    → OnOk r ((rest : List Part) → lines ++ lines_from new rest ≡ lines ++ lines_from said (says cs ∷ rest))
is_said r lines said new cs added = on_ok_weaker r (λ e rest. ap (λ l. lines ++ lines_from l rest) e) added

pub no_text : (bs : List ℕ) (n : ℕ) → n ≡ length bs → (n == 0) ≡ true → chars bs ≡ []
no_text [] n counted none = chars-nil
no_text (b ∷ bs) n counted none = absurd (grind (arith, nat_tests, counted, none))

some_line : (cs : List ℕ) → (cs ≡ [] → ⊥) → text_line cs ≡ line (codes "text") (field cs)
some_line [] some = absurd (some refl)
some_line (c ∷ cs) some = refl

-- of a text that is not empty
pub said_line : (bs : List ℕ) (n : ℕ) → IsUtf8 bs → n ≡ length bs → (n == 0) ≡ false
    → text_line (chars bs) ≡ line (codes "text") (field (chars bs))
said_line bs n utf8 counted some = some_line (chars bs)
    (λ e. let none : length bs ≡ 0 = ap length (sym (encodes-chars bs utf8) ∙ ap encode_utf8_all e) in
    grind (arith, nat_tests, counted, some, none))
