-- Columns of a text, read character by character.
use Rattle.std.proofs.Common.{◌≡◌, ◌+◌, ◌-◌, ◌^◌, ◌<◌, ◌≤◌, ◌==◌, if◌then◌else◌, [], ◌∷◌, ◌++◌, ◌∙◌, Bool, IsUtf8, List}
use Rattle.std.proofs.Common.{ap, arith, chars, drop, false, get_or, length, length-append, refl, suc, sym, true, zero}
use Rattle.std.proofs.Common.{ℕ}
use Rattle.std.specs.Char.{is_whitespace}
use Rattle.std.specs.List.{list_all}
use Rattle.std.proofs.lemmas.Bool.Decides.{nat_tests}
use Rattle.std.proofs.lemmas.Str.{chars-nil}
use Rattle.text_lines.proofs.Emptiness.{chars_nil}
use Rattle.render_sizes.specs.Extents.{capped}
use Rattle.render_sizes.specs.TextSizes.{added, size_after, text_size}

added_capped : (a b c : ℕ) → capped (capped (a + capped b) + c) ≡ capped (a + (b + c))
added_capped a b c = omega arith

drop_on : (i : ℕ) (cs : List ℕ) (c : ℕ) → i < length cs → c ≡ get_or cs i c → drop i cs ≡ c ∷ drop (suc i) cs
drop_on i [] c h e = absurd (omega arith)
drop_on zero (d ∷ cs) c h e = ap (λ x. x ∷ cs) (sym e)
drop_on (suc i) (d ∷ cs) c h e = drop_on i cs c (omega arith) e

pushed : {Y : Type 0} (ys : List Y) (y : Y) → length (ys ++ y ∷ []) ≡ suc (length ys)
pushed ys y = let a = length-append ys (y ∷ []) in omega arith

-- one character more is read
pub next_size : {Y : Type 0} (cs : List ℕ) (ys : List Y) (y : Y) (c more columns new whole : ℕ)
    (gap is_space : Bool) → (length ys < length cs) × (c ≡ get_or cs (length ys) c) → is_space ≡ is_whitespace c
    → more ≡ capped (added gap is_space c) → new ≡ capped (columns + more)
    → capped (columns + size_after gap (drop (length ys) cs)) ≡ whole
    → capped (new + size_after is_space (drop (length (ys ++ y ∷ [])) cs)) ≡ whole
next_size cs ys y c more columns new whole gap is_space turn space gives sum so_far =
    let i = length ys in
    let later = size_after is_space (drop (suc i) cs) in
    let here : size_after gap (drop i cs) ≡ added gap is_space c + later =
    ap (size_after gap) (drop_on i cs c turn.0 turn.1)
    ∙ ap (λ b. added gap b c + size_after b (drop (suc i) cs)) (sym space) in
    ap (λ n. capped (new + size_after is_space (drop n cs))) (pushed ys y)
    ∙ (ap (λ n. capped (n + later)) (sum ∙ ap (λ k. capped (columns + k)) gives)
    ∙ (added_capped columns (added gap is_space c) later
    ∙ (ap (λ k. capped (columns + k)) (sym here) ∙ so_far)))

drop_whole : (i : ℕ) (cs : List ℕ) → i ≡ length cs → drop i cs ≡ []
drop_whole zero [] e = refl
drop_whole zero (c ∷ cs) e = absurd (omega arith)
drop_whole (suc i) [] e = refl
drop_whole (suc i) (c ∷ cs) e = drop_whole i cs (omega arith)

pub whole_size : {Y : Type 0} (cs : List ℕ) (ys : List Y) (columns whole : ℕ) (gap : Bool) → length ys ≡ length cs
    → columns ≤ 2 ^ 64 - 1 → capped (columns + size_after gap (drop (length ys) cs)) ≡ whole → columns ≡ whole
whole_size cs ys columns whole gap all fits h =
    alone columns fits
    ∙ (sym (ap (λ l. capped (columns + size_after gap l)) (drop_whole (length ys) cs all)) ∙ h) where
      alone : (n : ℕ) → n ≤ 2 ^ 64 - 1 → n ≡ capped (n + 0)
      alone n h = omega arith

pub stays_capped : (a b n : ℕ) → n ≡ capped (a + b) → n ≤ 2 ^ 64 - 1
stays_capped a b n e = omega arith

-- ---- white space alone

some_length : (b : ℕ) (bs : List ℕ) → (length (b ∷ bs) == 0) ≡ false
some_length b bs = grind (arith, nat_tests)

pub empty_size : (bs : List ℕ) → (length bs == 0) ≡ true → 0 ≡ capped (text_size (chars bs))
empty_size [] h = ap (λ cs. capped (text_size cs)) (sym chars-nil)
empty_size (b ∷ bs) h = let k = sym (some_length b bs) ∙ h in cc

some_text : (bs : List ℕ) → IsUtf8 bs → (length bs == 0) ≡ false → chars bs ≡ [] → ⊥
some_text [] utf8 h none = cc
some_text (b ∷ bs) utf8 h none = let k = chars_nil (b ∷ bs) utf8 none in cc

of_spaces : (cs : List ℕ) → (cs ≡ [] → ⊥) → list_all is_whitespace cs ≡ true → 1 ≡ capped (text_size cs)
of_spaces [] some h = absurd (some refl)
of_spaces (c ∷ cs) some h = ap (λ b. capped (if b then 1 else size_after false (c ∷ cs))) (sym h)

pub white_size : (bs : List ℕ) → IsUtf8 bs → (length bs == 0) ≡ false → list_all is_whitespace (chars bs) ≡ true
    → 1 ≡ capped (text_size (chars bs))
white_size bs utf8 h white = of_spaces (chars bs) (some_text bs utf8 h) white

pub words_size : (cs : List ℕ) → list_all is_whitespace cs ≡ false
    → capped (size_after false cs) ≡ capped (text_size cs)
words_size [] h = refl
words_size (c ∷ cs) h = ap (λ b. capped (if b then 1 else size_after false (c ∷ cs))) (sym h)
