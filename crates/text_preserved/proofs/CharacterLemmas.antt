-- The kinds of visible ASCII characters.
use Rattle.std.proofs.Common.{◌≡◌, ℕ, ◌≤◌, Bool, true, false, if◌then◌else◌, ap, ◌∙◌, arith, inr}
use Rattle.std.specs.Prelude.{is_some, ◌==◌}
use Rattle.std.proofs.lemmas.Bool.Decides.{nat_tests}
use Rattle.text_lines.specs.Columns.{columns_of, columns_of-one}
use Rattle.text_pieces.specs.Sources.{is_white_space}
use Rattle.text_preserved.specs.Preserved.{Kind, solid, nothing, kind_of}

shown : (is_tab is_white is_joint has_columns : Bool) (x y z : Kind) → is_tab ≡ false → is_white ≡ false
    → is_joint ≡ false → has_columns ≡ true
    → (if is_tab then x
    else (if is_white then y else (if is_joint then z else (if has_columns then solid else nothing))))
    ≡ solid
shown is_tab is_white is_joint has_columns x y z a b c d =
    ap (λ t. if t then x else (if is_white then y else (if is_joint then z else (if has_columns then solid
    else nothing)))) a
    ∙ ap (λ t. if t then y else (if is_joint then z else (if has_columns then solid else nothing))) b
    ∙ ap (λ t. if t then z else (if has_columns then solid else nothing)) c
    ∙ ap (λ t. if t then solid else nothing) d

no_tab : (c : ℕ) → 0x21 ≤ c → (c == 0x9) ≡ false
no_tab c low = grind (arith, nat_tests)

no_joint : (c : ℕ) → c ≤ 0x7E → (c == 0x200B) ≡ false
no_joint c high = grind (arith, nat_tests)

no_white_space : (c : ℕ) → 0x21 ≤ c → c ≤ 0x7E → is_white_space c ≡ false
no_white_space c low high = grind (arith, nat_tests)

pub visible_is_solid : (c : ℕ) → 0x21 ≤ c → c ≤ 0x7E → (width : ℕ) (wraps : Bool) → kind_of width wraps c ≡ solid
unfolding kind_of
visible_is_solid c low high width wraps =
    shown (c == 0x9) (is_white_space c) (c == 0x200B) (is_some (columns_of c)) _ _ _ (no_tab c low)
    (no_white_space c low high) (no_joint c high) (ap is_some (columns_of-one c (inr (omega (arith, low), high))))
