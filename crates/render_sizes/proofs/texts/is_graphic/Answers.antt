use Rattle.std.proofs.Common.{◌≡◌, ℕ, ◌≤◌, false, ap, arith, inr}
use Rattle.std.specs.Prelude.{unwrap_or}
use Rattle.std.specs.Char.{is_whitespace}
use Rattle.std.proofs.lemmas.Bool.Decides.{nat_tests}
use Rattle.text_lines.specs.Columns.{columns_of-one, width_of}
use Rattle.render_sizes.proofs.texts.is_graphic.Goals as goal

one_wide : (c : ℕ) → 33 ≤ c → c ≤ 126 → width_of c ≡ 1
unfolding width_of
one_wide c low high = ap (λ o. unwrap_or o 0) (columns_of-one c (inr (omega arith, high)))

no_space : (c : ℕ) → 33 ≤ c → c ≤ 126 → is_whitespace c ≡ false
no_space c low high = grind (arith, nat_tests)

pub returns-in-33-to-126 : goal.returns-in-33-to-126
returns-in-33-to-126 c = λ _.
    let low : 33 ≤ c.args.byte = omega arith in
    let high : c.args.byte ≤ 126 = omega arith in
    (no_space c.args.byte low high, one_wide c.args.byte low high)
