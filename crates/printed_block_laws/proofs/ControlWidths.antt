-- A control of C0 or C1 has no width, so a character with a width is none.
use Rattle.std.proofs.Common.{◌≡◌, ◌<◌, ◌≤◌, ◌&&◌, ⊎_elim, Bool, arith, false, is_some, refl, true, ℕ}
use Rattle.std.specs.Char.{is_control}
use Rattle.std.proofs.lemmas.Bool.{agree_below, agree_below_at, cases_lt}
use Rattle.std.proofs.lemmas.Bool.Decides.{nat_tests}
use Rattle.unicode_width.specs.Width.{char_width}
use Rattle.text_lines.specs.Columns.{columns_of}
use Rattle.printed_block_laws.specs.Printed.{IsPrinted}

-- below U+00A0 no character is both
none_below : agree_below (λ c. is_control c && is_some (columns_of c)) (λ c. false) 0xA0 ≡ true
unfolding columns_of char_width
none_below = refl

not_both : (control shown : Bool) → (control && shown) ≡ false → shown ≡ true → control ≡ false
not_both true shown both is = cc
not_both false shown both is = refl

none_above : (c : ℕ) → 0xA0 ≤ c → IsPrinted c
none_above c high = grind (arith, nat_tests)

pub printed_with_columns : (c : ℕ) → is_some (columns_of c) ≡ true → IsPrinted c
printed_with_columns c is = ⊎_elim below (none_above c) (cases_lt c 0xA0)
  where
    below : c < 0xA0 → IsPrinted c
    below low = not_both (is_control c) (is_some (columns_of c))
        (agree_below_at (λ d. is_control d && is_some (columns_of d)) (λ d. false) 0xA0 c none_below low) is
