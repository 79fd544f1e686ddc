-- Borders that are filled to a width.
use Rattle.std.proofs.Common.{◌≡◌, ℕ, ◌+◌, ◌-◌, Bool, true, false, length, replicate, if◌then◌else◌, refl, arith}
use Rattle.std.specs.Prelude.{nat_lt, max}
use Rattle.std.proofs.lemmas.Bool.Decides.{nat_tests}
use Rattle.text_lines.specs.Tagged.{character, line_columns}
use Rattle.text_borders.specs.Borders.{Border, stretched, with_segments, with_hole, filled_to}
use Rattle.text_borders.specs.BorderLaws.{IsSound}
use Rattle.text_borders.proofs.BorderLemmas.{length-stretched, order_wider, order_more}
use Rattle.text_borders.proofs.AcrossLemmas.{spaces_columns}

record IsFilled {S : Type 0} (width : ℕ) (b filled : Border S) : Type 0 where
  columns : length filled.segments ≡ max (length b.segments) width
  sound : IsSound b → IsSound filled

filled : {S : Type 0} (width : ℕ) (b : Border S) (narrow : Bool) → nat_lt (length b.segments) width ≡ narrow
    → IsFilled width b
    (if narrow then with_hole (length b.segments) (replicate (width - length b.segments) (character 0x20 b.tag))
    (with_segments (stretched width b.segments) b) else b)
filled width b true e =
    let n = length b.segments in
    let long = length-stretched width b.segments in
    let spaces = spaces_columns (width - n) b.tag in
    record {
      columns = long;
      sound = λ sound. order_wider 0 (n + line_columns (replicate (width - n) (character 0x20 b.tag)))
          (length (stretched width b.segments)) _ (grind (arith, nat_tests, long, spaces, e))
          (order_more 0 n (replicate (width - n) (character 0x20 b.tag)) b.holes sound);
    }
filled width b false e = record {
  columns = grind (arith, nat_tests);
  sound = λ sound. sound;
}

pub filled_columns : {S : Type 0} (width : ℕ) (b : Border S)
    → length (filled_to width b).segments ≡ max (length b.segments) width
filled_columns width b = (filled width b (nat_lt (length b.segments) width) refl).columns

pub filled_sound : {S : Type 0} (width : ℕ) (b : Border S) → IsSound b → IsSound (filled_to width b)
filled_sound width b sound = (filled width b (nat_lt (length b.segments) width) refl).sound sound
