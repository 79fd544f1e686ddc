-- How many lines have content.
use Rattle.std.specs.Prelude.{◌≡◌, ◌+◌, ◌-◌, ◌||◌, ◌==◌, [], ◌∷◌, ◌++◌, if◌then◌else◌, Bool, IsUtf8, List, chars, false}
use Rattle.std.specs.Prelude.{length, map, nat_lt, not, refl, true, ℕ}
use Rattle.std.proofs.Common.{sym, ap, ◌∙◌, arith}
use Rattle.std.proofs.lemmas.Bool.Decides.{nat_tests}
use Rattle.text_pieces.specs.Sources.{is_filled}
use Rattle.text_borders.specs.Across.{CellLine}
use Rattle.text_normal.proofs.WordLemmas.{empty_text, some_text}
use Rattle.text_cells.specs.Cells.{block_content, block_lines_of, content_count, laid_line_of, laid_text_of, part_lines}
use Rattle.text_cells.specs.Cells.{parts_content, parts_lines, text_count, texts_content, texts_of}
use Rattle.text_cells.specs.declared.laid_line.LaidLine.{LaidLine}
use Rattle.text_cells.specs.declared.laid_line.LaidText.{LaidText}
use Rattle.text_cells.specs.declared.part.Part.{Part}
use Rattle.text_cells.specs.declared.block_lines.BlockLines.{BlockLines}
use Rattle.block_layout.specs.Laid.{has_content}

none_more : (n : ℕ) → 0 + n ≡ n
none_more n = omega arith

one_more : (n : ℕ) → nat_lt 0 (1 + n) ≡ true
one_more n = grind (arith, nat_tests)

some_or : (b r : Bool) (n : ℕ) → nat_lt 0 n ≡ r → nat_lt 0 ((if b then 1 else 0) + n) ≡ (b || r)
some_or true r n e = one_more n
some_or false r n e = ap (λ k. nat_lt 0 k) (none_more n) ∙ e

counted_lines : {T S : Type 0} (seen : T → S) (lines : List (LaidLine T))
    → nat_lt 0 (content_count lines) ≡ has_content (map (laid_line_of seen) lines)
counted_lines seen [] = refl
counted_lines seen (l ∷ lines) =
    some_or l.content (has_content (map (laid_line_of seen) lines)) (content_count lines) (counted_lines seen lines)

counted_texts : {T S : Type 0} (seen : T → S) (texts : List (LaidText T))
    → nat_lt 0 (text_count texts) ≡ has_content (map (laid_text_of seen) texts)
counted_texts seen [] = refl
counted_texts seen (t ∷ texts) =
    some_or t.content (has_content (map (laid_text_of seen) texts)) (text_count texts) (counted_texts seen texts)

any_append : {S : Type 0} (ls ms : List (CellLine S)) → has_content (ls ++ ms) ≡ (has_content ls || has_content ms)
any_append [] ms = refl
any_append (l ∷ ls) ms =
    by l.content (has_content (ls ++ ms)) (has_content ls) (has_content ms) (any_append ls ms)
  where
    by : (b x y z : Bool) → x ≡ (y || z) → (b || x) ≡ ((b || y) || z)
    by true x y z e = refl
    by false x y z e = e

either : (n m : ℕ) → nat_lt 0 (n + m) ≡ (nat_lt 0 n || nat_lt 0 m)
either n m = grind (arith, nat_tests)

both_counted : {S : Type 0} (n m : ℕ) (ls ms : List (CellLine S)) → nat_lt 0 n ≡ has_content ls
    → nat_lt 0 m ≡ has_content ms → nat_lt 0 (n + m) ≡ has_content (ls ++ ms)
both_counted n m ls ms e f =
    either n m ∙ ap (λ b. b || nat_lt 0 m) e ∙ ap (λ b. has_content ls || b) f ∙ sym (any_append ls ms)

counted_parts : {T S : Type 0} (seen : T → S) (parts : List (Part T))
    → nat_lt 0 (parts_content parts) ≡ has_content (parts_lines seen parts)
counted_parts seen [] = refl
counted_parts seen (p ∷ parts) =
    both_counted (content_count p.before.items + texts_content p.texts) (parts_content parts) (part_lines seen p)
    (parts_lines seen parts)
    (both_counted (content_count p.before.items) (texts_content p.texts) (map (laid_line_of seen) p.before.items)
    (texts_of seen p.texts) (counted_lines seen p.before.items) (counted_texts seen p.texts.lines.items))
    (counted_parts seen parts)

pub counted_content : {T S : Type 0} (seen : T → S) (lines : BlockLines T)
    → nat_lt 0 (block_content lines) ≡ has_content (block_lines_of seen lines)
counted_content seen lines =
    both_counted (parts_content lines.parts.items) (content_count lines.lines)
    (parts_lines seen lines.parts.items) (map (laid_line_of seen) lines.lines)
    (counted_parts seen lines.parts.items) (counted_lines seen lines.lines)

-- more, and less
pub counted_more : (n k m old more new : ℕ) → n ≡ old → k ≡ more → m ≡ n + k → new ≡ old + more → m ≡ new
counted_more n k m old more new e f g h = omega arith

pub counted_less : (n k m old less new : ℕ) → n ≡ old → k ≡ less → m ≡ n - k → old ≡ new + less → m ≡ new
counted_less n k m old less new e f g h = omega arith

filled_none : (cs : List ℕ) → cs ≡ [] → false ≡ is_filled cs
filled_none [] e = refl
filled_none (c ∷ cs) e = cc

filled_some : (cs : List ℕ) → (cs ≡ [] → ⊥) → true ≡ is_filled cs
filled_some [] e = elim (e refl) [ ]
filled_some (c ∷ cs) e = refl

pub text_is_filled : (bytes : List ℕ) → IsUtf8 bytes → (b : Bool) → b ≡ (length bytes == 0)
    → not b ≡ is_filled (chars bytes)
text_is_filled bytes utf8 true e = filled_none (chars bytes) (empty_text bytes (sym e))
text_is_filled bytes utf8 false e = filled_some (chars bytes) (some_text bytes utf8 (sym e))
