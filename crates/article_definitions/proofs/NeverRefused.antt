-- Paragraphs alone are never refused where two columns are to be had.
use Rattle.std.proofs.Common.{◌≡◌, ◌≤◌, ◌&&◌, ◌||◌, [], ◌∷◌, ◌++◌, ◌∙◌, Bool, List, None, Option, Some, ap, arith}
use Rattle.std.proofs.Common.{false, nat_lt, not, refl, suc, true, ℕ}
use Rattle.std.proofs.lemmas.Bool.Decides.{nat_tests}
use Rattle.std.specs.Option.{option_and_then}
use Rattle.std.specs.Prelude.{unwrap_or, IfSome}
use Rattle.text_normal.specs.Riders.{has_wide_text}
use Rattle.text_lines.specs.Columns.{columns_of, columns_of-at_most_two, width_of}
use Rattle.text_pieces.specs.Sources.{Source, fragment, is_break_point, letter}
use Rattle.article_values.specs.Articles.{Blocks, Inlines, bullets, division, heading, no_blocks, numbers, paragraph}
use Rattle.article_values.specs.Articles.{quote}
use Rattle.article_definitions.specs.Layouts.{Line, Options, Stretch, Tag, all_fit, if_fits, lay, lines_of_stretches}
use Rattle.article_definitions.specs.Layouts.{outermost, paragraph_lines, parted, parts_of, stretches, targets_in}
use Rattle.article_definitions.specs.Layouts.{wrap_at}
use Rattle.article_definitions.specs.Paragraphs.{AreParagraphs}

by_columns : (o : Option ℕ) → IfSome o (λ n. n ≤ 2) → unwrap_or o 0 ≤ 2
by_columns None h = omega arith
by_columns (Some n) h = h

at_most_two : (c : ℕ) → width_of c ≤ 2
unfolding width_of
at_most_two c = by_columns (columns_of c) (columns_of-at_most_two c)

not_wider : (w c : ℕ) → 2 ≤ w → nat_lt w (width_of c) ≡ false
not_wider w c h = grind (arith, nat_tests, at_most_two c)

no_wide : (w : ℕ) (s : List (Source Tag)) → 2 ≤ w → has_wide_text w s ≡ false
no_wide w [] h = refl
no_wide w (letter c a b ∷ s) h =
    ap (λ b. (not (is_break_point c) && b) || has_wide_text w s) (not_wider w c h)
    ∙ by (not (is_break_point c)) (has_wide_text w s) (no_wide w s h)
  where
    by : (b r : Bool) → r ≡ false → ((b && false) || r) ≡ false
    by true r e = e
    by false r e = e
no_wide w (fragment name ∷ s) h = no_wide w s h

module _ (o : Options) (width : ℕ) (room : 2 ≤ wrap_at o width) where
  all : (ss : List Stretch) → all_fit o width ss ≡ true
  all [] = refl
  all (s ∷ ss) = ap (λ b. not b && all_fit o width ss) (no_wide (wrap_at o width) s.source room) ∙ all ss

  laid : (k : ℕ) (ts : List (List ℕ)) (is : Inlines) → paragraph_lines o width k ts is
      ≡ Some (lines_of_stretches o width k (stretches None [] (parts_of o outermost ts is)))
  laid k ts is = let ss : List Stretch = stretches None [] (parts_of o outermost ts is) in
      ap (λ b. if_fits b (lines_of_stretches o width k ss)) (all ss)

  pub never_refused : (k : ℕ) (ts : List (List ℕ)) (a : Blocks) (lines : List Line) → AreParagraphs a →
      (all : List Line) × (lay o width k ts a lines ≡ Some all)
  never_refused k ts (paragraph is rest) lines h =
      let new : List Line = lines_of_stretches o width k (stretches None [] (parts_of o outermost ts is)) in
      let later = never_refused (suc k) (ts ++ targets_in o is) rest (parted o width lines ++ new) h in (
        later.0,
        ap (option_and_then (λ new. lay o width (suc k) (ts ++ targets_in o is) rest
            (parted o width lines ++ new))) (laid k ts is) ∙ later.1,
      )
  never_refused k ts no_blocks lines h = (lines, refl)
  never_refused k ts (heading level is rest) lines h = absurd h
  never_refused k ts (division kids rest) lines h = absurd h
  never_refused k ts (quote kids rest) lines h = absurd h
  never_refused k ts (bullets items rest) lines h = absurd h
  never_refused k ts (numbers first items rest) lines h = absurd h
