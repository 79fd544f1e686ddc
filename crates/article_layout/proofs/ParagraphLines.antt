-- The lines of a paragraph, by what was said of it.
use Rattle.std.proofs.Common.{◌≡◌, [], ◌∷◌, ◌++◌, if◌then◌else◌, ◌∙◌, Bool, List, None, Option, Some, ap, false, map}
use Rattle.std.proofs.Common.{refl, sym, true, ℕ}
use Rattle.std.specs.Option.{option_and_then, option_map}
use Rattle.std.proofs.lemmas.Option.{none-some, same_Some}
use Rattle.article_definitions.specs.Calls.{block_with, cell_of, measure, run, run_whole}
use Rattle.article_definitions.specs.Layouts.{Line, Options, Part, Stretch, Tag, all_fit, break_lines, empty_line}
use Rattle.article_definitions.specs.Layouts.{if_fits, line_of, lines_of_stretches, outermost, paragraph_lines}
use Rattle.article_definitions.specs.Layouts.{parts_of, stretch_lines, stretches, targets_in}
use Rattle.article_layout.specs.Seen.{of_paragraph}
use Rattle.article_layout.specs.Walks.{Said, said}
use Rattle.article_layout.proofs.SaidRuns.{said_is}
use Rattle.article_values.specs.Articles.{Inlines}
use Rattle.block_layout.specs.Laid.{Laid, flush, nothing_laid}
use Rattle.text_lines.specs.Tagged.{Item}
use Rattle.text_borders.specs.Across.{CellLine}
use Rattle.text_wrapping.specs.Blocks.{ends_in_columns}

module _ (o : Options) (width k : ℕ) where
  -- lines as lines of a block, and as lines of the paragraph again
  abbrev again : List Line → List Line
  again lines = map (of_paragraph k) (map cell_of lines)

  again_both : (xs ys : List Line) → again (xs ++ ys) ≡ again xs ++ again ys
  again_both [] ys = refl
  again_both (x ∷ xs) ys = ap (λ l. of_paragraph k (cell_of x) ∷ l) (again_both xs ys)

  again_stretch : (s : Stretch) (xs : List (List (Item Tag))) →
      again (map (line_of o width k s) xs) ≡ map (line_of o width k s) xs
  again_stretch s [] = refl
  again_stretch s (x ∷ xs) = ap (λ l. line_of o width k s x ∷ l) (again_stretch s xs)

  again_break : (b : Bool) (tag : Tag) → again (if b then [] else empty_line o width tag (Some k) ∷ [])
      ≡ (if b then [] else empty_line o width tag (Some k) ∷ [])
  again_break true tag = refl
  again_break false tag = refl

  again_lines : (ss : List Stretch) → again (lines_of_stretches o width k ss) ≡ lines_of_stretches o width k ss
  again_lines [] = refl
  again_lines (s ∷ []) = again_stretch s (stretch_lines o width s)
  again_lines (s ∷ t ∷ more) =
      let own = map (line_of o width k s) (stretch_lines o width s) in
      let broken = break_lines o width k s.close (stretch_lines o width s) in
      let rest = lines_of_stretches o width k (t ∷ more) in
      again_both own (broken ++ rest)
      ∙ ap (λ l. l ++ again (broken ++ rest)) (again_stretch s (stretch_lines o width s))
      ∙ ap (λ l. own ++ l) (again_both broken rest
      ∙ ap (λ l. l ++ again rest) (again_break (ends_in_columns (stretch_lines o width s)) s.close)
      ∙ ap (λ l. broken ++ l) (again_lines (t ∷ more)))

  again_found : (b : Bool) (ss : List Stretch) (lines : List Line) →
      if_fits b (lines_of_stretches o width k ss) ≡ Some lines → again lines ≡ lines
  again_found true ss lines h =
      ap again (sym (same_Some (lines_of_stretches o width k ss) lines h)) ∙ again_lines ss
      ∙ same_Some (lines_of_stretches o width k ss) lines h
  again_found false ss lines h = absurd (none-some lines h)

  abbrev as_block : List Line → Laid Tag
  as_block lines = block_with (map cell_of lines) None []

  none_found : (found : Option (List Line)) → option_map as_block found ≡ None → found ≡ None
  none_found None h = refl
  none_found (Some lines) h = absurd (none-some (as_block lines) (sym h))

  some_found : (found : Option (List Line)) (cells : List (CellLine Tag)) (b : Laid Tag) (new : List Line) →
      ((lines : List Line) → found ≡ Some lines → again lines ≡ lines) → option_map as_block found ≡ Some b →
      cells ≡ b.lines → new ≡ map (of_paragraph k) cells → found ≡ Some new
  some_found None cells b new same h e f = absurd (none-some b h)
  some_found (Some lines) cells b new same h e f =
      ap Some (sym (same lines refl)
      ∙ ap (map (of_paragraph k)) (ap (λ (l : Laid Tag). l.lines) (same_Some (as_block lines) b h) ∙ sym e) ∙ sym f)

  module _ (is : Inlines) (ts : List (List ℕ)) where
    abbrev parts : List Part
    parts = parts_of o outermost ts is

    abbrev found : Option (List Line)
    found = paragraph_lines o width k ts is

    abbrev Calls : Type 0
    Calls = run_whole (measure o width) parts nothing_laid ≡ option_map as_block found

    abbrev trailing : Option (Laid Tag) → Option Said
    trailing x = option_map (λ b. record { laid = b; targets = ts ++ targets_in o is }) x

    ran : (tag : Tag) (b : Laid Tag) (x : Option Said) → tag ≡ [] → b ≡ nothing_laid →
        said o (measure o width) tag is (record { laid = b; targets = ts }) ≡ x →
        trailing (run (measure o width) parts nothing_laid) ≡ x
    ran tag b x e f h = sym (said_is (measure o width) o is [] ts nothing_laid)
        ∙ ap (λ t. said o (measure o width) t is (record { laid = nothing_laid; targets = ts })) (sym e)
        ∙ ap (λ b. said o (measure o width) tag is (record { laid = b; targets = ts })) (sym f) ∙ h

    not_ran : (x : Option (Laid Tag)) → trailing x ≡ None → x ≡ None
    not_ran None h = refl
    not_ran (Some b) h = absurd (none-some _ (sym h))

    was_ran : (x : Option (Laid Tag)) (s : Said) → trailing x ≡ Some s → x ≡ Some s.laid
    was_ran None s h = absurd (none-some s h)
    was_ran (Some b) s h = ap Some (ap (λ (t : Said). t.laid) (same_Some _ s h))

    targets_then : (x : Option (Laid Tag)) (s : Said) → trailing x ≡ Some s → s.targets ≡ ts ++ targets_in o is
    targets_then None s h = absurd (none-some s h)
    targets_then (Some b) s h = sym (ap (λ (t : Said). t.targets) (same_Some _ s h))

    pub not_said : Calls → (tag : Tag) (b : Laid Tag) → tag ≡ [] → b ≡ nothing_laid →
        said o (measure o width) tag is (record { laid = b; targets = ts }) ≡ None → found ≡ None
    not_said calls tag b e f h = none_found found (sym calls ∙ ap (option_and_then (flush (measure o width) outermost))
        (not_ran (run (measure o width) parts nothing_laid) (ran tag b None e f h)))

    flushed : Calls → (tag : Tag) (b : Laid Tag) (s : Said) (y : Option (Laid Tag)) → tag ≡ [] → b ≡ nothing_laid →
        said o (measure o width) tag is (record { laid = b; targets = ts }) ≡ Some s →
        flush (measure o width) tag s.laid ≡ y → option_map as_block found ≡ y
    flushed calls tag b s y e f h g = sym calls ∙ ap (option_and_then (flush (measure o width) outermost))
        (was_ran (run (measure o width) parts nothing_laid) s (ran tag b (Some s) e f h))
        ∙ ap (λ t. flush (measure o width) t s.laid) (sym e) ∙ g

    pub not_flushed : Calls → (tag : Tag) (b : Laid Tag) (s : Said) → tag ≡ [] → b ≡ nothing_laid →
        said o (measure o width) tag is (record { laid = b; targets = ts }) ≡ Some s →
        flush (measure o width) tag s.laid ≡ None → found ≡ None
    not_flushed calls tag b s e f h g = none_found found (flushed calls tag b s None e f h g)

    pub lines_found : Calls → (tag : Tag) (b : Laid Tag) (s : Said) (c : Laid Tag) (cells : List (CellLine Tag))
        (new : List Line) → tag ≡ [] → b ≡ nothing_laid →
        said o (measure o width) tag is (record { laid = b; targets = ts }) ≡ Some s →
        flush (measure o width) tag s.laid ≡ Some c → cells ≡ c.lines → new ≡ map (of_paragraph k) cells →
        found ≡ Some new
    lines_found calls tag b s c cells new e f h g i j = some_found found cells c new
        (λ lines p. again_found (all_fit o width (stretches None [] parts)) (stretches None [] parts) lines p)
        (flushed calls tag b s (Some c) e f h g) i j

    pub targets_found : (tag : Tag) (b : Laid Tag) (s : Said) → tag ≡ [] → b ≡ nothing_laid →
        said o (measure o width) tag is (record { laid = b; targets = ts }) ≡ Some s →
        s.targets ≡ ts ++ targets_in o is
    targets_found tag b s e f h =
        targets_then (run (measure o width) parts nothing_laid) s (ran tag b (Some s) e f h)
