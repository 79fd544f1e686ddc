-- The calls of an article's blocks and of its targets lay just its lines.
use Rattle.std.proofs.Common.{◌≡◌, ◌&&◌, [], ◌∷◌, ◌++◌, if◌then◌else◌, ◌∙◌, Bool, List, None, Option, Some, ap}
use Rattle.std.proofs.Common.{append-nil, append_assoc, false, fold, map, refl, suc, sym, true, ℕ}
use Rattle.std.specs.Option.{option_and_then, option_map}
use Rattle.std.proofs.lemmas.Option.{none-some, same_Some}
use Rattle.block_layout.specs.Laid.{Laid, add_text_lines, flush, nothing_laid, parted as laid_parted, start_block}
use Rattle.block_layout.specs.declared.measure.Measure.{Measure}
use Rattle.article_values.specs.Articles.{Blocks}
use Rattle.article_definitions.specs.BlockCalls.{add_notes, awaits_after, noted, run_blocks, run_notes}
use Rattle.article_definitions.specs.Calls.{cell_of, measure}
use Rattle.article_definitions.specs.Layouts.{Line, Options, Tag, lay, layout, note_line, notes, notes_from, outermost}
use Rattle.article_definitions.specs.Layouts.{listed_targets, parted, targets_of}
use Rattle.text_footnotes.specs.Footnotes.{footnote_lines}
use Rattle.text_footnotes.proofs.PrintableLemmas.{shown_filled}
use Rattle.text_footnotes.specs.Targets.{has_text, noted_targets, with_text}
use Rattle.text_lines.specs.Tagged.{Item, tagged}
use Rattle.text_borders.specs.Across.{CellLine}
use Rattle.text_decorators.specs.Texts.{footnote_text}
use Rattle.text_pieces.specs.Sources.{is_filled}
use Rattle.article_definitions.proofs.BlocksCalled.{after_lines, blocks_called, laid, started_is}
use Rattle.article_definitions.proofs.Called.{KeepsMarkers}

-- ---- where there are targets, some have footnotes

one_stays : (t : List ℕ) (done targets : List (List ℕ)) → is_filled (fold with_text (t ∷ done) targets) ≡ true
one_stays t done [] = refl
one_stays t done (u ∷ targets) =
    by (has_text (t ∷ done) u) (one_stays t done targets) (one_stays t (done ++ u ∷ []) targets)
  where
    by : (b : Bool) → is_filled (fold with_text (t ∷ done) targets) ≡ true →
        is_filled (fold with_text (t ∷ (done ++ u ∷ [])) targets) ≡ true →
        is_filled (fold with_text (if b then t ∷ done else t ∷ (done ++ u ∷ [])) targets) ≡ true
    by true h e = h
    by false h e = e

some_stand : (shared : Bool) (targets : List (List ℕ)) → is_filled (noted_targets shared targets) ≡ is_filled targets
some_stand false targets = refl
some_stand true [] = refl
some_stand true (t ∷ targets) = one_stays t [] targets

module _ (kept : KeepsMarkers) (o : Options) (width : ℕ) where
  abbrev m : Measure
  m = measure o width

  abbrev at : List Line → Bool → Laid Tag
  at lines awaits = laid kept o lines awaits

  -- ---- the lines of targets

  lines_added : (lines : List (List (Item Tag))) (before : List Line) (awaits : Bool) →
      add_text_lines m outermost outermost lines (at before awaits)
      ≡ at (before ++ map (note_line o width) lines) awaits
  lines_added [] before awaits = ap (λ ls. at ls awaits) (sym (append-nil before))
  lines_added (l ∷ lines) before awaits =
      let one : Line = note_line o width l in
      ap (add_text_lines m outermost outermost lines) (after_lines kept o before (one ∷ []) awaits)
      ∙ lines_added lines (before ++ one ∷ []) awaits
      ∙ ap (λ ls. at ls awaits) (append_assoc before (one ∷ []) (map (note_line o width) lines))

  notes_added : (n : ℕ) (targets : List (List ℕ)) (before : List Line) (awaits : Bool) →
      add_notes o width n targets (at before awaits) ≡ at (before ++ notes_from o width n targets) awaits
  notes_added n [] before awaits = ap (λ ls. at ls awaits) (sym (append-nil before))
  notes_added n (target ∷ targets) before awaits =
      let own = footnote_lines o.wraps_links width (tagged (footnote_text n target) tt) in
      ap (add_notes o width (suc n) targets) (lines_added own before awaits)
      ∙ notes_added (suc n) targets (before ++ map (note_line o width) own) awaits
      ∙ ap (λ ls. at ls awaits) (append_assoc before (map (note_line o width) own) (notes_from o width (suc n) targets))

  -- ---- after the last block

  abbrev ended : Option (Laid Tag) → Option (Laid Tag)
  ended x = option_and_then (flush m outermost) x

  abbrev cells : Option (Laid Tag) → Option (List (CellLine Tag))
  cells x = option_map (λ (b : Laid Tag). b.lines) x

  abbrev with_notes : List (List ℕ) → List Line → List Line
  with_notes targets lines = parted o width lines ++ notes o width targets

  started_from : (b : Laid Tag) (x : Option (Laid Tag)) → flush m outermost b ≡ x →
      start_block m outermost b ≡ option_map (laid_parted m outermost) x
  started_from b x e = ap (option_map (laid_parted m outermost)) e

  parted_is : (lines : List Line) (awaits : Bool) →
      laid_parted m outermost (at lines awaits) ≡ at (parted o width lines) false
  parted_is lines awaits = same_Some _ _ (started_is kept o width lines awaits)

  -- with some targets
  some_noted : (target : List ℕ) (targets : List (List ℕ)) (awaits : Bool) (b : Laid Tag) (y : Option (List Line)) →
      flush m outermost b ≡ option_map (λ ls. at ls awaits) y →
      cells (ended (run_notes o width (target ∷ targets) b))
      ≡ option_map (map cell_of) (option_map (with_notes (target ∷ targets)) y)
  some_noted target targets awaits b None e =
      ap (λ x. cells (ended (option_map (add_notes o width 1 (target ∷ targets)) (ended x)))) (started_from b None e)
  some_noted target targets awaits b (Some lines) e =
      ap (λ x. cells (ended (option_map (add_notes o width 1 (target ∷ targets)) (ended x))))
      (started_from b (Some (at lines awaits)) e)
      ∙ ap (λ x. cells (ended (option_map (add_notes o width 1 (target ∷ targets)) (ended (Some x)))))
      (parted_is lines awaits)
      ∙ ap (λ x. cells (ended (Some x))) (notes_added 1 (target ∷ targets) (parted o width lines) false)

  some_called : (target : List ℕ) (targets : List (List ℕ)) (awaits : Bool) (x : Option (Laid Tag))
      (y : Option (List Line)) → ended x ≡ option_map (λ ls. at ls awaits) y →
      cells (ended (option_and_then (run_notes o width (target ∷ targets)) x))
      ≡ option_map (map cell_of) (option_map (with_notes (target ∷ targets)) y)
  some_called target targets awaits None None e = refl
  some_called target targets awaits None (Some lines) e = absurd (none-some _ e)
  some_called target targets awaits (Some b) y e = some_noted target targets awaits b y e

  -- and with none
  same_option : (x : Option (Laid Tag)) → option_and_then (run_notes o width []) x ≡ x
  same_option None = refl
  same_option (Some b) = refl

  only_lines : (awaits : Bool) (y : Option (List Line)) →
      cells (option_map (λ ls. at ls awaits) y) ≡ option_map (map cell_of) (option_map (λ ls. ls) y)
  only_lines awaits None = refl
  only_lines awaits (Some lines) = refl

  none_called : (awaits : Bool) (x : Option (Laid Tag)) (y : Option (List Line)) →
      ended x ≡ option_map (λ ls. at ls awaits) y →
      cells (ended (option_and_then (run_notes o width []) x)) ≡ option_map (map cell_of) (option_map (λ ls. ls) y)
  none_called awaits x y e = ap (λ x. cells (ended x)) (same_option x) ∙ ap cells e ∙ only_lines awaits y

  called : (all stand : List (List ℕ)) (footnotes awaits : Bool) (x : Option (Laid Tag)) (y : Option (List Line)) →
      is_filled stand ≡ is_filled all → ended x ≡ option_map (λ ls. at ls awaits) y →
      cells (ended (option_and_then (run_notes o width (if footnotes then stand else [])) x))
      ≡ option_map (map cell_of) (option_map (λ lines. if footnotes && is_filled all
      then parted o width lines ++ notes o width stand else lines) y)
  called all stand false awaits x y h e = none_called awaits x y e
  called [] [] true awaits x y h e = none_called awaits x y e
  called [] (target ∷ targets) true awaits x y h e = absurd (let wrong : true ≡ false = h in cc)
  called (one ∷ more) [] true awaits x y h e = absurd (let wrong : false ≡ true = h in cc)
  called (one ∷ more) (target ∷ targets) true awaits x y h e = some_called target targets awaits x y e

  pub whole_called : (a : Blocks) → option_map (λ (b : Laid Tag). b.lines) (option_and_then (flush m outermost)
      (option_and_then (run_notes o width (noted o (targets_of o a))) (run_blocks o width [] a nothing_laid)))
      ≡ option_map (map cell_of) (layout o (notes o width) width a)
  whole_called a = called (targets_of o a) (listed_targets o (targets_of o a)) o.footnotes
      (awaits_after a false) (run_blocks o width [] a nothing_laid) (lay o width 0 [] a [])
      (shown_filled o.prints_targets (noted_targets o.shares_footnotes (targets_of o a))
      ∙ some_stand o.shares_footnotes (targets_of o a)) (blocks_called kept o width 0 [] a [] false)
