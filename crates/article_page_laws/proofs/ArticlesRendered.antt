-- What an article's values are rendered as is what its layout's calls give.
use Rattle.std.proofs.Common.{◌≡◌, ◌<◌, [], ◌∷◌, if◌then◌else◌, ◌∙◌, Bool, List, None, Option, Some, ap, fold, lt-ltb}
use Rattle.std.proofs.Common.{map, refl, suc, sym, ℕ}
use Rattle.std.specs.Option.{option_and_then, option_map}
use Rattle.article_definitions.specs.ArticleValues.{page_values}
use Rattle.article_definitions.specs.BlockCalls.{add_notes, noted as noted_targets, run_blocks, run_notes}
use Rattle.article_definitions.specs.Calls.{cell_of, measure}
use Rattle.article_definitions.specs.Layouts.{Line, Options, Tag, layout, notes, outermost, targets_of}
use Rattle.article_page_laws.specs.ArticlesLaid.{AreLaidAs, options_by, shown_lines}
use Rattle.article_values.specs.Articles.{Blocks}
use Rattle.article_page_laws.specs.Pages.{page_of, parts_at, renderer_at}
use Rattle.block_layout.specs.Laid.{Laid, finished, flush, nothing_laid, start_block}
use Rattle.block_renderer.specs.Footnotes.{add_footnote, add_footnotes}
use Rattle.html_render_tree.specs.PageLines.{Setting, laid_page, noted, renderer_lines, with_notes, with_targets}
use Rattle.block_trait.specs.Renderers.{Sub, with_laid}
use Rattle.text_lines.specs.Tagged.{Item, tagged}
use Rattle.text_block_renderer.specs.Parts.{Parts}
use Rattle.text_block_renderer.specs.PlainText.{plain_closes, plain_marking}
use Rattle.text_borders.specs.Across.{CellLine}
use Rattle.text_borders.specs.Lines.{line_shown}
use Rattle.text_decorators.specs.Texts.{footnote_lines, footnote_text, footnote_texts}
use Rattle.text_decorators.proofs.FootnoteLemmas.{footnotes_seen}

abbrev Page : Type 0
Page = Sub (Unit {0}) (Unit {0})

abbrev Pages : Type 0
Pages = Parts (Unit {0}) (Unit {0})

abbrev Lines : Type 0
Lines = List (List (Item Tag))

-- ---- of any page: its targets, and then its lines

abbrev note_items : List (List ℕ) → List (List (Item (Unit {0})))
note_items targets = footnote_lines tt targets

abbrev closed : Pages → Option Page
closed p = with_targets plain_marking (λ _. tt) plain_closes (noted p) p.current

abbrev shown : Option Page → Option Lines
shown s = option_and_then renderer_lines s

abbrev total : Option Pages → Option Lines
total p = shown (option_and_then closed p)

-- ---- of an article's

module _ (c : Setting (Unit {0})) (decorates : Bool) (width : ℕ) where
  abbrev o : Options
  o = options_by c decorates

  abbrev sub : Laid Tag → Page
  sub b = renderer_at c.options c.held (page_of width) outermost b

  folded : (b l : Laid Tag) (n : ℕ) (targets : List (List ℕ)) →
      fold (add_footnote (sub b)) l (map (λ text. tagged text tt) (footnote_texts n targets))
      ≡ add_notes o width n targets l
  folded b l n [] = refl
  folded b l n (target ∷ targets) =
      folded b (add_footnote (sub b) l (tagged (footnote_text n target) tt)) (suc n) targets

  noted_by : (target : List ℕ) (targets : List (List ℕ)) (b : Laid Tag) (x : Option (Laid Tag)) →
      option_map (with_laid (sub b)) (option_map (λ l. fold (add_footnote (sub b)) l (note_items (target ∷ targets))) x)
      ≡ option_map sub (option_map (add_notes o width 1 (target ∷ targets)) x)
  noted_by target targets b None = refl
  noted_by target targets b (Some l) =
      ap (λ l. let s : Option Page = Some (sub l) in s) (folded b l 1 (target ∷ targets))

  started_by : (target : List ℕ) (targets : List (List ℕ)) (x : Option (Laid Tag)) →
      option_and_then (add_footnotes (note_items (target ∷ targets))) (option_map sub x)
      ≡ option_map sub (option_map (add_notes o width 1 (target ∷ targets))
      (option_and_then (flush (measure o width) outermost) x))
  started_by target targets None = refl
  started_by target targets (Some b) = noted_by target targets b (flush (measure o width) outermost b)

  noted_is : (targets : List (List ℕ)) (b : Laid Tag) →
      with_notes (note_items targets) (sub b) ≡ option_map sub (run_notes o width targets b)
  noted_is [] b = refl
  noted_is (target ∷ targets) b = started_by target targets (start_block (measure o width) outermost b)

  total_is : (targets : List (List ℕ)) (x : Option (Laid Tag)) →
      total (option_map (parts_at c.options c.held (page_of width) targets outermost) x)
      ≡ shown (option_map sub (option_and_then (run_notes o width (noted_targets o targets)) x))
  total_is targets None = refl
  total_is targets (Some b) = ap shown
      (ap (λ ns. with_notes ns (sub b)) (sym (footnotes_seen (λ _. tt) tt (noted_targets o targets)))
      ∙ noted_is (noted_targets o targets) b)

  abbrev seen : List (CellLine Tag) → Lines
  seen cells = map line_shown (map (λ l. finished (measure o width) l.line) cells)

  shown_by : (x : Option (Laid Tag)) →
      option_map (map line_shown) (option_map (λ b. map (λ l. finished (measure o width) l.line) b.lines) x)
      ≡ option_map seen (option_map (λ (b : Laid Tag). b.lines) x)
  shown_by None = refl
  shown_by (Some b) = refl

  shown_is : (z : Option (Laid Tag)) → shown (option_map sub z)
      ≡ option_map seen (option_map (λ (b : Laid Tag). b.lines) (option_and_then (flush (measure o width) outermost) z))
  shown_is None = refl
  shown_is (Some b) = shown_by (flush (measure o width) outermost b)

  seen_lines : (lines : List Line) → seen (map cell_of lines) ≡ map (λ l. l.items) lines
  seen_lines [] = refl
  seen_lines (l ∷ lines) = ap (λ ls. l.items ∷ ls) (seen_lines lines)

  items_are : (x : Option (List Line)) → option_map seen (option_map (map cell_of) x)
      ≡ option_map (map (λ l. l.items)) x
  items_are None = refl
  items_are (Some lines) = ap (λ ls. let all : Option Lines = Some ls in all) (seen_lines lines)

  module _ (blocks : Blocks) where
    abbrev calls : Option (Laid Tag)
    calls = run_blocks o width [] blocks nothing_laid

    abbrev Walked : Type 0
    Walked = laid_page plain_marking c width (page_values o blocks)
        ≡ option_map (parts_at c.options c.held (page_of width) (targets_of o blocks) outermost) calls

    abbrev Called : Type 0
    Called = option_map (λ (b : Laid Tag). b.lines) (option_and_then (flush (measure o width) outermost)
        (option_and_then (run_notes o width (noted_targets o (targets_of o blocks))) calls))
        ≡ option_map (map cell_of) (layout o (notes o width) width blocks)

    all_shown : Walked → Called → 0 < width →
        total (laid_page plain_marking c width (page_values o blocks)) ≡ shown_lines o width blocks
    all_shown walked called wide =
        ap total walked ∙ total_is (targets_of o blocks) calls
        ∙ shown_is (option_and_then (run_notes o width (noted_targets o (targets_of o blocks))) calls)
        ∙ ap (option_map seen) called ∙ items_are (layout o (notes o width) width blocks)
        ∙ ap (λ b. option_map (map (λ l. l.items)) (if b then layout o (notes o width) width blocks else None))
        (sym (lt-ltb 0 width wide))

    pub laid_as : Walked → Called → 0 < width →
        AreLaidAs c width (shown_lines o width blocks) (page_values o blocks)
    laid_as walked called wide = all_shown walked called wide
