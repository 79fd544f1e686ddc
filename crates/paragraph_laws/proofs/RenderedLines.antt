-- A page of paragraphs is rendered as their lines, and a width is too narrow for it where it is for one.
use Rattle.std.proofs.Common.{◌≡◌, ◌≢◌, [], if◌then◌else◌, ◌∙◌, Bool, List, None, Option, Some, ap, false, refl, sym}
use Rattle.std.proofs.Common.{true, ℕ}
use Rattle.std.specs.Option.{option_and_then, option_map}
use Rattle.block_layout.specs.Laid.{Laid}
use Rattle.text_footnotes.specs.Printable.{shown_targets}
use Rattle.text_footnotes.specs.Targets.{noted_targets}
use Rattle.html_render_tree.specs.PageLines.{Setting, laid_page, noted, page_lines, renderer_lines, with_targets}
use Rattle.render_values.specs.Values.{Values, none}
use Rattle.paragraph_laws.specs.ParagraphLines.{Plain, PlainItems}
use Rattle.html_render_tree.specs.PlainText.{plain_closes, plain_marking}
use Rattle.paragraph_laws.specs.ParagraphPages.{AreLaid, IsPlain}
use Rattle.paragraph_laws.specs.ParagraphValues.{paragraph_values}
use Rattle.paragraph_laws.proofs.OwnLines.{KnowsNormalText, are_lines, lines_are, some_wider, wider_none}
use Rattle.paragraph_laws.proofs.StatesLaid.{all_laid, all_shown, all_shown_are}
use Rattle.paragraph_laws.proofs.ValuesLaid.{Page, Pages, begun_laid, page_is, parts_at, sub_at}

-- ---- notes

abbrev seen : Unit {0} → Unit {0}
seen _ = tt

-- the targets of a page without links
targets_none : (links shared prints : Bool) →
    ◌≡◌ {A = List (List ℕ)} (if links then shown_targets prints (noted_targets shared []) else []) []
targets_none true true true = refl
targets_none true true false = refl
targets_none true false true = refl
targets_none true false false = refl
targets_none false shared prints = refl

module _ (links shared prints fits : Bool) (held : Unit {0}) (width : ℕ) where
  abbrev sub : Laid Plain → Page
  sub b = sub_at links shared prints fits held width b

  abbrev parts : Laid Plain → Pages
  parts b = parts_at links shared prints fits held width b

  closed_is : (b : Laid Plain) → with_targets plain_marking seen plain_closes (noted (parts b)) (sub b) ≡ Some (sub b)
  closed_is b = ap (λ targets. with_targets plain_marking seen plain_closes targets (sub b))
      (targets_none links shared prints)

  -- ---- what a page is rendered as

  abbrev rendered : Option Pages → Option (List PlainItems)
  rendered page = option_and_then renderer_lines
      (option_and_then (λ p. with_targets plain_marking seen plain_closes (noted p) p.current) page)

  rendered_is : (found : Option (Laid Plain)) → rendered (option_map parts found) ≡ all_shown width found
  rendered_is None = refl
  rendered_is (Some b) = ap (option_and_then renderer_lines) (closed_is b)

  pub page_shown : (c : Setting (Unit {0})) (values : Values) (found : Option (Laid Plain)) →
      laid_page plain_marking c width values ≡ option_map parts found →
      page_lines plain_marking seen plain_closes c width values ≡ all_shown width found
  page_shown c values found laid = ap rendered laid ∙ rendered_is found

-- ---- of paragraphs

some_values : (texts : List (List ℕ)) → paragraph_values texts ≢ none
some_values texts e = cc

pub are_laid : (k : KnowsNormalText) (c : Setting (Unit {0})) (width : ℕ) (texts : List (List ℕ)) → IsPlain c →
    AreLaid c width texts (paragraph_values texts)
are_laid k c width texts is_plain =
    let links = c.options.include_link_footnotes in
    let shared = c.options.shared_footnotes in
    let prints = c.options.printable_targets in
    let fits = c.options.fit_columns in
    let values = paragraph_values texts in
    let same = all_shown_are k width texts in
    let shown = page_shown links shared prints fits c.held width c values (all_laid width texts begun_laid)
    (page_is c width texts is_plain) in
    record {
      some = some_values texts;
      lines = λ lines. (
        λ r. are_lines k width texts [] lines (sym same ∙ (sym shown ∙ r)),
        λ a. shown ∙ (same ∙ lines_are k width texts [] lines a),
      );
      narrow = (
        λ n. some_wider k width texts [] (sym same ∙ (sym shown ∙ n)),
        λ some. shown ∙ (same ∙ wider_none k width texts [] some),
      );
    }
