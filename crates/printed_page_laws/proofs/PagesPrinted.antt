-- No line of a page holds a control character, lines after its last value among them.
use Rattle.std.proofs.Common.{◌≡◌, [], ◌∷◌, Bool, IfSome, List, Some, false, map, sym, subst, true, ℕ}
use Rattle.std.specs.Prelude.{All, if◌then◌else◌, ⊤}
use Rattle.std.specs.List.{list_any}
use Rattle.std.proofs.lemmas.List.Elements.{All-map, All-nil}
use Rattle.std.proofs.lemmas.Option.{MatchOption-at_some}
use Rattle.block_layout_laws.proofs.OptionLemmas.{chained, known, mapped}
use Rattle.block_renderer.specs.Footnotes.{add_footnotes}
use Rattle.block_trait.specs.Calls.{starts_block}
use Rattle.block_trait.specs.Renderers.{Marking, Sub, lines_of_sub, measure_of, new_sub, with_block_started, with_held}
use Rattle.block_trait.specs.declared.options.RenderOptions.{RenderOptions}
use Rattle.text_lines.specs.Tagged.{Item}
use Rattle.text_footnotes.specs.Printable.{is_unprintable, printable, shown_targets}
use Rattle.text_footnotes.specs.Targets.{noted_targets}
use Rattle.text_block_renderer.specs.Parts.{whole_page}
use Rattle.text_borders.specs.Lines.{BlockLine, line_shown}
use Rattle.text_decorators.specs.Marks.{page_end, seen_lines}
use Rattle.render_values.specs.Values.{Values}
use Rattle.html_render_tree.specs.PageLines.{Setting, closed_page, laid_page, noted, page_lines, renderer_lines}
use Rattle.html_render_tree.specs.PageLines.{targets_after, with_notes, with_targets}
use Rattle.printed_block_laws.specs.Printed.{ArePrinted, IsPrinted}
use Rattle.printed_page_laws.specs.PrintedPages.{PrintsNotes}
use Rattle.printed_page_laws.proofs.NotesPrinted.{adds_notes, printable_printed, seen_lines_printed}
use Rattle.printed_page_laws.proofs.RenderersPrinted.{IsPrintedSub, step_printed}
use Rattle.printed_page_laws.proofs.StepsPrinted.{IsPrintedParts, PrintsSteps}
use Rattle.printed_page_laws.proofs.ValuesPrinted.{parts_printed}

-- of a printable target no character is left that is not to be printed
abbrev pub AreEscaped : Type 0
AreEscaped = (target : List ℕ) → list_any is_unprintable (printable target) ≡ false

targets_printed : (escaped : AreEscaped) (o : RenderOptions) (targets : List (List ℕ)) → o.printable_targets ≡ true
    → All (All IsPrinted) (targets_after o targets)
targets_printed escaped o targets on = by_notes o.include_link_footnotes
  where
    by_notes : (t : Bool) → All (All IsPrinted)
        (if t then shown_targets o.printable_targets (noted_targets o.shared_footnotes targets) else [])
    by_notes true = subst (λ b. All (All IsPrinted) (shown_targets b (noted_targets o.shared_footnotes targets)))
        (sym on) (printable_printed escaped (noted_targets o.shared_footnotes targets))
    by_notes false = All-nil (All IsPrinted)

notes_taken : {H A : Type 0} {m : Marking H A} (laws : PrintsSteps m) (notes : List (List (Item A))) (s : Sub H A)
    → IsPrintedSub s → All ArePrinted notes → IfSome (with_notes notes s) (IsPrintedSub {H = H} {A = A})
notes_taken laws [] s printed all = printed
notes_taken {H} {A} {m} laws (note ∷ notes) s printed all =
    chained (IsPrintedSub {H = H} {A = A}) (IsPrintedSub {H = H} {A = A}) (add_footnotes (note ∷ notes))
    (with_block_started s) (λ t begun. adds_notes laws.blocks (note ∷ notes) t begun all)
    (step_printed laws.blocks m starts_block s printed tt)

page_closed : {T H A : Type 0} (m : Marking H A) (seen : T → A) (closes : H → List (List ℕ) → List (List (Item T)))
    (c : Setting H) (width : ℕ) (values : Values) → PrintsSteps m → AreEscaped → PrintsNotes closes
    → c.options.printable_targets ≡ true
    → IfSome (closed_page m seen closes c width values) (IsPrintedSub {H = H} {A = A})
page_closed {T} {H} {A} m seen closes c width values laws escaped notes on =
    chained (IsPrintedParts {H = H} {A = A}) (IsPrintedSub {H = H} {A = A})
    (λ p. with_targets m seen closes (noted p) p.current) (laid_page m c width values)
    (λ p printed. notes_taken laws (seen_lines seen (closes p.current.held (noted p)))
    (with_held (m.after p.current.held (page_end (noted p))) p.current) printed
    (seen_lines_printed seen (closes p.current.held (noted p)) (notes p.current.held (noted p)
    (targets_printed escaped p.current.options p.targets printed.1))))
    (parts_printed laws _ values (whole_page (new_sub width c.options c.held [])) (laws.blocks.nothing, on))

shown_printed : {H A : Type 0} {m : Marking H A} (laws : PrintsSteps m) (s : Sub H A) → IsPrintedSub s
    → IfSome (renderer_lines s) (All (ArePrinted {S = List A}))
shown_printed {H} {A} laws s printed =
    mapped (All (λ (l : BlockLine (List A)). ArePrinted (line_shown l))) (All (ArePrinted {S = List A}))
    (map line_shown) (lines_of_sub s) (λ blocks all. All-map (ArePrinted {S = List A}) line_shown blocks all)
    (known (All (λ (l : BlockLine (List A)). ArePrinted (line_shown l))) (lines_of_sub s)
    (λ blocks is. laws.blocks.lines_given (measure_of s) s.annotations s.laid blocks printed.0 is))

pub lines_printed : {T H A : Type 0} (m : Marking H A) (seen : T → A)
    (closes : H → List (List ℕ) → List (List (Item T))) (c : Setting H) (width : ℕ) (values : Values)
    (lines : List (List (Item (List A)))) → PrintsSteps m → AreEscaped → PrintsNotes closes
    → c.options.printable_targets ≡ true → page_lines m seen closes c width values ≡ Some lines
    → All ArePrinted lines
lines_printed {T} {H} {A} m seen closes c width values lines laws escaped notes on is =
    MatchOption-at_some ⊤ (All (ArePrinted {S = List A})) lines is
    (chained (IsPrintedSub {H = H} {A = A}) (All (ArePrinted {S = List A})) renderer_lines
    (closed_page m seen closes c width values) (λ s printed. shown_printed laws s printed)
    (page_closed m seen closes c width values laws escaped notes on))
