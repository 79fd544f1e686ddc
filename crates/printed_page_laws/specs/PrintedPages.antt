-- Pages that hold no control character.
use Rattle.std.specs.Prelude.{◌≡◌, ℕ, All, List, Some, true}
use Rattle.text_lines.specs.Tagged.{Item}
use Rattle.text_decorators.specs.Marks.{IsPrefix, Mark}
use Rattle.block_trait.specs.Renderers.{Marking}
use Rattle.render_values.specs.Values.{Values}
use Rattle.html_render_tree.specs.PageLines.{Setting, page_lines}
use Rattle.printed_block_laws.specs.Printed.{ArePrinted, IsPrinted}

-- the prefixes of blocks hold none
abbrev pub PrintsPrefixes : {H : Type 0} → (text : H → Mark → List ℕ) → Type 0
PrintsPrefixes {H} text = (h : H) (kind : Mark) → IsPrefix kind → All IsPrinted (text h kind)

-- the lines after a page hold none where its targets hold none
abbrev pub PrintsNotes : {H T : Type 0} → (closes : H → List (List ℕ) → List (List (Item T))) → Type 0
PrintsNotes {H} closes = (h : H) (targets : List (List ℕ)) → All (All IsPrinted) targets
    → All ArePrinted (closes h targets)

-- Where a decorator's prefixes and its lines after a page hold no control of C0 or C1, and targets are made printable,
-- no line of a page holds one, whatever its values are.
abbrev pub PagesPrintNoControls : {T H A : Type 0} → Marking H A → (T → A)
    → (H → List (List ℕ) → List (List (Item T))) → Type 0
PagesPrintNoControls {T} {H} {A} m seen closes = (c : Setting H) (width : ℕ) (values : Values)
    (lines : List (List (Item (List A)))) → PrintsPrefixes m.mark_text → PrintsNotes closes
    → c.options.printable_targets ≡ true → page_lines m seen closes c width values ≡ Some lines → All ArePrinted lines
