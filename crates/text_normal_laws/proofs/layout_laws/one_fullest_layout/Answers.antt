use Rattle.std.proofs.Common.{map, ap, sym, ◌∙◌}
use Rattle.text_normal.specs.Layout.{marks, marks_items}
use Rattle.text_normal_laws.proofs.LayoutFewest.{one_fullest as law}
use Rattle.text_normal_laws.proofs.layout_laws.one_fullest_layout.Goals as goal

pub returns : goal.returns
returns g c = λ w o read lines others one other.
    one.shown ∙ ap (map marks_items) (law w o (marks w read) one.layout other.layout one.fullest other.fullest)
    ∙ sym other.shown
