use Rattle.std.proofs.Common.{length, ap, arith}
use Rattle.std.proofs.lemmas.List.{length-map}
use Rattle.text_normal.specs.Layout.{marks, marks_items}
use Rattle.text_normal_laws.proofs.LayoutFewest.{fewest_lines as law}
use Rattle.text_normal_laws.proofs.layout_laws.fewest_lines.Goals as goal

pub returns : goal.returns
returns g c = λ w o read lines layout are legal.
    let shown = ap length are.shown in
    let same = length-map are.layout marks_items in
    let fewest = law w o (marks w read) are.layout layout are.fullest legal in omega (arith, shown, same, fewest)
