use Rattle.std.specs.Prelude.{map}
use Rattle.std.proofs.Common.{◌++◌, ap, ◌∙◌, refl}
use Rattle.std.specs.Vec.Iter.{into_iter_items}
use Rattle.text_cells.specs.Texts.{in_row}
use Rattle.text_cells.specs.Cells.{texts_of, parts_lines}
use Rattle.text_cells.proofs.BlockLemmas.{part_in_row}
use Rattle.text_cells.proofs.block_lines.BlockLines.into_row.Goals as goal

pub loop-part-preserved : goal.loop-part-preserved
loop-part-preserved g c =
    let seen = g.T.EqualCopy.seen in
    let row = in_row c.args.width (seen c.args.tag.now) in
    let p = c.in-Some.part in
    part_in_row seen row (texts_of seen c.loop-part.all) (texts_of seen c.push_lines.new.all)
    (texts_of seen c.in_ok-all.all) (map row (parts_lines seen c.args.self.parts.items)) p p.before.items p.texts
    (into_iter_items c.loop-part.part-iterator) (into_iter_items c.next.new.self) c.in-Some.ensures.steps.0 refl refl
    c.in_ok-push_lines.ensures
    (c.in_ok-all.ensures ∙ ap (λ ls. texts_of seen c.push_lines.new.all ++ ls) c.in_ok-row_texts.ensures)
    c.loop-part.invariant
