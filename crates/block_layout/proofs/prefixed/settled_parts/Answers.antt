use Rattle.std.specs.Prelude.{map}
use Rattle.std.proofs.Common.{◌++◌, ap, sym, ◌∙◌, refl}
use Rattle.std.specs.Vec.Iter.{into_iter_items}
use Rattle.text_cells.specs.Cells.{texts_of, parts_lines}
use Rattle.text_cells.proofs.BlockLemmas.{part_in_row}
use Rattle.block_layout.specs.Whole.{settled}
use Rattle.block_layout.proofs.WholeLemmas.{texts_settled}
use Rattle.block_layout.proofs.prefixed.settled_parts.Goals as goal

pub loop-part-preserved : goal.loop-part-preserved
loop-part-preserved g c =
    let seen = g.T.EqualCopy.seen in
    let change = settled c.args.other (seen c.args.tag.now) in
    let p = c.in-Some.part in
    let mid = texts_of seen c.push_settled.new.all in
    part_in_row seen change (texts_of seen c.loop-part.all) mid (texts_of seen c.in_ok-all.all)
    (map change (parts_lines seen c.args.parts.items)) p p.before.items p.texts
    (into_iter_items c.loop-part.part-iterator) (into_iter_items c.next.new.self) c.in-Some.ensures.steps.0 refl refl
    c.in_ok-push_settled.ensures
    (c.in_ok-all.ensures ∙ ap (λ ls. mid ++ ls) (sym (texts_settled seen c.args.other (seen c.args.tag.now)
    p.texts.lines.items))) c.loop-part.invariant
