use Rattle.std.specs.Prelude.{map}
use Rattle.std.proofs.Common.{subst, sym}
use Rattle.std.specs.Vec.Iter.{into_iter_items}
use Rattle.text_cells.specs.Texts.{laid_line_of}
use Rattle.text_cells.specs.Cells.{parts_lines, AreLinesJoined}
use Rattle.text_cells.proofs.BlockLemmas.{part_more, joined_append, parts_joined}
use Rattle.text_cells.proofs.block_lines.BlockLines.into_vec.Goals as goal

pub loop-part-preserved : goal.loop-part-preserved
loop-part-preserved g c =
    let seen = g.T.EqualCopy.seen in
    record {
      lines = part_more seen (map (laid_line_of seen) c.loop-part.all.items)
          (map (laid_line_of seen) c.push_part.new.all.items) (parts_lines seen c.args.self.parts.items) c.in-Some.part
          (into_iter_items c.loop-part.part-iterator) (into_iter_items c.next.new.self) c.in-Some.ensures.steps.0
          c.in_ok-push_part.ensures.lines c.loop-part.invariant.lines;
      joined = λ all. parts_joined seen c.in-Some.part (into_iter_items c.loop-part.part-iterator)
          (into_iter_items c.next.new.self) c.loop-part.all.items c.push_part.new.all.items
          c.in-Some.ensures.steps.0 c.push_part.ensures.joined (c.loop-part.invariant.joined all);
    }

pub returns-clause-joined : goal.returns-clause-joined
returns-clause-joined g c = λ all.
    let seen = g.T.EqualCopy.seen in
    joined_append seen c.loop-part.all.items c.in_ok-last.last.items c.append.new.self.items
    c.in_ok-append.ensures.items (c.loop-part.invariant.joined all.0).0
    (subst (AreLinesJoined seen) (sym c.in_ok-last.ensures) all.1)
