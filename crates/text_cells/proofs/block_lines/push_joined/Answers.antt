use Rattle.std.specs.Prelude.{◌++◌, map}
use Rattle.text_cells.specs.Texts.{laid_line_of, laid_text_of}
use Rattle.text_cells.specs.Cells.{texts_of}
use Rattle.text_cells.proofs.BlockLemmas.{one_taken}
use Rattle.text_cells.proofs.block_lines.push_joined.Goals as goal

pub loop-text-preserved : goal.loop-text-preserved
loop-text-preserved g c =
    let seen = g.T.EqualCopy.seen in
    record {
      lines = one_taken (laid_text_of seen) (map (laid_line_of seen) c.loop-text.all.items)
          (map (laid_line_of seen) c.push_text.new.all.items) c.in-Some.text c.loop-text.queue.items
          c.pop_front.new.self.items (map (laid_line_of seen) c.args.all.now.items ++ texts_of seen c.args.texts)
          c.in-Some.ensures.items c.in_ok-push_text.ensures.lines c.loop-text.invariant.lines;
      joined = λ joined. c.push_text.ensures.joined (c.loop-text.invariant.joined joined);
    }
