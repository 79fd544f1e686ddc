use Rattle.text_lines.specs.Tagged.{line_items}
use Rattle.text_footnotes.specs.Cuts.{cut_of}
use Rattle.text_footnotes.proofs.RunLemmas.{after_front, front_columns}
use Rattle.text_footnotes.proofs.cutting.CutLines.push_run.Goals as goal

pub push_counted-requires : goal.push_counted-requires
push_counted-requires g c =
    front_columns c.args.text.now c.split_at.result.0.now c.run_length-count.result
    c.run_length-count.ensures.boundary c.run_length-count.ensures.printable c.split_at.ensures.front

pub returns-clause-placed : goal.returns-clause-placed
returns-clause-placed g c =
    let seen = g.T.EqualCopy.seen in
    after_front c.args.width c.args.text.now c.split_at.result.0.now c.split_at.result.1.now
    c.run_length-count.result c.room.result (seen c.args.tag.now) (cut_of seen c.args.self.now)
    (line_items seen c.push_counted.new.self) c.utf8.text c.run_length-count.ensures.boundary
    c.run_length-count.ensures.printable c.run_length-count.ensures.within c.room.ensures c.split_at.ensures.front
    c.split_at.ensures.back c.in_ok-push_counted.ensures.ok
