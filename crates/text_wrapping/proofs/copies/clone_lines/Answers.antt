use Rattle.text_lines.specs.Tagged.{line_items, IsJoined}
use Rattle.text_wrapping.proofs.CopyLemmas.{copied_items, copied_all}
use Rattle.text_wrapping.proofs.copies.clone_lines.Goals as goal

pub loop-line-preserved : goal.loop-line-preserved
loop-line-preserved g c =
    let seen = g.T.EqualCopy.seen in
    record {
      items = copied_items (line_items seen) c.loop-line.all.items c.push.new.self.items c.loop-line.rest.now
          c.in-Some.others.now c.args.lines.now c.in-Some.line.now c.in_ok-try_clone.field-0 c.in-Some.ensures.cases.0
          c.in_ok-push.ensures.items c.in_ok-try_clone.ensures.items c.loop-line.invariant.items;
      joined = λ h. copied_all (IsJoined seen) c.loop-line.all.items c.push.new.self.items c.loop-line.rest.now
          c.in-Some.others.now c.in-Some.line.now c.in_ok-try_clone.field-0 c.in-Some.ensures.cases.0
          c.in_ok-push.ensures.items c.in_ok-try_clone.ensures.joined (c.loop-line.invariant.joined h);
    }
