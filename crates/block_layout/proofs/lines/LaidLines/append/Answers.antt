use Rattle.std.proofs.Common.{ap, ◌∙◌, sym}
use Rattle.text_cells.specs.Cells.{content_count}
use Rattle.block_layout.proofs.CountLemmas.{counted_more}
use Rattle.block_layout.proofs.lines.LaidLines.append.Goals as goal

pub invariant_of-self-2 : goal.invariant_of-self-2
invariant_of-self-2 g c = record {
  counted = counted_more _ _ _ _ _ _ c.args.self.now.counted
      (c.in_ok-count.ensures ∙ ap (λ ls. content_count ls) c.deref.ensures.value) c.in_ok-filled.ensures
      c.in_ok-push_all.ensures.count;
}

pub invariant_of-self : goal.invariant_of-self
invariant_of-self g c = record { counted = c.args.self.now.counted ∙ sym c.in_err-push_all.ensures.kept }
