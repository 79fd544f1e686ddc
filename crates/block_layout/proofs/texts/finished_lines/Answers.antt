use Rattle.std.proofs.Common.{sym, subst, arith}
use Rattle.std.proofs.lemmas.Grind.{common_steps}
use Rattle.std.specs.Prelude.{All}
use Rattle.std.specs.Vec.Iter.{into_iter_items}
use Rattle.std.proofs.lemmas.List.Elements.{All-push}
use Rattle.text_borders.specs.Lines.{IsJoinedText}
use Rattle.block_layout.proofs.JoinedLemmas.{next_joined}
use Rattle.block_layout.proofs.texts.finished_lines.Goals as goal

pub loop-laid-preserved : goal.loop-laid-preserved
loop-laid-preserved g c =
    let seen = g.T.EqualCopy.seen in
    record {
      lines = grind (arith, common_steps);
      joined = λ all. next_joined (λ l. IsJoinedText seen l.line) c.in-Some.laid (into_iter_items c.next.new.self)
          (into_iter_items c.loop-laid.laid-iterator) c.in-Some.ensures.steps.0
          (λ done one. subst (All (IsJoinedText seen)) (sym c.in_ok-push.ensures.items) (All-push (IsJoinedText seen)
          c.loop-laid.done.items c.in_ok-finished.field-0 done (c.in_ok-finished.ensures.joined one)))
          (c.loop-laid.invariant.joined all);
    }
