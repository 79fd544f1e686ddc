use Rattle.std.proofs.Common.{ap, ◌∙◌, take}
use Rattle.html_lexemes.proofs.ByteRuns.{run_before_at}
use Rattle.html_lexemes.proofs.RunLemmas.{run_found}
use Rattle.html_lexemes.proofs.runs.run_outside.Goals as goal
use Rattle.html_lexemes.proofs.runs.run_outside.Goals.{then-mark_all, else-mark_all}

pub returns : goal.returns
returns c = elim c.if-mark_all.branch [
  | then-mark_all w ↦
      run_before_at _ _ _ _ c.mark_all.new.marks w.length_before-length.result _ c.utf8.text
      (c.mark_all.ensures w.if-mark_all.true) w.as_bytes.ensures.value w.length-is
      w.length_before-length.ensures.within w.length_before-length.ensures.free w.length_before-length.ensures.stop
      c.split_at.ensures.front
  | else-mark_all w ↦
      run_found c.args.set.now c.args.text.now _ w.find.result c.utf8.text w.find.ensures.cases
      (c.split_at.ensures.front ∙ ap (λ n. take n c.args.text.now) (w.length-is ∙ w.unwrap_or-length.ensures))
]
