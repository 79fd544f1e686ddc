use Rattle.std.proofs.Common.{sym, ap, ◌∙◌, arith}
use Rattle.std.specs.Prelude.{Err}
use Rattle.std.proofs.lemmas.Bool.Decides.{nat_tests}
use Rattle.std.proofs.lemmas.List.{nil_from_length}
use Rattle.std.proofs.lemmas.Result.{err_from_is_err_and}
use Rattle.text_normal.proofs.PieceLemmas.{err_same}
use Rattle.text_normal.proofs.NormalWords.{fronts_read, front_wider, front_all}
use Rattle.text_normal.proofs.normal.NormalText.add_normal.Goals as goal

pub loop-rest-preserved : goal.loop-rest-preserved
loop-rest-preserved g c =
    record {
      text = c.in_ok-rest.ensures.text;
      reads = fronts_read g.T.EqualCopy.seen c.args.self.now c.loop-rest.self c.add_front.new.self c.args.text.now
          c.loop-rest.rest.now c.in_ok-rest.rest.now (g.T.EqualCopy.seen c.args.tag.now) c.loop-rest.invariant.reads
          c.in_ok-rest.ensures.read;
    }

pub returns-in_err-rest-clause-narrow : goal.returns-in_err-rest-clause-narrow
returns-in_err-rest-clause-narrow g c = λ e.
    let p = err_from_is_err_and c.from_residual.result c.from_residual.ensures.1 in
    front_wider g.T.EqualCopy.seen c.args.self.now c.loop-rest.self c.args.text.now c.loop-rest.rest.now
    (g.T.EqualCopy.seen c.args.tag.now) c.loop-rest.invariant.reads
    (c.add_front.ensures.narrow (c.in_err-rest.was ∙ ap Err (sym p.2 ∙ err_same _ _ c.from_residual.result p.1 e)))

pub returns-clause-read : goal.returns-clause-read
returns-clause-read g c =
    front_all g.T.EqualCopy.seen c.args.self.now c.loop-rest.self c.args.text.now c.loop-rest.rest.now
    (g.T.EqualCopy.seen c.args.tag.now) c.loop-rest.invariant.reads
    (nil_from_length c.loop-rest.rest.now (grind (arith, nat_tests)))
