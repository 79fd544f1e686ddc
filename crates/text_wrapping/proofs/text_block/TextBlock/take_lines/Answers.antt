use Rattle.std.proofs.Common.{sym, ap, ◌∙◌, refl, chars}
use Rattle.std.specs.Prelude.{Err}
use Rattle.std.proofs.lemmas.Result.{err_from_is_err_and, on_ok_weaker}
use Rattle.text_pieces.specs.Modes.{is_preserved}
use Rattle.text_pieces.specs.Sources.{sourced}
use Rattle.text_wrapping.specs.Blocks.{after_sources, text_of}
use Rattle.text_wrapping.proofs.BlockLemmas.{lines_step, lines_refused, line_ended_mode, rest_taken}
use Rattle.text_wrapping.proofs.text_block.TextBlock.take_lines.Goals as goal

pub loop-line-preserved : goal.loop-line-preserved
loop-line-preserved g c =
    let seen = g.T.EqualCopy.seen in
    let main = seen c.args.main_tag.now in
    let further = seen c.args.wrap_tag.now in
    let whole = after_sources (sourced (chars c.in-Some.line.now) main further) (text_of seen c.loop-line.self) in
    record {
      text = c.in-Some.ensures.texts.1;
      mode = λ preserved. ap is_preserved (line_ended_mode whole (text_of seen c.take_line.new.self)
          c.in_ok-take_line.ensures.ended) ∙ c.loop-line.invariant.mode preserved;
      same = λ preserved. sym (lines_step main further (text_of seen c.loop-line.self) whole
          (text_of seen c.take_line.new.self) (chars c.loop-line.rest.now) (chars c.in-Some.line.now)
          (chars c.in-Some.trailing.now) (c.loop-line.invariant.mode preserved) c.in-Some.ensures.parts refl
          c.in_ok-take_line.ensures.ended) ∙ c.loop-line.invariant.same preserved;
      joined = λ h. c.take_line.ensures.joined (c.loop-line.invariant.joined h);
    }

pub returns-in_err-take_line-clause-narrow : goal.returns-in_err-take_line-clause-narrow
returns-in_err-take_line-clause-narrow g c = λ preserved e.
    let seen = g.T.EqualCopy.seen in
    let main = seen c.args.main_tag.now in
    let further = seen c.args.wrap_tag.now in
    let whole = after_sources (sourced (chars c.in-Some.line.now) main further) (text_of seen c.loop-line.self) in
    let p = err_from_is_err_and c.from_residual.result c.from_residual.ensures.1 in
    sym (c.loop-line.invariant.same preserved) ∙ lines_refused main further (text_of seen c.loop-line.self) whole
    (chars c.loop-line.rest.now) (chars c.in-Some.line.now) (chars c.in-Some.trailing.now)
    (c.loop-line.invariant.mode preserved) c.in-Some.ensures.parts refl
    (c.take_line.ensures.narrow (c.in_err-take_line.was ∙ ap Err (sym p.2) ∙ sym p.1 ∙ e))

pub returns-in_err-take_line-clause-joined : goal.returns-in_err-take_line-clause-joined
returns-in_err-take_line-clause-joined g c = λ h. c.take_line.ensures.joined (c.loop-line.invariant.joined h)

pub returns-clause-taken : goal.returns-clause-taken
returns-clause-taken g c = λ preserved.
    let seen = g.T.EqualCopy.seen in
    on_ok_weaker c.take_run.result (λ run. rest_taken (seen c.args.main_tag.now) (seen c.args.wrap_tag.now)
    (text_of seen c.loop-line.self) (text_of seen c.take_run.new.self) (text_of seen c.args.self.now)
    (chars c.args.text.now) (chars c.loop-line.rest.now) (c.in_default.ensures.none refl)
    (c.loop-line.invariant.same preserved) run) c.take_run.ensures.run
