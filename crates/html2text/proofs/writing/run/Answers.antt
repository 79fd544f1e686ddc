use Rattle.std.proofs.Common.{Err, ap, ◌∙◌, inr}
use Rattle.std.proofs.lemmas.Result.{err_from_is_err_and}
use Rattle.html2text.proofs.WritingLemmas.{on_err}
use Rattle.html2text.proofs.WrittenLemmas.{written_page, written_part, written_within}
use Rattle.html2text.proofs.writing.run.Goals as goal
use Rattle.page_config.specs.Settings.{page_setting}

pub returns-in_err-write_lines-clause-unwritten : goal.returns-in_err-write_lines-clause-unwritten
returns-in_err-write_lines-clause-unwritten g c =
    let r = c.from_residual-in_err-write_lines.result in
    let p = err_from_is_err_and r c.from_residual-in_err-write_lines.ensures.1 in
    on_err r c.from_residual-in_err-write_lines.ensures.0
    (inr (
      p.1 ∙ ap Err p.2,
      c.in_err-write_lines.ensures.failed,
      written_part g.D.Annotation.EqualCopy.seen g.D.TextDecorator.view (page_setting g.D.TextDecorator.view
          c.args.config)
          c.args.width (g.R.ByteReader.remaining c.args.reader.now) _ _ c.in_ok-lines.lines.items
          c.in_ok-lines.ensures.text (rw c.deref.ensures.value at c.in_err-write_lines.ensures.part),
    ))

pub returns-clause-written : goal.returns-clause-written
returns-clause-written g c = written_page g.D.Annotation.EqualCopy.seen g.D.TextDecorator.view
    (page_setting g.D.TextDecorator.view c.args.config) c.args.width
    (g.R.ByteReader.remaining c.args.reader.now) _ _ c.in_ok-lines.lines.items c.in_ok-lines.ensures.text
    (rw c.deref.ensures.value at c.in_ok-write_lines.ensures.ok)

pub returns-clause-within : goal.returns-clause-within
returns-clause-within g c = λ tag tagging steady overflow wrap wide.
    let setting = page_setting g.D.TextDecorator.view c.args.config in
    written_within g.D.Annotation.EqualCopy.seen g.D.TextDecorator.view setting c.args.width
    tag tagging (λ bytes emitted has. c.a_text_keeps_its_width.ensures tag setting c.args.width bytes emitted steady
    overflow
    wrap wide has) (g.R.ByteReader.remaining c.args.reader.now) _ _ c.in_ok-lines.lines.items c.in_ok-lines.ensures.text
    (rw c.deref.ensures.value at c.in_ok-write_lines.ensures.ok)
