use Rattle.std.proofs.Common.{◌≡◌, Err, ap, option_map, refl, string_bytes, subst}
use Rattle.std.specs.Prelude.{IfSome}
use Rattle.command_line.specs.Requests.{asked_of}
use Rattle.html2text.proofs.AnswerLemmas.{no_basic, table_refused}
use Rattle.html2text.proofs.response.answer.Goals as goal
use Rattle.html2text.specs.Responses.{Complains}
use Rattle.command_line.specs.TableFiles.{IsNoTable}

pub returns-in-Err : goal.returns-in-Err
returns-in-Err g c =
    let read = g.R.ByteReader in
    let wrote = g.W.ByteWriter in
    let input = c.args.input.now in
    let output = c.args.output.now in
    let errors = c.refuse.new.errors in
    no_basic (asked_of c.args.request.now) (g.F.FileOpener.bytes_of c.args.files.now) (read.remaining input)
    (read.has_failed input) (wrote.has_failed output) (wrote.was_flushed output) (read.count input) (read.count input)
    (wrote.contents output) (wrote.contents output) (input ≡ input) (output ≡ output) (errors ≡ c.args.errors.now)
    (Complains (g.E.ByteWriter.has_failed errors) (g.E.ByteWriter.contents c.args.errors.now)
    (g.E.ByteWriter.contents errors)) c.refuse.result c.refuse.ensures.outcome
    (ap (λ references. option_map string_bytes references) c.in-None.is) c.refuse.ensures.reported refl

pub returns-in-Err-table_in_file : goal.returns-in-Err-table_in_file
returns-in-Err-table_in_file g c =
    let files = g.F.FileOpener.bytes_of c.args.files.now in
    let reported = λ (text : _). Complains (g.E.ByteWriter.has_failed c.complain.new.errors)
    (g.E.ByteWriter.contents c.args.errors.now) (g.E.ByteWriter.contents c.complain.new.errors) text in (
      (
        c.in-Err-table_in_file.fault,
        subst reported c.text.ensures c.complain.ensures,
        table_refused files (asked_of c.args.request.now).references (string_bytes c.in-Some.name)
            c.in-Err-table_in_file.fault (ap (λ references. option_map string_bytes references) c.in-Some.is)
            (λ e. subst (λ name. IfSome (files name) IsNoTable) c.as_str.ensures.value
            (c.in-Err-table_in_file.ensures.refused (ap Err e))),
      ),
      refl,
      refl,
    )
