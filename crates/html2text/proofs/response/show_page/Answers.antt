use Rattle.std.proofs.Common.{◌≡◌, ◌∙◌, ap, option_map, refl, string_bytes, subst}
use Rattle.command_line.specs.Requests.{asked_of}
use Rattle.html2text.proofs.AnswerLemmas.{refused_here, refused_there, shown_here, shown_there}
use Rattle.html2text.proofs.response.show_page.Goals as goal
use Rattle.html2text.specs.Responses.{Complains}

pub returns-in-Ok : goal.returns-in-Ok
returns-in-Ok g c =
    let read = g.R.ByteReader in
    let wrote = g.W.ByteWriter in
    let input = c.write_page.new.input in
    let output = c.write_page.new.output in
    shown_here (asked_of c.args.request.now) (g.F.FileOpener.bytes_of c.args.files.now) c.args.table c.requires
    (read.remaining c.args.input.now) (wrote.contents c.args.output.now) (wrote.contents output)
    (input ≡ c.args.input.now) (output ≡ c.args.output.now) (c.args.errors.now ≡ c.args.errors.now) (λ _. Unit {0})
    (read.has_failed input) (wrote.has_failed output) (wrote.was_flushed output) (read.count c.args.input.now)
    (read.count input) (ap (λ file. option_map string_bytes file) c.in-None.is) c.in-Ok.ensures refl

pub returns-in-None : goal.returns-in-None
returns-in-None g c =
    let read = g.R.ByteReader in
    let wrote = g.W.ByteWriter in
    let input = c.write_page.new.input in
    let output = c.write_page.new.output in
    let errors = c.refuse.new.errors in
    refused_here (asked_of c.args.request.now) (g.F.FileOpener.bytes_of c.args.files.now) c.args.table c.requires
    (read.remaining c.args.input.now) (wrote.contents c.args.output.now) (wrote.contents output)
    (input ≡ c.args.input.now) (output ≡ c.args.output.now) (errors ≡ c.args.errors.now)
    (Complains (g.E.ByteWriter.has_failed errors) (g.E.ByteWriter.contents c.args.errors.now)
    (g.E.ByteWriter.contents errors)) (read.has_failed input) (wrote.has_failed output) (wrote.was_flushed output)
    (read.count c.args.input.now) (read.count input) c.in-Err.error c.refuse.result c.refuse.ensures.outcome
    (ap (λ file. option_map string_bytes file) c.in-None.is) c.in-Err.ensures c.refuse.ensures.reported

pub returns-in-Ok-write_page : goal.returns-in-Ok-write_page
returns-in-Ok-write_page g c =
    let read = g.R.ByteReader in
    let wrote = g.W.ByteWriter in
    let input = c.args.input.now in
    let output = c.write_page-in-Ok-open.new.output in
    let files = g.F.FileOpener.bytes_of c.args.files.now in
    let file = g.F.File.ByteReader in
    shown_there (asked_of c.args.request.now) files c.args.table c.requires (read.remaining input)
    (wrote.contents c.args.output.now) (wrote.contents output) (input ≡ input) (output ≡ c.args.output.now)
    (c.args.errors.now ≡ c.args.errors.now) (λ _. Unit {0}) (read.has_failed input) (wrote.has_failed output)
    (wrote.was_flushed output) (read.count input) (read.count input) (string_bytes c.in-Some.name)
    (file.remaining c.in-Ok-open.file) (file.has_failed c.write_page-in-Ok-open.new.input)
    (file.count c.in-Ok-open.file) (file.count c.write_page-in-Ok-open.new.input)
    (ap (λ file. option_map string_bytes file) c.in-Some.is) (c.in-Ok-open.ensures ∙ ap files c.as_str.ensures.value)
    c.in-Ok-write_page.ensures refl

pub returns-in-Ok-open : goal.returns-in-Ok-open
returns-in-Ok-open g c =
    let read = g.R.ByteReader in
    let wrote = g.W.ByteWriter in
    let input = c.args.input.now in
    let output = c.write_page-in-Ok-open.new.output in
    let errors = c.refuse-in-Err-write_page.new.errors in
    let files = g.F.FileOpener.bytes_of c.args.files.now in
    let file = g.F.File.ByteReader in
    refused_there (asked_of c.args.request.now) files c.args.table c.requires (read.remaining input)
    (wrote.contents c.args.output.now) (wrote.contents output) (input ≡ input) (output ≡ c.args.output.now)
    (errors ≡ c.args.errors.now)
    (Complains (g.E.ByteWriter.has_failed errors) (g.E.ByteWriter.contents c.args.errors.now)
    (g.E.ByteWriter.contents errors)) (read.has_failed input) (wrote.has_failed output)
    (wrote.was_flushed output) (read.count input) (read.count input) (string_bytes c.in-Some.name)
    (file.remaining c.in-Ok-open.file) (file.has_failed c.write_page-in-Ok-open.new.input)
    (file.count c.in-Ok-open.file) (file.count c.write_page-in-Ok-open.new.input) c.in-Err-write_page.error
    c.refuse-in-Err-write_page.result c.refuse-in-Err-write_page.ensures.outcome
    (ap (λ file. option_map string_bytes file) c.in-Some.is) (c.in-Ok-open.ensures ∙ ap files c.as_str.ensures.value)
    c.in-Err-write_page.ensures c.refuse-in-Err-write_page.ensures.reported

pub returns : goal.returns
returns g c =
    let errors = c.complain.new.errors in
    let reported = λ (text : _). Complains (g.E.ByteWriter.has_failed errors)
    (g.E.ByteWriter.contents c.args.errors.now)
    (g.E.ByteWriter.contents errors) text in (
      subst reported c.text.ensures c.complain.ensures,
      refl,
      (string_bytes c.in-Some.name, ap (λ file. option_map string_bytes file) c.in-Some.is),
    )
