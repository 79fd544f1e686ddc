use Rattle.std.proofs.Common.{◌≡◌, subst}
use Rattle.page_config.specs.Errors.{error_text}
use Rattle.html2text.specs.Responses.{Emits, complaint}
use Rattle.page_config.specs.declared.error.Error.TheVariants.{IoError}
use Rattle.html2text.proofs.response.show_help.Goals as goal

pub returns-in-Err-clause-reported : goal.returns-in-Err-clause-reported
returns-in-Err-clause-reported g c =
    λ error e. let same : IoError ≡ error = cc in
    let emits =
    λ (text : _). Emits (g.E.ByteWriter.has_failed c.complain.new.errors)
    (g.E.ByteWriter.contents c.args.errors.now) (g.E.ByteWriter.contents c.complain.new.errors)
    (complaint text) in
    subst (λ x. emits (error_text x)) same (subst emits c.text.ensures c.complain.ensures)
