use Rattle.std.proofs.Common.{sym, ap, ◌∙◌, chars}
use Rattle.std.proofs.lemmas.Result.{on_ok_weaker}
use Rattle.text_pieces.specs.Sources.{sourced}
use Rattle.text_preserved.specs.Preserved.{trimmed}
use Rattle.text_preserved.specs.SourceLines.{pass_of}
use Rattle.text_preserved.proofs.TrimLemmas.{sourced_trimmed}
use Rattle.text_preserved.proofs.ReadingLemmas.{same_read}
use Rattle.text_preserved.proofs.source_line.SourceLine.read_trimmed_text.Goals as goal

pub returns-clause-pass : goal.returns-clause-pass
returns-clause-pass g c =
    let seen = g.T.EqualCopy.seen in
    let width = c.args.self.now.width in
    let wraps = c.args.self.now.wraps in
    let main = seen c.args.main_tag.now in
    let further = seen c.args.wrap_tag.now in
    let same = ap (λ cs. sourced cs main further) c.solid_front.ensures.front
    ∙ sym (sourced_trimmed width wraps (chars c.args.text.now) main further) in
    on_ok_weaker c.read_text.result (λ h. same_read (pass_of seen c.args.self.now) (pass_of seen c.read_text.new.self)
    (sourced (chars c.solid_front.result.now) main further)
    (trimmed width wraps (sourced (chars c.args.text.now) main further)) same h) c.read_text.ensures.pass
