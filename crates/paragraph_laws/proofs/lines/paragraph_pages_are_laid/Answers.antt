use Rattle.std.proofs.Common.{subst, sym}
use Rattle.paragraph_laws.specs.ParagraphPages.{AreLaid}
use Rattle.paragraph_laws.proofs.lines.paragraph_pages_are_laid.Goals as goal

pub returns : goal.returns
returns c = λ o rules setting width texts quiet is_plain held. subst (AreLaid setting width texts)
    (sym (c.paragraphs_have_their_values.ensures o rules texts quiet))
    (c.paragraphs_are_laid.ensures setting width texts is_plain)
