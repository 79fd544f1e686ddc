use Rattle.std.proofs.Common.{chars, sym, ◌∙◌}
use Rattle.lex_base.proofs.NameLemmas.{found_at}
use Rattle.html_lexemes.proofs.names.LocalName.from_str.Goals as goal

pub returns-in-Some : goal.returns-in-Some
returns-in-Some c = c.from_known.ensures
    ∙ sym (found_at (chars c.args.name.now) c.in-Some.known (sym c.known_of.ensures ∙ c.in-Some.is))
