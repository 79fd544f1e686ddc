use Rattle.std.proofs.Common.{refl, ap, chars, ◌∙◌}
use Rattle.lex_base.proofs.KnownLemmas.{known_chars}
use Rattle.lex_base.proofs.known.KnownName.as_str.Goals as goal

pub text_in-requires : goal.text_in-requires
text_in-requires c = refl

pub returns-clause-characters : goal.returns-clause-characters
returns-clause-characters c = ap chars c.text_in.ensures ∙ known_chars c.args.self
