use Rattle.std.proofs.Common.{sym}
use Rattle.std.proofs.lemmas.Str.{encodes-chars}
use Rattle.lex_base.proofs.text.TextHash.hash.Goals as goal

pub returns : goal.returns
returns g c = rw (sym c.as_str.ensures, encodes-chars _ c.as_str.utf8) c.hash.ensures
