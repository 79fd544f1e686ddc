use Rattle.std.proofs.Common.{sym}
use Rattle.std.proofs.lemmas.Str.{encodes-chars}
use Rattle.html_lexemes.proofs.names.LocalNameHash.hash.Goals as goal

pub returns : goal.returns
returns g c = rw (sym c.as_str.ensures, encodes-chars c.as_str.result.now c.as_str.utf8) c.hash.ensures
