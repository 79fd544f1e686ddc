use Rattle.text_lines.proofs.Alike.{strings_alike}
use Rattle.text_lines.proofs.laws.equal_strings_are_seen_alike.Goals as goal

pub returns : goal.returns
returns g c = strings_alike g.T.PartialEq.eq g.T.EqualCopy.seen g.met.T.EqualCopy.same g.met.T.EqualCopy.apart
