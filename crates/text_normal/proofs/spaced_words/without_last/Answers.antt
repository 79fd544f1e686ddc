use Rattle.std.proofs.Common.{string_bytes, rules}
use Rattle.std.proofs.lemmas.Str.{IsUtf8-had}
use Rattle.text_normal.proofs.SpacedEnds.{last_taken, none_taken}
use Rattle.text_normal.proofs.spaced_words.without_last.Goals as goal

pub returns-in-Some : goal.returns-in-Some
returns-in-Some c = λ front last whole.
    last_taken (string_bytes c.args.text) (string_bytes c.pop.new.self) front last c.in-Some._last
    (IsUtf8-had (string_bytes c.pop.new.self) c.pop.new.self.ok) (search rules) c.in-Some.ensures.bytes whole

pub returns-in-None : goal.returns-in-None
returns-in-None c = λ front last whole.
    absurd (none_taken (string_bytes c.args.text) front c.args.text.bytes.len last c.args.text.bytes.ok.0
    c.in-None.ensures.none whole)
