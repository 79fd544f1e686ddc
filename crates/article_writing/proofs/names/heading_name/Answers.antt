use Rattle.std.proofs.Common.{string_bytes, rules}
use Rattle.std.proofs.lemmas.Str.{IsUtf8-string_bytes}
use Rattle.article_writing.proofs.Naming.{heading_is}
use Rattle.article_writing.proofs.names.heading_name.Goals as goal

pub returns : goal.returns
returns c = heading_is (string_bytes c.in_ok-name.name) (string_bytes c.push.new.self) c.in-Some.digit c.args.level
    (IsUtf8-string_bytes c.in_ok-name.name) c.in_ok-name.ensures.ok (search rules) (search rules) (search rules)
