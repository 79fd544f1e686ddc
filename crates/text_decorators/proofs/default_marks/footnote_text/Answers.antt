use Rattle.std.proofs.Common.{arith, string_bytes}
use Rattle.text_decorators.proofs.Characters.{numbered_after}
use Rattle.text_decorators.proofs.default_marks.footnote_text.Goals as goal

pub returns : goal.returns
returns c =
    numbered_after c.args.number (string_bytes c.in_ok-text.text) (string_bytes c.write.new.self) c.args.url.now
    (omega arith) c.in_ok-text.ensures.bytes c.in_ok-write.ensures.bytes
