use Rattle.std.proofs.Common.{ap, ◌++◌, ◌∙◌, encode_utf8, chars}
use Rattle.test_fields.proofs.AddedLemmas.{chars-encode}
use Rattle.test_fields.proofs.pieces.piece_of.Goals as goal

pub returns : goal.returns
returns c =
    ap chars c.in_ok-push.ensures.bytes ∙ ap (λ bs. chars (bs ++ encode_utf8 c.args.c)) c.new-piece.ensures.bytes
    ∙ chars-encode c.args.c c.ranges.c.0
