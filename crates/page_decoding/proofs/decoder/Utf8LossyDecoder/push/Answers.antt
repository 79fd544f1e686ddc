use Rattle.std.proofs.Common.{sym, ap, ◌∙◌, ◌++◌, take}
use Rattle.std.proofs.lemmas.Str.{chars-nil}
use Rattle.std.specs.Str.{chars}
use Rattle.page_decoding.specs.ReplacedText.{replaced_text}
use Rattle.page_decoding.proofs.decoder.Utf8LossyDecoder.push.Goals as goal

pub returns-in-Ok-clause-text : goal.returns-in-Ok-clause-text
returns-in-Ok-clause-text c =
    rw (← c.self.view_is) (λ rest.
    let piece = c.args.piece.now in
    sym (ap (λ t. t ++ replaced_text (take c.self.inside.held_len c.self.inside.held ++ piece ++ rest))
    (ap chars c.new-text.ensures.bytes ∙ chars-nil)) ∙ c.in-Ok.ensures.text rest)
