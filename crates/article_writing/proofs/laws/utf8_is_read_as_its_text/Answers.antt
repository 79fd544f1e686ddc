use Rattle.std.proofs.Common.{[], ◌++◌, chars, sym, ap, ◌∙◌, append-nil}
use Rattle.page_decoding.proofs.DecoderText.{replaced_text-front, replaced_text-nil}
use Rattle.page_decoding.specs.ReplacedText.{replaced_text}
use Rattle.article_writing.proofs.laws.utf8_is_read_as_its_text.Goals as goal

pub returns : goal.returns
returns c = λ bytes utf8.
    ap replaced_text (sym (append-nil bytes)) ∙ replaced_text-front bytes [] utf8
    ∙ ap (λ t. chars bytes ++ t) replaced_text-nil ∙ append-nil (chars bytes)
