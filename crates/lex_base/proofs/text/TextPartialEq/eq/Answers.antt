use Rattle.std.proofs.Common.{◌∙◌, sym}
use Rattle.lex_base.proofs.Utf8Order.{same_by_bytes}
use Rattle.lex_base.proofs.text.TextPartialEq.eq.Goals as goal

pub returns : goal.returns
returns c =
    rw (
      sym c.as_str.ensures,
      sym c.as_str-2.ensures,
    ) (c.eq.ensures ∙ same_by_bytes _ _ c.as_str.utf8 c.as_str-2.utf8)
