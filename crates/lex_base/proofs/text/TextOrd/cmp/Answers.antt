use Rattle.std.proofs.Common.{◌∙◌, sym}
use Rattle.lex_base.proofs.Utf8Order.{order_of_bytes}
use Rattle.lex_base.proofs.text.TextOrd.cmp.Goals as goal

pub returns : goal.returns
returns c =
    rw (
      sym c.as_str.ensures,
      sym c.as_str-2.ensures,
    ) (c.cmp.ensures ∙ order_of_bytes _ _ c.as_str.utf8 c.as_str-2.utf8)
