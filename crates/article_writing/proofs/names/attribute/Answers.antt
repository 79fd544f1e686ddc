use Rattle.std.proofs.Common.{◌∙◌}
use Rattle.std.proofs.lemmas.Str.{chars-nil}
use Rattle.article_writing.proofs.Naming.{attribute_is}
use Rattle.article_writing.proofs.names.attribute.Goals as goal

pub returns : goal.returns
returns c = attribute_is c.new.result c.in_ok-from_str.field-0 c.in_ok-from_str-2.field-0 c.in_ok-from_str-3.field-0
    _ _ c.new.ensures (c.in_ok-from_str.ensures ∙ chars-nil) c.in_ok-from_str-2.ensures c.in_ok-from_str-3.ensures
