use Rattle.std.proofs.Common.{chars, codes, ◌++◌}
use Rattle.std.proofs.lemmas.Result.{on_err_weaker, on_ok_weaker}
use Rattle.tree_serializer.specs.Escapes.{doctype_text}
use Rattle.tree_serializer.proofs.GrowthLemmas.{grows_as, grows_as_part}
use Rattle.tree_serializer.proofs.TagLemmas.{doctype_is}
use Rattle.tree_serializer.proofs.tags.write_doctype.Goals as goal

pub returns-clause-ok : goal.returns-clause-ok
returns-clause-ok g c = on_ok_weaker c.write_between.result
    (grows_as (chars (codes "<!DOCTYPE ") ++ chars c.args.name.now ++ chars (codes ">"))
    (doctype_text (chars c.args.name.now)) (doctype_is (chars c.args.name.now)))
    c.write_between.ensures.ok

pub returns-clause-part : goal.returns-clause-part
returns-clause-part g c = on_err_weaker c.write_between.result
    (grows_as_part (chars (codes "<!DOCTYPE ") ++ chars c.args.name.now ++ chars (codes ">"))
    (doctype_text (chars c.args.name.now)) (doctype_is (chars c.args.name.now)))
    c.write_between.ensures.part
