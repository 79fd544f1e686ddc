use Rattle.std.proofs.Common.{chars, codes, ◌++◌}
use Rattle.std.proofs.lemmas.Result.{on_err_weaker, on_ok_weaker}
use Rattle.tree_serializer.specs.Escapes.{end_text}
use Rattle.tree_serializer.proofs.GrowthLemmas.{grows_as, grows_as_part}
use Rattle.tree_serializer.proofs.TagLemmas.{end_is}
use Rattle.tree_serializer.proofs.tags.write_end.Goals as goal

pub returns-clause-ok : goal.returns-clause-ok
returns-clause-ok g c = on_ok_weaker c.write_between.result
    (grows_as (chars (codes "</") ++ chars c.as_str.result.now ++ chars (codes ">"))
    (end_text c.args.name.now) (end_is c.args.name.now c.as_str.result.now c.as_str.ensures))
    c.write_between.ensures.ok

pub returns-clause-part : goal.returns-clause-part
returns-clause-part g c = on_err_weaker c.write_between.result
    (grows_as_part (chars (codes "</") ++ chars c.as_str.result.now ++ chars (codes ">"))
    (end_text c.args.name.now) (end_is c.args.name.now c.as_str.result.now c.as_str.ensures))
    c.write_between.ensures.part
