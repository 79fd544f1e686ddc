use Rattle.std.proofs.Common.{chars, codes, ◌++◌}
use Rattle.std.proofs.lemmas.Result.{on_err_weaker, on_ok_weaker}
use Rattle.tree_serializer.specs.Escapes.{attributes_text, start_text}
use Rattle.tree_serializer.proofs.GrowthLemmas.{grows_on, grows_on_part, on_err, part_of_first, part_of_second}
use Rattle.tree_serializer.proofs.GrowthLemmas.{part_of_third, three_texts}
use Rattle.tree_serializer.proofs.TagLemmas.{begun_start, start_is}
use Rattle.tree_serializer.proofs.tags.write_start.Goals as goal

pub returns-in_err-write_text-clause-part : goal.returns-in_err-write_text-clause-part
returns-in_err-write_text-clause-part g c = on_err _ c.from_residual.ensures.0
    (begun_start c.args.name.now c.args.attributes.now c.in_err-write_text.ensures.part)

pub returns-in_err-write_text-2-clause-part : goal.returns-in_err-write_text-2-clause-part
returns-in_err-write_text-2-clause-part g c = on_err _ c.from_residual-in_err-write_text-2.ensures.0
    (part_of_first (chars (codes "<") ++ chars c.as_str.result.now)
    (attributes_text c.args.attributes.now) (chars (codes ">"))
    (start_text c.args.name.now c.args.attributes.now)
    (start_is c.args.name.now c.as_str.result.now c.args.attributes.now c.as_str.ensures)
    (grows_on_part (chars (codes "<")) (chars c.as_str.result.now) c.in_ok-write_text.ensures.ok
    c.in_err-write_text-2.ensures.part))

pub returns-in_err-write_attributes-clause-part : goal.returns-in_err-write_attributes-clause-part
returns-in_err-write_attributes-clause-part g c = on_err _ c.from_residual-in_err-write_attributes.ensures.0
    (part_of_second (chars (codes "<") ++ chars c.as_str.result.now)
    (attributes_text c.args.attributes.now) (chars (codes ">"))
    (start_text c.args.name.now c.args.attributes.now)
    (start_is c.args.name.now c.as_str.result.now c.args.attributes.now c.as_str.ensures)
    (grows_on (chars (codes "<")) (chars c.as_str.result.now) c.in_ok-write_text.ensures.ok
    c.in_ok-write_text-2.ensures.ok) c.in_err-write_attributes.ensures.part)

pub returns-clause-ok : goal.returns-clause-ok
returns-clause-ok g c = on_ok_weaker c.write_text-3.result
    (λ h. three_texts (chars (codes "<") ++ chars c.as_str.result.now)
    (attributes_text c.args.attributes.now) (chars (codes ">"))
    (start_text c.args.name.now c.args.attributes.now)
    (start_is c.args.name.now c.as_str.result.now c.args.attributes.now c.as_str.ensures)
    (grows_on (chars (codes "<")) (chars c.as_str.result.now) c.in_ok-write_text.ensures.ok
    c.in_ok-write_text-2.ensures.ok) c.in_ok-write_attributes.ensures.ok h)
    c.write_text-3.ensures.ok

pub returns-clause-part : goal.returns-clause-part
returns-clause-part g c = on_err_weaker c.write_text-3.result
    (λ h. part_of_third (chars (codes "<") ++ chars c.as_str.result.now)
    (attributes_text c.args.attributes.now) (chars (codes ">"))
    (start_text c.args.name.now c.args.attributes.now)
    (start_is c.args.name.now c.as_str.result.now c.args.attributes.now c.as_str.ensures)
    (grows_on (chars (codes "<")) (chars c.as_str.result.now) c.in_ok-write_text.ensures.ok
    c.in_ok-write_text-2.ensures.ok) c.in_ok-write_attributes.ensures.ok h)
    c.write_text-3.ensures.part
