use Rattle.std.proofs.Common.{ap, chars, codes, true, ◌++◌}
use Rattle.std.proofs.lemmas.Result.{on_err_weaker, on_ok_weaker}
use Rattle.tree_serializer.specs.Escapes.{attribute_text, escaped}
use Rattle.tree_serializer.proofs.GrowthLemmas.{grows_as, grows_as_part, on_err, part_of_first, part_of_second}
use Rattle.tree_serializer.proofs.GrowthLemmas.{part_of_third, three_texts}
use Rattle.tree_serializer.proofs.TagLemmas.{attribute_is}
use Rattle.tree_serializer.proofs.tags.write_attribute.Goals as goal

pub returns-in_err-write_between-clause-part : goal.returns-in_err-write_between-clause-part
returns-in_err-write_between-clause-part g c = on_err _ c.from_residual.ensures.0
    (part_of_first (chars (codes " ") ++ chars c.as_str.result.now ++ chars (codes "=\""))
    (escaped true c.args.attribute.now.value) (chars (codes "\"")) (attribute_text c.args.attribute.now)
    (attribute_is c.args.attribute.now c.as_str.result.now c.as_str.ensures) c.in_err-write_between.ensures.part)

pub returns-in_err-write_escaped-clause-part : goal.returns-in_err-write_escaped-clause-part
returns-in_err-write_escaped-clause-part g c = on_err _ c.from_residual-in_err-write_escaped.ensures.0
    (part_of_second (chars (codes " ") ++ chars c.as_str.result.now ++ chars (codes "=\""))
    (escaped true c.args.attribute.now.value) (chars (codes "\"")) (attribute_text c.args.attribute.now)
    (attribute_is c.args.attribute.now c.as_str.result.now c.as_str.ensures) c.in_ok-write_between.ensures.ok
    (grows_as_part (escaped true (chars c.as_str-2.result.now)) (escaped true c.args.attribute.now.value)
    (ap (escaped true) c.as_str-2.ensures) c.in_err-write_escaped.ensures.part))

pub returns-clause-ok : goal.returns-clause-ok
returns-clause-ok g c = on_ok_weaker c.write_text.result
    (λ h. three_texts (chars (codes " ") ++ chars c.as_str.result.now ++ chars (codes "=\""))
    (escaped true c.args.attribute.now.value) (chars (codes "\"")) (attribute_text c.args.attribute.now)
    (attribute_is c.args.attribute.now c.as_str.result.now c.as_str.ensures) c.in_ok-write_between.ensures.ok
    (grows_as (escaped true (chars c.as_str-2.result.now)) (escaped true c.args.attribute.now.value)
    (ap (escaped true) c.as_str-2.ensures) c.in_ok-write_escaped.ensures.ok) h)
    c.write_text.ensures.ok

pub returns-clause-part : goal.returns-clause-part
returns-clause-part g c = on_err_weaker c.write_text.result
    (λ h. part_of_third (chars (codes " ") ++ chars c.as_str.result.now ++ chars (codes "=\""))
    (escaped true c.args.attribute.now.value) (chars (codes "\"")) (attribute_text c.args.attribute.now)
    (attribute_is c.args.attribute.now c.as_str.result.now c.as_str.ensures) c.in_ok-write_between.ensures.ok
    (grows_as (escaped true (chars c.as_str-2.result.now)) (escaped true c.args.attribute.now.value)
    (ap (escaped true) c.as_str-2.ensures) c.in_ok-write_escaped.ensures.ok) h)
    c.write_text.ensures.part
