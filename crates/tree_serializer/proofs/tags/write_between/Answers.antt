use Rattle.std.proofs.Common.{chars, refl}
use Rattle.std.proofs.lemmas.Result.{on_err_weaker, on_ok_weaker}
use Rattle.tree_serializer.proofs.GrowthLemmas.{on_err, part_of_first, part_of_second, part_of_third, three_texts}
use Rattle.tree_serializer.proofs.tags.write_between.Goals as goal

pub returns-in_err-write_text-clause-part : goal.returns-in_err-write_text-clause-part
returns-in_err-write_text-clause-part g c = on_err _ c.from_residual.ensures.0
    (part_of_first (chars c.args.before.now) (chars c.args.text.now) (chars c.args.after.now) _ refl
    c.in_err-write_text.ensures.part)

pub returns-in_err-write_text-2-clause-part : goal.returns-in_err-write_text-2-clause-part
returns-in_err-write_text-2-clause-part g c = on_err _ c.from_residual-in_err-write_text-2.ensures.0
    (part_of_second (chars c.args.before.now) (chars c.args.text.now) (chars c.args.after.now) _ refl
    c.in_ok-write_text.ensures.ok c.in_err-write_text-2.ensures.part)

pub returns-clause-ok : goal.returns-clause-ok
returns-clause-ok g c = on_ok_weaker c.write_text-3.result
    (λ h. three_texts (chars c.args.before.now) (chars c.args.text.now) (chars c.args.after.now) _ refl
    c.in_ok-write_text.ensures.ok c.in_ok-write_text-2.ensures.ok h)
    c.write_text-3.ensures.ok

pub returns-clause-part : goal.returns-clause-part
returns-clause-part g c = on_err_weaker c.write_text-3.result
    (λ h. part_of_third (chars c.args.before.now) (chars c.args.text.now) (chars c.args.after.now) _ refl
    c.in_ok-write_text.ensures.ok c.in_ok-write_text-2.ensures.ok h)
    c.write_text-3.ensures.part
