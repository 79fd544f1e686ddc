use Rattle.std.proofs.Common.{chars, codes, ◌++◌}
use Rattle.std.proofs.lemmas.Result.{on_err_weaker, on_ok_weaker}
use Rattle.tree_serializer.specs.Escapes.{instruction_text}
use Rattle.tree_serializer.proofs.GrowthLemmas.{on_err, part_of_first, part_of_second, part_of_third, three_texts}
use Rattle.tree_serializer.proofs.TagLemmas.{instruction_is}
use Rattle.tree_serializer.proofs.tags.write_instruction.Goals as goal

pub returns-in_err-write_between-clause-part : goal.returns-in_err-write_between-clause-part
returns-in_err-write_between-clause-part g c = on_err _ c.from_residual.ensures.0
    (part_of_first (chars (codes "<?") ++ chars c.args.target.now ++ chars (codes " "))
    (chars c.args.contents.now) (chars (codes ">"))
    (instruction_text (chars c.args.target.now) (chars c.args.contents.now))
    (instruction_is (chars c.args.target.now) (chars c.args.contents.now)) c.in_err-write_between.ensures.part)

pub returns-in_err-write_text-clause-part : goal.returns-in_err-write_text-clause-part
returns-in_err-write_text-clause-part g c = on_err _ c.from_residual-in_err-write_text.ensures.0
    (part_of_second (chars (codes "<?") ++ chars c.args.target.now ++ chars (codes " "))
    (chars c.args.contents.now) (chars (codes ">"))
    (instruction_text (chars c.args.target.now) (chars c.args.contents.now))
    (instruction_is (chars c.args.target.now) (chars c.args.contents.now)) c.in_ok-write_between.ensures.ok
    c.in_err-write_text.ensures.part)

pub returns-clause-ok : goal.returns-clause-ok
returns-clause-ok g c = on_ok_weaker c.write_text-2.result
    (λ h. three_texts (chars (codes "<?") ++ chars c.args.target.now ++ chars (codes " "))
    (chars c.args.contents.now) (chars (codes ">"))
    (instruction_text (chars c.args.target.now) (chars c.args.contents.now))
    (instruction_is (chars c.args.target.now) (chars c.args.contents.now)) c.in_ok-write_between.ensures.ok
    c.in_ok-write_text.ensures.ok h)
    c.write_text-2.ensures.ok

pub returns-clause-part : goal.returns-clause-part
returns-clause-part g c = on_err_weaker c.write_text-2.result
    (λ h. part_of_third (chars (codes "<?") ++ chars c.args.target.now ++ chars (codes " "))
    (chars c.args.contents.now) (chars (codes ">"))
    (instruction_text (chars c.args.target.now) (chars c.args.contents.now))
    (instruction_is (chars c.args.target.now) (chars c.args.contents.now)) c.in_ok-write_between.ensures.ok
    c.in_ok-write_text.ensures.ok h)
    c.write_text-2.ensures.part
