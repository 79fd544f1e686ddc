use Rattle.std.proofs.Common.{chars, refl, ◌++◌}
use Rattle.std.proofs.lemmas.Result.{on_ok_weaker, on_err_weaker}
use Rattle.tree_serializer.specs.Escapes.{escaped}
use Rattle.tree_serializer.proofs.GrowthLemmas.{all_grown, more_grown, nothing_grown, on_err, part_grown}
use Rattle.tree_serializer.proofs.GrowthLemmas.{rest_part_grown}
use Rattle.tree_serializer.proofs.escape.write_escaped.Goals as goal

pub runs-init : goal.runs-init
runs-init g c = record { text = c.utf8.text; growing = nothing_grown _ _ _ }

pub runs-preserved : goal.runs-preserved
runs-preserved g c = record {
  text = c.in-Some.ensures.trailing;
  growing = more_grown (chars c.in-Some.reference.now) (escaped c.args.in_value (chars c.in-Some.trailing.now))
      (more_grown (chars c.in-Some.run'.now)
      (chars c.in-Some.reference.now ++ escaped c.args.in_value (chars c.in-Some.trailing.now)) c.runs.invariant.growing
      c.in_ok-write_text.ensures.ok c.in-Some.ensures.value c.in_ok-write_text.ensures.stays)
      c.in_ok-write_text-2.ensures.ok refl c.in_ok-write_text-2.ensures.stays;
}

pub returns-in_err-write_text-clause-part : goal.returns-in_err-write_text-clause-part
returns-in_err-write_text-clause-part g c =
    on_err _ c.from_residual.ensures.0
    (part_grown (chars c.in-Some.run'.now)
    (chars c.in-Some.reference.now ++ escaped c.args.in_value (chars c.in-Some.trailing.now)) c.runs.invariant.growing
    c.in_err-write_text.ensures.part c.in-Some.ensures.value)

pub returns-in_err-write_text-2-clause-part : goal.returns-in_err-write_text-2-clause-part
returns-in_err-write_text-2-clause-part g c =
    on_err _ c.from_residual-in_err-write_text-2.ensures.0
    (part_grown (chars c.in-Some.reference.now) (escaped c.args.in_value (chars c.in-Some.trailing.now))
    (more_grown (chars c.in-Some.run'.now)
    (chars c.in-Some.reference.now ++ escaped c.args.in_value (chars c.in-Some.trailing.now)) c.runs.invariant.growing
    c.in_ok-write_text.ensures.ok c.in-Some.ensures.value c.in_ok-write_text.ensures.stays)
    c.in_err-write_text-2.ensures.part refl)

pub returns-clause-ok : goal.returns-clause-ok
returns-clause-ok g c = on_ok_weaker c.write_text-2.result
    (λ h. all_grown (chars c.runs.rest.now) c.runs.invariant.growing c.in_default.ensures.value h)
    c.write_text-2.ensures.ok

pub returns-clause-part : goal.returns-clause-part
returns-clause-part g c = on_err_weaker c.write_text-2.result
    (λ h. rest_part_grown (chars c.runs.rest.now) c.runs.invariant.growing c.in_default.ensures.value h)
    c.write_text-2.ensures.part
