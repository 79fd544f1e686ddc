use Rattle.std.proofs.Common.{arith, ap, ◌∙◌, slice_index_or}
use Rattle.lex_base.proofs.FindLemmas.{same_place}
use Rattle.lex_base.proofs.find.place_of.Goals as goal

pub returns-clause-place : goal.returns-clause-place
returns-clause-place c = same_place c.args.name.now _ _ _
    (c.from-first.ensures ∙ c.byte_at.ensures) (c.from-third.ensures ∙ c.byte_at-2.ensures)
    (c.from-last.ensures ∙ c.byte_at-3.ensures ∙ ap (λ at. slice_index_or c.args.name.now at 0) (omega arith))
