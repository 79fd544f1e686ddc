use Rattle.std.proofs.Common.{◌≡◌, ℕ, List, refl, ap, ◌∙◌}
use Rattle.std.specs.Str.{chars}
use Rattle.std.specs.FinMap as finite
use Rattle.lex_base.specs.References.{References}
use Rattle.lex_base.proofs.table.ReferenceTable.basic.Goals as goal

then_inserted : (old new new' : References) (name value : List ℕ) → new ≡ new' → old ≡ finite.insert new name value →
    old ≡ finite.insert new' name value
then_inserted old new new' name value e is = is ∙ ap (λ t. finite.insert t name value) e

pub returns : goal.returns
unfolding chars
returns c =
    then_inserted _ _ _ _ _
    (then_inserted _ _ _ _ _
    (then_inserted _ _ _ _ _
    (then_inserted _ _ _ _ _
    (then_inserted _ _ _ _ _ c.empty-table.ensures c.in_ok-insert.ensures.ok)
    c.in_ok-insert-2.ensures.ok)
    c.in_ok-insert-3.ensures.ok)
    c.in_ok-insert-4.ensures.ok)
    c.in_ok-insert-5.ensures.ok

pub insert-requires-clause-name : goal.insert-requires-clause-name
unfolding chars
insert-requires-clause-name c = refl

pub insert-requires-clause-value : goal.insert-requires-clause-value
unfolding chars
insert-requires-clause-value c = refl

pub insert-requires-2-clause-name : goal.insert-requires-2-clause-name
unfolding chars
insert-requires-2-clause-name c = refl

pub insert-requires-2-clause-value : goal.insert-requires-2-clause-value
unfolding chars
insert-requires-2-clause-value c = refl

pub insert-requires-3-clause-name : goal.insert-requires-3-clause-name
unfolding chars
insert-requires-3-clause-name c = refl

pub insert-requires-3-clause-value : goal.insert-requires-3-clause-value
unfolding chars
insert-requires-3-clause-value c = refl

pub insert-requires-4-clause-name : goal.insert-requires-4-clause-name
unfolding chars
insert-requires-4-clause-name c = refl

pub insert-requires-4-clause-value : goal.insert-requires-4-clause-value
unfolding chars
insert-requires-4-clause-value c = refl

pub insert-requires-5-clause-name : goal.insert-requires-5-clause-name
unfolding chars
insert-requires-5-clause-name c = refl

pub insert-requires-5-clause-value : goal.insert-requires-5-clause-value
unfolding chars
insert-requires-5-clause-value c = refl
