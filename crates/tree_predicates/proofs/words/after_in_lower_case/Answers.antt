use Rattle.std.proofs.Common.{ap, sym, ◌∙◌, chars, ◌++◌}
use Rattle.std.specs.Str.Iter.{chars_rest}
use Rattle.tree_predicates.specs.Attributes.{in_lower_case}
use Rattle.tree_predicates.proofs.WordLemmas.{nothing_after, spelling_differs, spelling_ends, spelling_more}
use Rattle.tree_predicates.proofs.WordLemmas.{spelling_short, spelling_start}
use Rattle.tree_predicates.proofs.words.after_in_lower_case.Goals as goal

pub word-init : goal.word-init
word-init c = spelling_start _ _ _ _ c.utf8.text c.utf8.word c.chars-rest.ensures.rest
    (ap chars_rest c.into_iter-wanted-iterator.ensures.into_iter_gives ∙ c.chars-wanted-items.ensures.rest)

pub word-preserved : goal.word-preserved
word-preserved c = spelling_more _ _ _ _ _ c.word.invariant _ _ _ _ c.in-Some.ensures.steps.0
    c.in_ok-found.ensures.steps.0 (sym c.to_ascii_lowercase.ensures.value ∙ c.if-to_ascii_lowercase-wanted.false)

pub returns-then-to_ascii_lowercase-wanted-clause-value : goal.returns-then-to_ascii_lowercase-wanted-clause-value
returns-then-to_ascii_lowercase-wanted-clause-value c = spelling_differs _ _ _ _ _ c.word.invariant _ _ _ _
    c.in-Some.ensures.steps.0 c.in_ok-found.ensures.steps.0
    (λ e. c.if-to_ascii_lowercase-wanted.true (c.to_ascii_lowercase.ensures.value ∙ e))

pub returns-in_err-found-clause-value : goal.returns-in_err-found-clause-value
returns-in_err-found-clause-value c =
    nothing_after (chars c.args.text.now) (chars c.args.word.now) _ c.from_residual.ensures
    (spelling_short _ _ _ _ _ c.word.invariant _ _ c.in-Some.ensures.steps.0 c.in_err-found.ensures.steps.0.0)

pub returns-clause-value : goal.returns-clause-value
returns-clause-value c = spelling_ends _ _ _ _ _ c.word.invariant c.in-None.ensures.steps.0.0
    ∙ ap (λ l. chars c.args.word.now ++ in_lower_case (chars l)) (sym c.as_str.ensures)
