use Rattle.std.proofs.Common.{ap, sym, ◌∙◌, chars, ◌∷◌, List, ℕ}
use Rattle.std.proofs.lemmas.Str.{chars_past_char}
use Rattle.token_grammar.proofs.slices.first_and_rest.Goals as goal

pub returns-clause-value : goal.returns-clause-value
returns-clause-value c =
    chars_past_char c.args.text.now c.next.new.self.rest.now c.in_ok-first.first c.utf8.text
    (sym c.chars-rest.ensures.rest ∙ c.in_ok-first.ensures.steps.0)
    ∙ ap (λ (l : List ℕ). c.in_ok-first.first ∷ chars l) (sym c.as_str.ensures)
