use Rattle.std.proofs.Common.{ap, chars, option_map, sym, ◌∙◌}
use Rattle.token_grammar.specs.Slices.{after, cut}
use Rattle.rules_table.specs.Encodings.{slice_of, written_name}
use Rattle.rules_table.proofs.EncodingLemmas.{double_quote_codes, double_quoted, single_quote_codes, single_quoted}
use Rattle.rules_table.proofs.encodings.written_name.Goals as goal

pub returns-then-first-eq34-clause-name : goal.returns-then-first-eq34-clause-name
returns-then-first-eq34-clause-name c =
    let rest = chars c.in_ok-first.rest.now in
    c.before-then-first-eq34.ensures.slice
    ∙ ap (λ mark. option_map slice_of (cut (after mark) rest)) double_quote_codes
    ∙ double_quoted c.in_ok-first.first rest c.if-first-eq34.true ∙ ap written_name (sym c.in_ok-first.ensures.value)

pub returns-then-first-eq39-clause-name : goal.returns-then-first-eq39-clause-name
returns-then-first-eq39-clause-name c =
    let rest = chars c.in_ok-first.rest.now in
    c.before-then-first-eq39.ensures.slice
    ∙ ap (λ mark. option_map slice_of (cut (after mark) rest)) single_quote_codes
    ∙ single_quoted c.in_ok-first.first rest c.if-first-eq39.true ∙ ap written_name (sym c.in_ok-first.ensures.value)
