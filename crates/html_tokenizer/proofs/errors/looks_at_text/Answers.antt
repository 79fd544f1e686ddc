use Rattle.std.proofs.Common.{◌==◌, sym, ◌∙◌}
use Rattle.std.proofs.lemmas.Bool.{ne_eqb}
use Rattle.token_errors.specs.Found.{is_exact, is_watching}
use Rattle.token_errors.specs.Noncharacters.{is_noncharacter}
use Rattle.html_tokenizer.proofs.RunLemmas.{nul_alone}
use Rattle.html_tokenizer.proofs.errors.looks_at_text.Goals as goal

pub returns : goal.returns
returns c = λ none n other.
    let errors = c.args.errors.now in
    nul_alone (is_watching errors) (is_exact errors) (n == 0) (is_noncharacter n)
    (sym c.heeds.ensures ∙ none) (ne_eqb n 0 other)
