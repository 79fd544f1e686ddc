use Rattle.std.proofs.Common.{◌∙◌, ap, subst, sym}
use Rattle.document_laws.specs.Escaped.{KnowsEscapes}
use Rattle.written_document_laws.specs.Documents.{scripted_parse}
use Rattle.page_config.specs.Settings.{scripted}
use Rattle.article_answers.proofs.laws.plain_configurations_are_for_articles.Goals as goal
use Rattle.article_answers.proofs.PlainRules.{rules_of_plain}

pub returns : goal.returns
returns c = record {
  plain = λ table s knows plain. record {
    table = subst KnowsEscapes (sym plain.table) knows;
    parsing = plain.parsing
        ∙ ap (λ parsing. scripted_parse parsing.tree_builder.scripting_enabled) (sym plain.parsing);
    rules = rules_of_plain s.decorates s.rules plain.decorates plain.rules;
    within = ap (λ o. o.allow_width_overflow) plain.options;
  };
  asked = λ s scripting conversion is. record {
    table = is.table;
    parsing = ap (scripted scripting) is.parsing;
    rules = is.rules;
    within = is.within;
  };
}
