use Rattle.printed_page_laws.proofs.DecoratorTexts.{notes_printed, plain_printed, rich_printed, trivial_printed}
use Rattle.printed_page_laws.proofs.laws.decorators_print_no_controls.Goals as goal

pub returns : goal.returns
returns g c = record {
  plain = λ kind is. plain_printed kind is;
  rich = λ kind is. rich_printed kind is;
  trivial = λ kind is. trivial_printed kind is;
  notes = λ annotation targets all. notes_printed annotation targets all;
}
