use Rattle.text_footnotes.proofs.PrintableLemmas.{printable_decoded, printable_injective, printable_prints}
use Rattle.text_footnotes.proofs.PrintableLemmas.{printable_same}
use Rattle.text_footnotes.proofs.target_laws.printable_targets_lose_nothing.Goals as goal

pub returns : goal.returns
returns c = record {
  none = printable_prints;
  same = printable_same;
  decoded = printable_decoded;
  injective = printable_injective;
}
