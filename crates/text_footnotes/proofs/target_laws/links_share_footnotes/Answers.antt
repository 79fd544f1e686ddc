use Rattle.text_footnotes.proofs.SharedLemmas.{counted_once, is_at_number, number_stays, some_distinct}
use Rattle.text_footnotes.proofs.target_laws.links_share_footnotes.Goals as goal

pub returns : goal.returns
returns c = record {
  once = counted_once;
  number = is_at_number;
  stays = number_stays;
  some = some_distinct;
}
