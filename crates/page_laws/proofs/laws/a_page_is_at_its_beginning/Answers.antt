use Rattle.page_laws.proofs.TreeLemmas.{begun_at_beginning}
use Rattle.page_laws.proofs.laws.a_page_is_at_its_beginning.Goals as goal

pub returns : goal.returns
returns c = begun_at_beginning
