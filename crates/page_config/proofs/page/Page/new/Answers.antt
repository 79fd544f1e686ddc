use Rattle.std.proofs.Common.{subst}
use Rattle.page_config.proofs.page.Page.new.Goals as goal
use Rattle.page_reading.specs.PageTrees.{IsTreeOfBytes}

pub returns-clause-begins : goal.returns-clause-begins
returns-clause-begins g c = λ bytes forest quirks comes.
    subst (λ table. IsTreeOfBytes table c.args.config.now.parsing bytes forest quirks) c.in_ok-table.ensures
    (subst (λ options. IsTreeOfBytes c.in_ok-table.table options bytes forest quirks) c.in_ok-parsing.ensures
    (c.in_ok-new.ensures.begins bytes forest quirks comes))
