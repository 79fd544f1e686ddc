use Rattle.std.proofs.Common.{subst, ◌++◌}
use Rattle.std.proofs.lemmas.Result.{on_ok_weaker}
use Rattle.text_normal.specs.NormalStates.{HasRead}
use Rattle.text_normal.specs.MarkedTags.{tag_seen}
use Rattle.text_normal.proofs.MarkedLemmas.{ride_letters, ride_fits}
use Rattle.text_normal.proofs.marked.add_ride.Goals as goal

pub returns-clause-read : goal.returns-clause-read
returns-clause-read g c =
    on_ok_weaker c.add_text.result (λ h. λ width overflow read has.
    subst (λ ls. HasRead (tag_seen g.T.EqualCopy.seen) width overflow (read ++ ls) c.add_text.new.self) (ride_letters _)
    (h width overflow read has)) c.add_text.ensures.read

pub returns-clause-never : goal.returns-clause-never
returns-clause-never g c = λ e width overflow read has.
    ride_fits width overflow _ (c.add_text.ensures.narrow e width overflow read has)
