use Rattle.std.proofs.Common.{◌∙◌, ap, ◌||◌, arith}
use Rattle.std.specs.BTreeSet.{contains}
use Rattle.std.specs.Cmp.Lexicographic.{slice_cmp}
use Rattle.std.specs.Ordering.{nat_cmp}
use Rattle.std.specs.Str.{bytes_eq}
use Rattle.token_grammar.specs.declared.tags.TheConstants.{SEARCHED}
use Rattle.token_grammar.proofs.LaterNames.{at_least, inserted}
use Rattle.token_grammar.proofs.tags.add_later.Goals as goal

pub returns : goal.returns
returns c = λ other.
    inserted c.args.later.now c.insert.new.self c.args.name.now
    (rw c.in_ok-try_clone.ensures at c.in_ok-insert.ensures.updates) other
    ∙ ap (λ b. contains (slice_cmp nat_cmp) c.args.later.now other || b)
    (at_least SEARCHED c.args.before (bytes_eq c.args.name.now other) (omega arith))
