use Rattle.std.proofs.Common.{◌≡◌, ◌++◌, OnOk, subst, sym}
use Rattle.std.specs.Str.{chars}
use Rattle.render_values.specs.Arena.{flat}
use Rattle.render_conversion.specs.Inner.{opening}
use Rattle.render_conversion.proofs.inner.push_opening.Goals as goal

pub returns-in-Quoted : goal.returns-in-Quoted
unfolding chars
returns-in-Quoted c = subst (λ inner. OnOk c.push_plain_text.result (c.push_plain_text.new.nodes.items
    ≡ c.args.nodes.now.items ++ flat (opening inner))) (sym c.in-Quoted.is) c.push_plain_text.ensures

pub returns-in-Spaced : goal.returns-in-Spaced
unfolding chars
returns-in-Spaced c = subst (λ inner. OnOk c.push_plain_text-in-Spaced.result
    (c.push_plain_text-in-Spaced.new.nodes.items ≡ c.args.nodes.now.items ++ flat (opening inner))) (sym c.in-Spaced.is)
    c.push_plain_text-in-Spaced.ensures
