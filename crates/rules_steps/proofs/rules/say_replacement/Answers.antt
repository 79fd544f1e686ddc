use Rattle.std.proofs.Common.{List, ℕ, ap, ◌∙◌}
use Rattle.html_lexemes.specs.declared.token.TokenSinkResult.TheVariants.{Continue}
use Rattle.rules_actions.specs.Outcomes.{finished}
use Rattle.rules_actions.specs.Parsed.{parsed}
use Rattle.rules_table.specs.Actions.{act, say}
use Rattle.rules_steps.proofs.CharacterLemmas.{replacement_is}
use Rattle.rules_steps.proofs.rules.say_replacement.Goals as goal

pub returns : goal.returns
returns g c =
    let tree = g.S.TreeSink in
    let old = parsed tree.view c.args.page.now.kept c.args.page.now.tree.held
    c.args.page.now.tree.sink in
    record {
      came = ap (finished Continue) (c.in_ok-say.ensures.seen
          ∙ ap (λ (cs : List ℕ). act (say cs) old) (c.in_ok-replacement.ensures ∙ replacement_is));
      ready = c.in_ok-say.ensures.ready;
      memory = tt;
    }
