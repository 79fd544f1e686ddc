-- Anything may be emitted first for a fragment.
use Rattle.std.proofs.Common.{◌≡◌, ℕ, Bool, false, true, if◌then◌else◌, refl, sym, subst, Option, codes}
use Rattle.tree_forest.specs.Forest.{Forest, name_of}
use Rattle.tree_forest.specs.declared.sink.QuirksMode.{QuirksMode}
use Rattle.token_grammar.specs.Items.{Item}
use Rattle.tree_names.specs.Sets.{is_html}
use Rattle.html_tree_builder.specs.Begun.{begun, begun_fragment, root_actions, with_context}
use Rattle.rules_table.specs.Actions.{act, act_all, but_text, is_text}
use Rattle.rules_table.specs.State.{State}
use Rattle.rules_table.specs.Welcome.{IsHeard, IsWelcome}
use Rattle.rules_table.specs.declared.options.TreeBuilderOpts.{TreeBuilderOpts}
use Rattle.tree_predicates.specs.declared.modes.InsertionMode.{InsertionMode}
use Rattle.tree_predicates.specs.declared.modes.InsertionMode.TheVariants.{InBody}

no_text_by : (b : Bool) (mode : InsertionMode) → is_text mode ≡ b → is_text (if b then InBody else mode) ≡ false
no_text_by true mode e = refl
no_text_by false mode e = e

no_text : (mode : InsertionMode) → is_text (but_text mode) ≡ false
no_text mode = no_text_by (is_text mode) mode refl

heard : (b : Bool) (item : Item) → b ≡ false → IsHeard b item
heard b item e = subst (λ v. IsHeard v item) (sym e) tt

opened_welcomes : (is_template : Bool) (s : State) (item : Item) → s.is_over ≡ false →
    s.has_failed ≡ false → IsWelcome (act_all (root_actions is_template) s) item
unfolding act
opened_welcomes true s item e f = record { works = f; goes_on = e; heard = heard _ item (no_text _) }
opened_welcomes false s item e f = record { works = f; goes_on = e; heard = heard _ item (no_text _) }

pub fragment_welcomes : (options : TreeBuilderOpts) (context : ℕ) (form : Option ℕ) (forest : Forest)
    (quirks : QuirksMode) (item : Item) → IsWelcome (begun_fragment options context form forest quirks) item
fragment_welcomes options context form forest quirks item =
    opened_welcomes (is_html (codes "template") (name_of context forest))
    (with_context context form (begun options forest quirks)) item refl refl
