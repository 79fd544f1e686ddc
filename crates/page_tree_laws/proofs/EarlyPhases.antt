-- States in which the head stands and the body is to come, after single actions.
use Rattle.std.proofs.Common.{◌≡◌, if◌then◌else◌, ◌∷◌, ◌∙◌, Bool, List, ap, codes, false, inl, inr, refl, true, ℕ}
use Rattle.tree_forest.specs.Forest.{name_of}
use Rattle.tree_forest.specs.Places.{below}
use Rattle.html_tree_state.specs.Insertions.{here}
use Rattle.tree_names.specs.ElementSets.{foster_targets}
use Rattle.tree_names.specs.Sets.{is_element_of, is_html}
use Rattle.page_tree_laws.proofs.EarlySteps.{early_on, here_below, stack_on}
use Rattle.page_tree_laws.proofs.GuardKinds.{titled_head}
use Rattle.page_tree_laws.proofs.Phases.{IsEarly, IsEarlyStack, IsPhase, body_to_come, head_guard}
use Rattle.page_tree_laws.proofs.QuietActions.{IsQuiet}
use Rattle.rules_table.specs.Actions.{act_all, in_html}
use Rattle.rules_table.specs.Rows.{Row, again, asks, done}
use Rattle.rules_table.specs.Settling.{entered}
use Rattle.rules_table.specs.State.{State}

-- what a row comes to
abbrev pub ComesTo : (State → Type 0) → State → Row → Type 0
ComesTo P s (done actions) = P (act_all actions s)
ComesTo P s (asks ask actions) = P (entered ask (act_all actions s))
ComesTo P s (again actions) = P (act_all actions s)

abbrev pub Comes : Bool → State → Row → Type 0
Comes is_framed s r = ComesTo (IsPhase is_framed) s r

pub comes_to_if : (b : Bool) (P : State → Type 0) (s : State) (x y : Row) → (b ≡ true → ComesTo P s x) →
    (b ≡ false → ComesTo P s y) → ComesTo P s (if b then x else y)
comes_to_if true P s x y f g = f refl
comes_to_if false P s x y f g = g refl

pub comes_if : (b : Bool) (is_framed : Bool) (s : State) (x y : Row) → (b ≡ true → Comes is_framed s x) →
    (b ≡ false → Comes is_framed s y) → Comes is_framed s (if b then x else y)
comes_if b is_framed s x y f g = comes_to_if b (IsPhase is_framed) s x y f g

module _ (is_framed : Bool) (root head : ℕ) where
  -- after an action that is quiet
  pub quiet_comes : (s t : State) → IsEarly root head s → IsEarlyStack root head s →
      IsQuiet (head_guard root head) s t → IsPhase is_framed t
  quiet_comes s t early stack quiet = body_to_come root head
      (early_on root head s t early quiet.nodes quiet.formatting quiet.head quiet.form quiet.templates quiet.ok
      quiet.fostering)
      (stack_on root head s t quiet.nodes quiet.mode quiet.original quiet.stack stack)

  -- the head, and the elements that are open in it, are no parts of tables, and no templates
  pub head_named : (s : State) → IsEarly root head s → name_of head s.tree.forest ≡ in_html (codes "head")
  head_named s early = early.nodes.named head (inr (inr (inl refl)))
      ∙ titled_head root head (codes "head") early.head_root

  pub head_here : (s : State) (ns : List ℕ) → IsEarly root head s → s.tree.stack ≡ head ∷ ns →
      here s.tree ≡ below head
  head_here s ns early e = here_below head ns s.tree e
      (ap (is_element_of foster_targets) (head_named s early)) (ap (is_html (codes "template")) (head_named s early))

  pub noscript_here : (s : State) (n : ℕ) (ns : List ℕ) → s.tree.stack ≡ n ∷ ns →
      name_of n s.tree.forest ≡ in_html (codes "noscript") → here s.tree ≡ below n
  noscript_here s n ns e named = here_below n ns s.tree e (ap (is_element_of foster_targets) named)
      (ap (is_html (codes "template")) named)
