use Rattle.std.proofs.Common.{refl, sym, ap, ◌∙◌, subst, length, ◌<◌}
use Rattle.html_render_dom.proofs.Following.{all_passed, child_within, fewer_left, linking_first, linking_next}
use Rattle.html_render_dom.specs.Siblings.{Links, link_at}
use Rattle.html_render_dom.specs.Nodes.{links_of}
use Rattle.std.specs.Prelude.{option_map}
use Rattle.html_render_dom.specs.Numbers.{number_of}
use Rattle.html_render_dom.proofs.nodes.Nodes.link_children.Goals as goal

pub loop-rest-init : goal.loop-rest-init
loop-rest-init c = (refl, linking_first _ _ _ c.requires.followed)

pub returns-clause-kinds : goal.returns-clause-kinds
returns-clause-kinds c = c.loop-rest.invariant.0

pub returns-clause-links : goal.returns-clause-links
returns-clause-links c = c.loop-rest.invariant.1.same

pub returns-clause-counted : goal.returns-clause-counted
returns-clause-counted c = c.loop-rest.invariant.1.counted

pub returns-clause-others : goal.returns-clause-others
returns-clause-others c = c.loop-rest.invariant.1.others

pub returns-clause-children : goal.returns-clause-children
returns-clause-children c = λ n i. all_passed (number_of c.args.parent) n (option_map number_of c.loop-rest.rest)
    (option_map number_of c.args.first)
    (links_of c.args.self.now) (links_of c.loop-rest.self) c.loop-rest.invariant.1
    (ap (option_map number_of) c.in_default.is) i

pub set_parent-requires : goal.set_parent-requires
set_parent-requires c = subst (λ ks. (number_of c.in-Some.child) < length ks) (sym c.loop-rest.invariant.0)
    (c.requires.within (number_of c.in-Some.child) (child_within (number_of c.args.parent) (number_of c.in-Some.child)
    (option_map number_of c.loop-rest.rest) (option_map number_of c.args.first)
    (links_of c.args.self.now) (links_of c.loop-rest.self) c.loop-rest.invariant.1
    (ap (option_map number_of) c.in-Some.is)))

pub next_sibling-rest-requires : goal.next_sibling-rest-requires
next_sibling-rest-requires c = subst (λ ks. (number_of c.in-Some.child) < length ks)
    (sym (c.set_parent.ensures.kinds ∙ c.loop-rest.invariant.0))
    (c.requires.within (number_of c.in-Some.child) (child_within (number_of c.args.parent) (number_of c.in-Some.child)
    (option_map number_of c.loop-rest.rest) (option_map number_of c.args.first)
    (links_of c.args.self.now) (links_of c.loop-rest.self) c.loop-rest.invariant.1
    (ap (option_map number_of) c.in-Some.is)))

pub loop-rest-smaller : goal.loop-rest-smaller
loop-rest-smaller c = fewer_left (number_of c.args.parent) (number_of c.in-Some.child)
    (option_map number_of c.loop-rest.rest) (option_map number_of c.args.first)
    (option_map number_of c.next_sibling-rest.result)
    (links_of c.args.self.now) (links_of c.loop-rest.self) c.loop-rest.invariant.1
    (ap (option_map number_of) c.in-Some.is)
    (c.next_sibling-rest.ensures ∙ ap (λ (v : Links). link_at (number_of c.in-Some.child) v.next)
    c.set_parent.ensures.links)

pub loop-rest-preserved : goal.loop-rest-preserved
loop-rest-preserved c = (
  c.set_parent.ensures.kinds ∙ c.loop-rest.invariant.0,
  linking_next (number_of c.args.parent) (number_of c.in-Some.child) (option_map number_of c.loop-rest.rest)
      (option_map number_of c.args.first) (option_map number_of c.next_sibling-rest.result)
      (links_of c.args.self.now) (links_of c.loop-rest.self) (links_of c.set_parent.new.self) c.loop-rest.invariant.1
      (ap (option_map number_of) c.in-Some.is)
      (subst (λ k. (number_of c.in-Some.child) < k) (sym c.requires.counted)
      (c.requires.within (number_of c.in-Some.child)
      (child_within (number_of c.args.parent) (number_of c.in-Some.child) (option_map number_of c.loop-rest.rest)
      (option_map number_of c.args.first)
      (links_of c.args.self.now) (links_of c.loop-rest.self) c.loop-rest.invariant.1
      (ap (option_map number_of) c.in-Some.is))))
      c.set_parent.ensures.links
      (c.next_sibling-rest.ensures ∙ ap (λ (v : Links). link_at (number_of c.in-Some.child) v.next)
      c.set_parent.ensures.links),
)
