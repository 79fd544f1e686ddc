-- The node right before a place, and characters that are put there.
use Rattle.std.proofs.Common.{◌≡◌, ◌<◌, ◌⊎◌, ◌==◌, [], ◌∷◌, ◌∙◌, Bool, Err, IfOk, IfSome, List, None, Ok, OnErr, Option}
use Rattle.std.proofs.Common.{Result, Some, ap, arith, chars, false, inl, inr, is_some, length, option_map, refl, subst}
use Rattle.std.proofs.Common.{sym, true, ℕ}
use Rattle.std.specs.Str.{IsUtf8}
use Rattle.std.proofs.lemmas.Bool.{cond-true, cond-false, eqb-true}
use Rattle.lex_base.proofs.NameTests.{no_chars, some_chars}
use Rattle.tree_forest.specs.Changes.{changed, made, saying}
use Rattle.tree_forest.specs.Conditions.{CanPut}
use Rattle.tree_forest.specs.Forest.{Forest, Holds, children_at, kind_at, nodes, parent_of, text, text_of}
use Rattle.tree_forest.specs.Orders.{IsForest, IsIn, of_child}
use Rattle.tree_forest.specs.Places.{Place, before, below, last_of, neighbour, node, one_before, put_node, put_words}
use Rattle.tree_forest.specs.Places.{siblings_of}
use Rattle.tree_forest.proofs.LawNodes.{parent_is}
use Rattle.tree_forest.proofs.LawTexts.{new_text, new_text_after, text_more}
use Rattle.tree_forest.proofs.MovedNodes.{said_kept}
use Rattle.tree_forest.proofs.Nodes.{kept, size_changed}
use Rattle.tree_forest.proofs.ParentChanges.{child_of_parent}
use Rattle.html_render_dom.proofs.LinkChanges.{down, linked_same}
use Rattle.html_render_dom.proofs.LinkedNodes.{linked_at}
use Rattle.html_render_dom.specs.Links.{AreLinks, IsLinked}
use Rattle.html_render_dom.specs.Nodes.{forest_of, is_some_text, links_of}
use Rattle.html_render_dom.specs.Siblings.{Links, link_at}
use Rattle.html_render_dom.specs.Numbers.{number_of}
use Rattle.html_render_dom.specs.declared.node.Handle.{Handle}
use Rattle.html_render_dom.specs.declared.nodes.Nodes.{Nodes}

same_some : {n m : ℕ} → Some n ≡ Some m → n ≡ m
same_some e = cc

has_characters : (bytes : List ℕ) → false ≡ (length bytes == 0) → IsUtf8 bytes → chars bytes ≡ [] → ⊥
has_characters bytes some utf8 is =
    let more : 0 < length (chars bytes) = some_chars bytes utf8 (sym some) in
    let none : length (chars bytes) ≡ 0 = ap length is in omega arith

-- the parent that is noted is the parent
parent_noted : (s : ℕ) (f : Forest) (links : Links) (o : Option ℕ) → IsForest f → AreLinks f links →
    link_at s links.parent ≡ o → parent_of s f ≡ o
parent_noted s f links (Some p) forest linked e = parent_is s p f forest (linked.up s p e)
parent_noted s f links None forest linked e = none (parent_of s f) refl where
  none : (o : Option ℕ) → parent_of s f ≡ o → parent_of s f ≡ None
  none None is = is
  none (Some p) is = absurd (let down : link_at s links.parent ≡ Some p = down f links s p linked
      (child_of_parent s p f is) in cc)

with_parent : (s p : ℕ) (f : Forest) → parent_of s f ≡ Some p →
    one_before s (children_at p f) ≡ one_before s (siblings_of s f)
with_parent s p f e = rw e

without_parent : (s : ℕ) (f : Forest) → parent_of s f ≡ None → None ≡ one_before s (siblings_of s f)
without_parent s f e = rw e

pub before_some : (held : Nodes) (s p : ℕ) → IsLinked held → Some p ≡ link_at s (links_of held).parent →
    one_before s (children_at p (forest_of held)) ≡ one_before s (siblings_of s (forest_of held))
before_some held s p linked e = with_parent s p (forest_of held)
    (parent_noted s (forest_of held) (links_of held) (Some p) linked.forest linked.links (sym e))

pub before_none : (held : Nodes) (s : ℕ) → IsLinked held → None ≡ link_at s (links_of held).parent →
    None ≡ one_before s (siblings_of s (forest_of held))
before_none held s linked e = without_parent s (forest_of held)
    (parent_noted s (forest_of held) (links_of held) None linked.forest linked.links (sym e))

-- a text says more, or nothing changes
said_or_same : {E : Type 0} (r : Result Bool E) (g said f : Forest) → IfOk r (λ is. is ≡ true → g ≡ said) →
    IfOk r (λ is. is ≡ false → g ≡ f) → OnErr r (g ≡ f) → (g ≡ said) ⊎ (g ≡ f)
said_or_same (Ok true) g said f more other err = inl (more refl)
said_or_same (Ok false) g said f more other err = inr (other refl)
said_or_same (Err e) g said f more other err = inr err

pub said_linked : {E : Type 0} (r : Result Bool E) (held old : Nodes) (n : ℕ) (cs : List ℕ) → IsLinked old →
    IfOk r (λ is. is ≡ true → forest_of held ≡ changed n (saying cs) (forest_of old)) →
    IfOk r (λ is. is ≡ false → forest_of held ≡ forest_of old) → OnErr r (forest_of held ≡ forest_of old) →
    links_of held ≡ links_of old → IsLinked held
said_linked r held old n cs linked more other err links =
    either (said_or_same r (forest_of held) (changed n (saying cs) (forest_of old)) (forest_of old) more other err)
  where
    either : (forest_of held ≡ changed n (saying cs) (forest_of old)) ⊎ (forest_of held
        ≡ forest_of old) → IsLinked held
    either (inl said) = linked_at held (changed n (saying cs) (forest_of old)) (links_of old) said links
        (said_kept n cs (forest_of old) linked.forest)
        (linked_same (forest_of old) (changed n (saying cs) (forest_of old)) (links_of old) linked.links
        (size_changed n (saying cs) (forest_of old))
        (λ q. kept (λ x. x.children) (saying cs) n q (forest_of old) (λ x. refl)))
    either (inr same) = linked_at held (forest_of old) (links_of old) same links linked.forest linked.links

-- the node right before a place is there
last_in : (ns : List ℕ) (n : ℕ) → last_of ns ≡ Some n → IsIn n ns
last_in [] n e = absurd (cc)
last_in (m ∷ []) n e = inl (sym (same_some e))
last_in (m ∷ k ∷ ns) n e = inr (last_in (k ∷ ns) n e)

one_before_in : (ns : List ℕ) (s n : ℕ) → one_before s ns ≡ Some n → IsIn n ns
one_before_in [] s n e = absurd (cc)
one_before_in (m ∷ []) s n e = absurd (cc)
one_before_in (m ∷ k ∷ ns) s n e = chosen (k == s) refl (λ h. one_before_in (k ∷ ns) s n h) where
  chosen : (b : Bool) → (k == s) ≡ b → (one_before s (k ∷ ns) ≡ Some n → IsIn n (k ∷ ns)) → IsIn n (m ∷ k ∷ ns)
  chosen true is later = inl (sym (same_some (sym (cond-true (k == s) _ _ is) ∙ e)))
  chosen false is later = inr (later (sym (cond-false (k == s) _ _ is) ∙ e))

sibling_held : (s n : ℕ) (f : Forest) (o : Option ℕ) → IsForest f → parent_of s f ≡ o →
    one_before s (siblings_of s f) ≡ Some n → Holds n f
sibling_held s n f (Some p) forest is e =
    forest.within p n (of_child p n (one_before_in (children_at p f) s n (with_parent s p f is ∙ e)))
sibling_held s n f None forest is e = absurd (let none : None ≡ Some n = without_parent s f is ∙ e in cc)

neighbour_held : (place : Place) (n : ℕ) (f : Forest) → IsForest f → neighbour place f ≡ Some n → Holds n f
neighbour_held (below p) n f forest e = forest.within p n (of_child p n (last_in (children_at p f) n e))
neighbour_held (before s) n f forest e = sibling_held s n f (parent_of s f) forest refl e

pub neighbour_holds : (place : Place) (o : Option Handle) (f : Forest) → IsForest f →
    option_map number_of o ≡ neighbour place f → IfSome o (λ n. Holds (number_of n) f)
neighbour_holds place None f forest e = tt
neighbour_holds place (Some h) f forest e = neighbour_held place (number_of h) f forest (sym e)

-- no characters, characters of a text that is there, and of a new one
pub says_nothing : (place : Place) (bytes words : List ℕ) (f : Forest) → true ≡ (length bytes == 0) →
    chars bytes ≡ words → f ≡ put_words place words f
says_nothing place bytes words f empty is =
    ap (λ cs. put_words place cs f) (sym (no_chars bytes (eqb-true (length bytes) 0 (sym empty))) ∙ is)

joined : (place : Place) (n c : ℕ) (cs : List ℕ) (f : Forest) (said : Option (List ℕ)) → neighbour place f ≡ Some n →
    text_of (kind_at n f) ≡ said → is_some said ≡ true → changed n (saying (c ∷ cs)) f ≡ put_words place (c ∷ cs) f
joined place n c cs f (Some said) e is some = sym (text_more place c cs said n f e is)
joined place n c cs f None e is some = absurd (cc)

put_at : (place : Place) (c : ℕ) (cs : List ℕ) (f : Forest) (o : Option Handle) →
    option_map number_of o ≡ neighbour place f → is_some_text o f ≡ false →
    put_node place (nodes f) (made (text (c ∷ cs)) f) ≡ put_words place (c ∷ cs) f
put_at place c cs f None e none = sym (new_text place c cs f (sym e))
put_at place c cs f (Some h) e none = trailing (text_of (kind_at (number_of h) f)) refl none where
  trailing : (said : Option (List ℕ)) → text_of (kind_at (number_of h) f) ≡ said → is_some said ≡ false →
      put_node place (nodes f) (made (text (c ∷ cs)) f) ≡ put_words place (c ∷ cs) f
  trailing None is none = sym (new_text_after place c cs (number_of h) f (sym e) is)
  trailing (Some said) is none = absurd (cc)

pub says_more : (place : Place) (bytes words spoken : List ℕ) (o : Option Handle) (f g : Forest) →
    false ≡ (length bytes == 0) → IsUtf8 bytes → chars bytes ≡ words → option_map number_of o ≡ neighbour place f →
    is_some_text o f ≡ true → spoken ≡ words → IfSome o (λ n. g ≡ changed (number_of n) (saying spoken) f) →
    g ≡ put_words place words f
says_more place bytes [] spoken o f g some utf8 is e more all said = absurd (has_characters bytes some utf8 is)
says_more place bytes (c ∷ cs) spoken None f g some utf8 is e more all said = absurd (cc)
says_more place bytes (c ∷ cs) spoken (Some h) f g some utf8 is e more all said = said
    ∙ ap (λ v. changed (number_of h) (saying v) f) all
    ∙ joined place (number_of h) c cs f (text_of (kind_at (number_of h) f)) (sym e) refl more

pub says_new : (place : Place) (bytes words : List ℕ) (o : Option Handle) (f g : Forest) →
    false ≡ (length bytes == 0) → IsUtf8 bytes → chars bytes ≡ words → option_map number_of o ≡ neighbour place f →
    is_some_text o f ≡ false → g ≡ f → put_node place (nodes g) (made (text words) g) ≡ put_words place words f
says_new place bytes [] o f g some utf8 is e none same = absurd (has_characters bytes some utf8 is)
says_new place bytes (c ∷ cs) o f g some utf8 is e none same =
    ap (λ h. put_node place (nodes h) (made (text (c ∷ cs)) h)) same ∙ put_at place c cs f o e none

-- what was made may be put
pub can_at : (place : Place) (n m : ℕ) (f g : Forest) → m ≡ n → g ≡ f → CanPut place (node n) f →
    CanPut place (node m) g
can_at place n m f g number forest can =
    subst (λ h. CanPut place (node m) h) (sym forest) (subst (λ k. CanPut place (node k) f) (sym number) can)
