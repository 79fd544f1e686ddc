-- End tags in the body: their rows fit (WHATWG HTML, 13.2.6.4.7). A clause on any other group is checked group by
-- group.
use Rattle.std.proofs.Common.{◌≡◌, ℕ, true, false, List, [], ◌∷◌, Option, None, Some, codes, refl, sym, subst}
use Rattle.html_lexemes.specs.declared.token.Tag.{Tag}
use Rattle.tree_names.specs.ElementSets.{heading_names, headings, implied_end_tags, list_item_scope_barriers}
use Rattle.tree_names.specs.Sets.{is_html, is_one_of}
use Rattle.tree_names.specs.Wanted.{one}
use Rattle.page_tree_laws.proofs.Fits.{CanGoOn, Closes, Fits, FitsRow, IsHeld}
use Rattle.page_tree_laws.proofs.FittingCases.{fits_if}
use Rattle.page_tree_laws.proofs.FittingHeads.{template_fits}
use Rattle.page_tree_laws.proofs.FittingStarts.{scope_free}
use Rattle.page_tree_laws.proofs.FittingSteps.{RowFacts, TopFacts, above_base, pops_after, stops_above, unbarred}
use Rattle.page_tree_laws.proofs.GroupNames.{IsUnimplied, all_pass, element_apart, excepted, fails, frameset_named}
use Rattle.page_tree_laws.proofs.GroupNames.{head_named, is_free_group, is_unimplied_group, no_base_name}
use Rattle.page_tree_laws.proofs.GroupNames.{no_implied_name, one_fails, unimplied_words}
use Rattle.page_tree_laws.proofs.Guards.{Guard, HasFree, StopsAbove, base_names}
use Rattle.tree_names.specs.Groups.{tag_group}
use Rattle.tree_names.specs.declared.group.TagGroup.{TagGroup}
use Rattle.tree_names.specs.declared.group.TagGroup.TheVariants as groups
use Rattle.rules_table.specs.Actions.{act, imply_but, pop_to}
use Rattle.rules_table.specs.Asking.{has_template, in_button_scope, in_list_item_scope, in_scope, is_itself_in_scope}
use Rattle.rules_table.specs.InBodyBlocks.{none}
use Rattle.rules_table.specs.InBodyEnds.{block_end, definition_end, form_end, form_pointer_end, in_body_end, p_end}
use Rattle.rules_table.specs.Rows.{ignored}
use Rattle.rules_table.specs.State.{State}

-- an element of a tag's name is closed, where it is in scope
own_free : (g : Guard) → RowFacts g → (t : Tag) (group : TagGroup) (s : State) → tag_group t.name ≡ group →
    is_free_group group ≡ true → IsHeld g s → in_scope (one t.name) s ≡ true →
    HasFree g (one t.name) s.tree.forest s.tree.stack
own_free g facts t group s e own held is = scope_free g facts (t.name ∷ []) s held
    (one_fails (is_one_of base_names) t.name (no_base_name t.name group e own)) is

own_unimplied : (t : Tag) (group : TagGroup) → tag_group t.name ≡ group → is_unimplied_group group ≡ true →
    IsUnimplied none (one t.name)
own_unimplied t group e own = unimplied_words none (t.name ∷ [])
    (one_fails (is_one_of implied_end_tags.html) t.name (no_implied_name t.name group e own))

pub own_closed : (g : Guard) → RowFacts g → (t : Tag) (group : TagGroup) (s : State) → tag_group t.name ≡ group →
    is_free_group group ≡ true → is_unimplied_group group ≡ true → HasFree g (one t.name) s.tree.forest s.tree.stack →
    Fits g (pop_to (one t.name)) (act (imply_but none) s)
own_closed g facts t group s e own implied has =
    pops_after g none (one t.name) s (own_unimplied t group e implied) has

block_fits : (g : Guard) → RowFacts g → (t : Tag) (group : TagGroup) (s : State) → tag_group t.name ≡ group →
    is_free_group group ≡ true → is_unimplied_group group ≡ true → IsHeld g s → FitsRow g s (block_end t s)
block_fits g facts t group s e own implied held = fits_if g s (in_scope (one t.name) s) _ ignored
    (λ is. (tt, (own_closed g facts t group s e own implied (own_free g facts t group s e own held is), tt))) (λ is. tt)

definition_fits : (g : Guard) → RowFacts g → (t : Tag) (s : State) → tag_group t.name ≡ groups.Definition →
    IsHeld g s → FitsRow g s (definition_end t s)
definition_fits g facts t s e held = fits_if g s (in_scope (one t.name) s) _ ignored
    (λ is. (
      tt,
      (
        pops_after g (one t.name) (one t.name) s (excepted (one t.name))
            (own_free g facts t groups.Definition s e refl held is),
        tt,
      ),
    )) (λ is. tt)

-- "form": by the form pointer, or within a template
pointer_fits : (g : Guard) (form : Option ℕ) (s : State) → s.form ≡ form → IsHeld g s →
    FitsRow g s (form_pointer_end form s)
pointer_fits g None s e held = tt
pointer_fits g (Some n) s e held = fits_if g s (is_itself_in_scope n s) _ _
    (λ is. (tt, (tt, (held.form n e, tt)))) (λ is. (tt, tt))

form_fits : (g : Guard) → RowFacts g → (s : State) → IsHeld g s → FitsRow g s (form_end s)
form_fits g facts s held = fits_if g s (has_template s) _ (form_pointer_end s.form s)
    (λ e. fits_if g s (in_scope (one (codes "form")) s) _ _
    (λ is. (
      tt,
      (
        pops_after g none (one (codes "form")) s (unimplied_words none (codes "form" ∷ []) refl)
            (scope_free g facts (codes "form" ∷ []) s held refl is),
        tt,
      ),
    )) (λ is. tt))
    (λ e. pointer_fits g s.form s refl held)

-- "head" and "frameset" don't close what is not to be closed
other_stops : (g : Guard) → RowFacts g → (name word : List ℕ) → name ≡ word →
    all_pass (fails (is_one_of (codes "html" ∷ []))) (word ∷ []) ≡ true →
    (g.is_open ≡ false → is_html word (g.title g.top) ≡ false) → StopsAbove g name
other_stops g facts name word e all top = subst (StopsAbove g) (sym e) (
  top,
  λ is. element_apart (word ∷ []) (codes "html" ∷ []) (g.title g.root) all facts.guard.root_titled,
)

-- "p": one is made where none is open
p_fits : (g : Guard) → RowFacts g → (s : State) → FitsRow g s (p_end s)
p_fits g facts s = fits_if g s (in_button_scope (one (codes "p")) s) _ _ (λ e. (tt, tt))
    (λ e. (unbarred g facts (codes "p") refl, (tt, tt)))

-- an end tag in the body
pub body_end_fits : (g : Guard) → RowFacts g → TopFacts g → (group : TagGroup) (t : Tag) (s : State) →
    tag_group t.name ≡ group → CanGoOn g s → Closes g s group → FitsRow g s (in_body_end group t s)
body_end_fits g facts top groups.Template t s e can close = template_fits g s close
body_end_fits g facts top groups.Body t s e can close =
    fits_if g s (in_scope (one (codes "body")) s) _ ignored (λ is. (can.ends is, tt)) (λ is. tt)
body_end_fits g facts top groups.Html t s e can close =
    fits_if g s (in_scope (one (codes "body")) s) _ ignored (λ is. (can.ends is, tt)) (λ is. tt)
body_end_fits g facts top groups.Block t s e can close = block_fits g facts t groups.Block s e refl refl can.held
body_end_fits g facts top groups.Button t s e can close = block_fits g facts t groups.Button s e refl refl can.held
body_end_fits g facts top groups.Preformatted t s e can close =
    block_fits g facts t groups.Preformatted s e refl refl can.held
body_end_fits g facts top groups.Select t s e can close = block_fits g facts t groups.Select s e refl refl can.held
body_end_fits g facts top groups.Form t s e can close = form_fits g facts s can.held
body_end_fits g facts top groups.Paragraph t s e can close = p_fits g facts s
body_end_fits g facts top groups.ListItem t s e can close = fits_if g s (in_list_item_scope (one (codes "li")) s) _
    ignored
    (λ is. (
      tt,
      (
        pops_after g (one (codes "li")) (one (codes "li")) s (excepted (one (codes "li")))
            (facts.stack.scope_has_free list_item_scope_barriers (one (codes "li")) s.tree can.held.tree
            (above_base g facts (codes "li" ∷ []) refl) is),
        tt,
      ),
    )) (λ is. tt)
body_end_fits g facts top groups.Definition t s e can close = definition_fits g facts t s e can.held
body_end_fits g facts top groups.Heading t s e can close = fits_if g s (in_scope headings s) _ ignored
    (λ is. (
      tt,
      (
        pops_after g none headings s (unimplied_words none heading_names refl)
            (scope_free g facts heading_names s can.held refl is),
        tt,
      ),
    )) (λ is. tt)
body_end_fits g facts top groups.Anchor t s e can close =
    (stops_above g facts t.name (no_base_name t.name groups.Anchor e refl), tt)
body_end_fits g facts top groups.Formatting t s e can close =
    (stops_above g facts t.name (no_base_name t.name groups.Formatting e refl), tt)
body_end_fits g facts top groups.NoBreak t s e can close =
    (stops_above g facts t.name (no_base_name t.name groups.NoBreak e refl), tt)
body_end_fits g facts top groups.Marked t s e can close = fits_if g s (in_scope (one t.name) s) _ ignored
    (λ is. (
      tt,
      (
        own_closed g facts t groups.Marked s e refl refl
            (own_free g facts t groups.Marked s e refl can.held is),
        (tt, tt),
      ),
    )) (λ is. tt)
body_end_fits g facts top groups.LineBreak t s e can close = (tt, (tt, (tt, tt)))
body_end_fits g facts top groups.Head t s e can close =
    (other_stops g facts t.name (codes "head") (head_named t.name e) refl top.no_head, tt)
body_end_fits g facts top groups.Frameset t s e can close =
    (other_stops g facts t.name (codes "frameset") (frameset_named t.name e) refl top.no_frameset, tt)
body_end_fits g facts top group t s e can close = (stops_above g facts t.name (no_base_name t.name group e refl), tt)
