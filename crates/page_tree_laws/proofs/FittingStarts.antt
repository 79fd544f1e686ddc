-- Start tags in the body: their rows fit (WHATWG HTML, 13.2.6.4.7). A clause on any other group is checked group by
-- group.
use Rattle.std.proofs.Common.{◌≡◌, ℕ, Bool, true, false, if◌then◌else◌, List, [], ◌∷◌, Option, None, Some, codes, refl}
use Rattle.tree_formatting.specs.Entries.{last_named}
use Rattle.html_lexemes.specs.declared.token.Tag.{Tag}
use Rattle.tree_forest.specs.Forest.{Holds, nodes}
use Rattle.html_tree_state.specs.Building.{Building}
use Rattle.html_tree_state.specs.Formatting.{name_for}
use Rattle.html_tree_state.specs.Scopes.{implied, is_in_scope, popped_to}
use Rattle.tree_names.specs.ElementSets.{button_scope_barriers, heading_names, scope_barriers}
use Rattle.tree_names.specs.Sets.{html_elements, is_one_of}
use Rattle.tree_names.specs.TagSets.{definitions}
use Rattle.tree_names.specs.Wanted.{one}
use Rattle.page_tree_laws.proofs.Fits.{CanGoOn, FitAll, Fits, FitsRow, IsHeld}
use Rattle.page_tree_laws.proofs.FittingCases.{all_if, fit_append, fits_if}
use Rattle.page_tree_laws.proofs.FittingHeads.{Grants, head_start_fits, html_fits}
use Rattle.page_tree_laws.proofs.FittingSteps.{RowFacts, above_base, group_unbarred, new_free, pops_after, stops_above}
use Rattle.page_tree_laws.proofs.GroupNames.{all_pass, fails, no_base_name, unimplied_words}
use Rattle.page_tree_laws.proofs.Guards.{Guard, HasFree, IsFree, IsKept, base_names, is_barred}
use Rattle.tree_names.specs.Groups.{tag_group}
use Rattle.tree_names.specs.declared.group.TagGroup.{TagGroup}
use Rattle.tree_names.specs.declared.group.TagGroup.TheVariants as groups
use Rattle.rules_table.specs.Actions.{act, at_place, close_p, insert, insert_void, keep_form, pop_to, reconstruct}
use Rattle.rules_table.specs.Actions.{refuse_frameset}
use Rattle.rules_table.specs.Asking.{body_of, has_form, has_template, in_scope, is_quirky}
use Rattle.rules_table.specs.InBody.{in_body_start}
use Rattle.rules_table.specs.InBodyBlocks.{body_start, form_start, given_to_body, in_place_of_body, none}
use Rattle.rules_table.specs.InBodyPhrases.{anchor_after, input_start, select_closed, unless_hidden}
use Rattle.rules_table.specs.Rows.{Row, ignored}
use Rattle.rules_table.specs.State.{State}
use Rattle.tree_predicates.specs.Attributes.{is_hidden}

-- "body" adds attributes alone, and a frameset that may not come is ignored
body_given : (g : Guard) (s : State) (body : Option ℕ) (t : Tag) → FitsRow g s (given_to_body body t)
body_given g s None t = tt
body_given g s (Some n) t = (tt, (tt, tt))

body_tag_fits : (g : Guard) (t : Tag) (s : State) → FitsRow g s (body_start t s)
body_tag_fits g t s = fits_if g s (has_template s) ignored (given_to_body (body_of s) t) (λ e. tt)
    (λ e. body_given g s (body_of s) t)

frameset_ignored : (g : Guard) (s : State) (b : Bool) (x : Row) → b ≡ false → FitsRow g s (if b then x else ignored)
frameset_ignored g s true x e = absurd (let k : true ≡ false = e in cc)
frameset_ignored g s false x e = tt

-- a form that is inserted is the current node, and free
forest_by : (g : Guard) (b : Bool) (x y : Building) → IsFree g (nodes x.forest) → IsFree g (nodes y.forest) →
    IsFree g (nodes (if b then x else y).forest)
forest_by g true x y f h = f
forest_by g false x y f h = h

form_kept : (g : Guard) (t : Tag) (s : State) → ((n : ℕ) → IsKept g n → Holds n s.tree.forest) →
    Fits g keep_form (act (insert at_place t) (act close_p s))
unfolding act
form_kept g t s held = let free : IsFree g (nodes s.tree.forest) = new_free g s.tree.forest held in
    forest_by g (is_in_scope button_scope_barriers (one (codes "p")) s.tree)
    (popped_to (one (codes "p")) (implied (one (codes "p")) s.tree)) s.tree free free

form_fits : (g : Guard) (t : Tag) (s : State) → is_barred g (name_for t) ≡ false → IsHeld g s →
    FitsRow g s (form_start t s)
form_fits g t s free held = fits_if g s (has_form s) _ _ (λ e. tt)
    (λ e. fits_if g s (has_template s) _ _ (λ f. (tt, (free, tt)))
    (λ f. (tt, (free, (form_kept g t s held.tree.nodes.held, tt)))))

-- one of some words is closed, where it is in scope
pub scope_free : (g : Guard) → RowFacts g → (words : List (List ℕ)) (s : State) → IsHeld g s →
    all_pass (fails (is_one_of base_names)) words ≡ true → in_scope (html_elements words) s ≡ true →
    HasFree g (html_elements words) s.tree.forest s.tree.stack
scope_free g facts words s held all is = facts.stack.scope_has_free scope_barriers (html_elements words) s.tree
    held.tree (above_base g facts words all) is

-- "a": one that is listed is closed and taken off
anchor_fits : (g : Guard) → RowFacts g → (t : Tag) (s : State) (found : Option ℕ) →
    last_named t.name s.tree.formatting ≡ found → tag_group t.name ≡ groups.Anchor → IsHeld g s →
    FitsRow g s (anchor_after found t)
anchor_fits g facts t s None e own held = (tt, (group_unbarred g facts t groups.Anchor own refl, tt))
anchor_fits g facts t s (Some n) e own held = (
  stops_above g facts t.name (no_base_name t.name groups.Anchor own refl),
  (
    tt,
    (
      facts.stack.listed_is_free t.name n s.tree held.tree e,
      (tt, (group_unbarred g facts t groups.Anchor own refl, tt)),
    ),
  ),
)

-- "input": an open select is closed
hidden_fits : (g : Guard) (t : Tag) (s : State) → FitAll g (unless_hidden t) s
hidden_fits g t s = all_if g s (is_hidden t.attrs) [] (refuse_frameset ∷ []) (λ e. tt) (λ e. (tt, tt))

input_fits : (g : Guard) → RowFacts g → (t : Tag) (s : State) → IsHeld g s → FitsRow g s (input_start t s)
input_fits g facts t s held = fit_append g (select_closed s) (reconstruct ∷ insert_void at_place t ∷ unless_hidden t) s
    (all_if g s (in_scope (one (codes "select")) s) (pop_to (one (codes "select")) ∷ []) []
    (λ e. (scope_free g facts (codes "select" ∷ []) s held refl e, tt)) (λ e. tt))
    (λ d. (tt, (tt, hidden_fits g t _)))

-- a start tag in the body
pub body_start_fits : (g : Guard) → RowFacts g → (group : TagGroup) (t : Tag) (s : State) →
    tag_group t.name ≡ group → CanGoOn g s → Grants g s group → FitsRow g s (in_body_start group t s)
body_start_fits g facts groups.Html t s e can grant = html_fits g t s
body_start_fits g facts groups.Base t s e can grant = head_start_fits g facts at_place groups.Base t s e refl grant
body_start_fits g facts groups.Link t s e can grant = head_start_fits g facts at_place groups.Link t s e refl grant
body_start_fits g facts groups.Meta t s e can grant = head_start_fits g facts at_place groups.Meta t s e refl grant
body_start_fits g facts groups.Noframes t s e can grant =
    head_start_fits g facts at_place groups.Noframes t s e refl grant
body_start_fits g facts groups.Script t s e can grant =
    head_start_fits g facts at_place groups.Script t s e refl grant
body_start_fits g facts groups.Style t s e can grant = head_start_fits g facts at_place groups.Style t s e refl grant
body_start_fits g facts groups.Template t s e can grant =
    head_start_fits g facts at_place groups.Template t s e refl grant
body_start_fits g facts groups.Title t s e can grant = head_start_fits g facts at_place groups.Title t s e refl grant
body_start_fits g facts groups.Body t s e can grant = body_tag_fits g t s
body_start_fits g facts groups.Frameset t s e can grant =
    frameset_ignored g s s.frameset_ok (in_place_of_body (body_of s) t) grant
body_start_fits g facts groups.Block t s e can grant = (tt, (group_unbarred g facts t groups.Block e refl, tt))
body_start_fits g facts groups.Paragraph t s e can grant =
    (tt, (group_unbarred g facts t groups.Paragraph e refl, tt))
body_start_fits g facts groups.Heading t s e can grant = (
  tt,
  (
    above_base g facts heading_names refl,
    (group_unbarred g facts t groups.Heading e refl, tt),
  ),
)
body_start_fits g facts groups.Preformatted t s e can grant =
    (tt, (group_unbarred g facts t groups.Preformatted e refl, (tt, (tt, tt))))
body_start_fits g facts groups.Form t s e can grant =
    form_fits g t s (group_unbarred g facts t groups.Form e refl) can.held
body_start_fits g facts groups.ListItem t s e can grant = (
  tt,
  (
    above_base g facts (codes "li" ∷ []) refl,
    (tt, (group_unbarred g facts t groups.ListItem e refl, tt)),
  ),
)
body_start_fits g facts groups.Definition t s e can grant = (
  tt,
  (
    above_base g facts definitions refl,
    (tt, (group_unbarred g facts t groups.Definition e refl, tt)),
  ),
)
body_start_fits g facts groups.Plaintext t s e can grant =
    ((tt, (group_unbarred g facts t groups.Plaintext e refl, tt)), tt)
body_start_fits g facts groups.Button t s e can grant =
    let free : is_barred g (name_for t) ≡ false = group_unbarred g facts t groups.Button e refl in
    fits_if g s (in_scope (one (codes "button")) s) _ _
    (λ is. (
      tt,
      (
        pops_after g none (one (codes "button")) s (unimplied_words none (codes "button" ∷ []) refl)
            (scope_free g facts (codes "button" ∷ []) s can.held refl is),
        (tt, (free, (tt, tt))),
      ),
    ))
    (λ is. (tt, (free, (tt, tt))))
body_start_fits g facts groups.Table t s e can grant =
    let free : is_barred g (name_for t) ≡ false = group_unbarred g facts t groups.Table e refl in
    fits_if g s (is_quirky s.quirks) _ _ (λ is. (free, (tt, (grant, tt)))) (λ is. (tt, (free, (tt, (grant, tt)))))
body_start_fits g facts groups.Caption t s e can grant = tt
body_start_fits g facts groups.Cell t s e can grant = tt
body_start_fits g facts groups.Column t s e can grant = tt
body_start_fits g facts groups.ColumnGroup t s e can grant = tt
body_start_fits g facts groups.Frame t s e can grant = tt
body_start_fits g facts groups.Head t s e can grant = tt
body_start_fits g facts groups.Row t s e can grant = tt
body_start_fits g facts groups.Section t s e can grant = tt
body_start_fits g facts groups.Anchor t s e can grant =
    anchor_fits g facts t s (last_named t.name s.tree.formatting) refl e can.held
body_start_fits g facts groups.Formatting t s e can grant =
    (tt, (group_unbarred g facts t groups.Formatting e refl, tt))
body_start_fits g facts groups.NoBreak t s e can grant = (
  tt,
  (
    stops_above g facts t.name (no_base_name t.name groups.NoBreak e refl),
    (group_unbarred g facts t groups.NoBreak e refl, tt),
  ),
)
body_start_fits g facts groups.Marked t s e can grant =
    (tt, (group_unbarred g facts t groups.Marked e refl, (tt, (tt, tt))))
body_start_fits g facts groups.LineBreak t s e can grant = (tt, (tt, (tt, tt)))
body_start_fits g facts groups.VoidPhrase t s e can grant = (tt, (tt, (tt, tt)))
body_start_fits g facts groups.Input t s e can grant = input_fits g facts t s can.held
body_start_fits g facts groups.VoidSource t s e can grant = (tt, tt)
body_start_fits g facts groups.HorizontalRule t s e can grant = fits_if g s (in_scope (one (codes "select")) s) _ _
    (λ is. (tt, (tt, (tt, (tt, tt))))) (λ is. (tt, (tt, (tt, tt))))
body_start_fits g facts groups.Image t s e can grant = (tt, (tt, (tt, tt)))
body_start_fits g facts groups.Textarea t s e can grant =
    ((group_unbarred g facts t groups.Textarea e refl, (tt, (tt, tt))), refl)
body_start_fits g facts groups.Xmp t s e can grant =
    ((tt, (tt, (tt, (group_unbarred g facts t groups.Xmp e refl, tt)))), refl)
body_start_fits g facts groups.Iframe t s e can grant =
    ((tt, (group_unbarred g facts t groups.Iframe e refl, tt)), refl)
body_start_fits g facts groups.Noembed t s e can grant =
    ((group_unbarred g facts t groups.Noembed e refl, tt), refl)
body_start_fits g facts groups.Noscript t s e can grant =
    let free : is_barred g (name_for t) ≡ false = group_unbarred g facts t groups.Noscript e refl in
    fits_if g s s.options.scripting_enabled _ _ (λ is. ((free, tt), refl)) (λ is. (tt, (free, tt)))
body_start_fits g facts groups.Select t s e can grant = fits_if g s (in_scope (one (codes "select")) s) _ _
    (λ is. (scope_free g facts (codes "select" ∷ []) s can.held refl is, tt))
    (λ is. (tt, (group_unbarred g facts t groups.Select e refl, (tt, tt))))
body_start_fits g facts groups.OptionItem t s e can grant =
    let free : is_barred g (name_for t) ≡ false = group_unbarred g facts t groups.OptionItem e refl in
    fits_if g s (in_scope (one (codes "select")) s) _ _ (λ is. (tt, (tt, (free, tt))))
    (λ is. (above_base g facts (codes "option" ∷ []) refl, (tt, (free, tt))))
body_start_fits g facts groups.OptionGroup t s e can grant =
    let free : is_barred g (name_for t) ≡ false = group_unbarred g facts t groups.OptionGroup e refl in
    fits_if g s (in_scope (one (codes "select")) s) _ _ (λ is. (tt, (tt, (free, tt))))
    (λ is. (above_base g facts (codes "option" ∷ []) refl, (tt, (free, tt))))
body_start_fits g facts groups.RubyBase t s e can grant =
    let free : is_barred g (name_for t) ≡ false = group_unbarred g facts t groups.RubyBase e refl in
    fits_if g s (in_scope (one (codes "ruby")) s) _ _ (λ is. (tt, (free, tt))) (λ is. (free, tt))
body_start_fits g facts groups.RubyText t s e can grant =
    let free : is_barred g (name_for t) ≡ false = group_unbarred g facts t groups.RubyText e refl in
    fits_if g s (in_scope (one (codes "ruby")) s) _ _ (λ is. (tt, (free, tt))) (λ is. (free, tt))
body_start_fits g facts groups.Math t s e can grant = (tt, (refl, tt))
body_start_fits g facts groups.Svg t s e can grant = (tt, (refl, tt))
body_start_fits g facts group t s e can grant = (tt, (group_unbarred g facts t group e refl, tt))
