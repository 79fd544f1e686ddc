-- Start tags that are taken as in the head, the start tag "html", and the end of a template (WHATWG HTML, 13.2.6.4.4).
use Rattle.std.proofs.Common.{◌≡◌, ℕ, Bool, true, false, List, [], ◌∷◌, Option, None, Some, codes, refl}
use Rattle.html_lexemes.specs.declared.token.Tag.{Tag}
use Rattle.rules_table.specs.Encodings.{named_encoding}
use Rattle.tree_names.specs.Sets.{html_elements, is_one_of}
use Rattle.tree_names.specs.Wanted.{one}
use Rattle.page_tree_laws.proofs.Fits.{CanBuild, ClosesTemplate, FitAll, Fits, FitsRow, MayReset}
use Rattle.page_tree_laws.proofs.FittingCases.{fits_if, insert_fits, void_fits}
use Rattle.page_tree_laws.proofs.FittingSteps.{RowFacts, group_unbarred, pops_after, word_unbarred}
use Rattle.page_tree_laws.proofs.GroupNames.{template_named, unimplied_words}
use Rattle.page_tree_laws.proofs.Guards.{Guard}
use Rattle.tree_names.specs.Groups.{tag_group}
use Rattle.tree_names.specs.declared.group.TagGroup.{TagGroup}
use Rattle.tree_names.specs.declared.group.TagGroup.TheVariants as groups
use Rattle.rules_table.specs.Actions.{Action, act, clear_to_marker, imply_but, insert_void, later_modes}
use Rattle.rules_table.specs.Actions.{pop_template_mode, pop_to, reset}
use Rattle.rules_table.specs.Asking.{first_opened, has_template}
use Rattle.rules_table.specs.HtmlTag.{given_to, html_start}
use Rattle.rules_table.specs.InBody.{in_template_end_of_file}
use Rattle.rules_table.specs.InHead.{asks_encoding, in_head_start, template_end}
use Rattle.rules_table.specs.Rows.{ignored}
use Rattle.rules_table.specs.State.{State}
use Rattle.rules_table.specs.declared.target.Target.{Target}
use Rattle.tree_predicates.specs.declared.modes.InsertionMode.TheVariants as modes

-- What some groups ask beside: a table and a template may be built, and no frameset may come.
abbrev pub Grants : Guard → State → TagGroup → Type 0
Grants g s groups.Table = g.allows modes.InTable ≡ true
Grants g s groups.Template = (is_one_of g.barred (codes "template") ≡ false) × (g.allows modes.InTemplate ≡ true)
Grants g s groups.Frameset = s.frameset_ok ≡ false
Grants g s _ = Unit {0}

pub grants : (g : Guard) (s : State) (group : TagGroup) → is_one_of g.barred (codes "template") ≡ false →
    CanBuild g s → Grants g s group
grants g s groups.Table free can = can.tables.in_table
grants g s groups.Template free can = (free, can.tables.in_template)
grants g s groups.Frameset free can = can.unframed
grants g s group free can = tt

-- the start tag "html"
given_fits : (g : Guard) (s : State) (root : Option ℕ) (t : Tag) → FitsRow g s (given_to root t)
given_fits g s None t = tt
given_fits g s (Some n) t = (tt, tt)

pub html_fits : (g : Guard) (t : Tag) (s : State) → FitsRow g s (html_start t s)
html_fits g t s = fits_if g s (has_template s) ignored (given_to (first_opened s.tree.stack) t) (λ e. tt)
    (λ e. given_fits g s (first_opened s.tree.stack) t)

encoding_fits : (g : Guard) (s : State) (name : Option (List ℕ)) (actions : List Action) → FitAll g actions s →
    FitsRow g s (asks_encoding name actions)
encoding_fits g s None actions fit = fit
encoding_fits g s (Some name) actions fit = (fit, tt)

-- what is taken as in the head, wherever it is put
abbrev pub is_head_part : TagGroup → Bool
is_head_part groups.Base = true
is_head_part groups.Link = true
is_head_part groups.Meta = true
is_head_part groups.Noframes = true
is_head_part groups.Script = true
is_head_part groups.Style = true
is_head_part groups.Template = true
is_head_part groups.Title = true
is_head_part _ = false

pub none : {A : Type 0} → false ≡ true → A
none e = absurd (cc)

pub head_start_fits : (g : Guard) → RowFacts g → (at : Target) (group : TagGroup) (t : Tag) (s : State) →
    tag_group t.name ≡ group → is_head_part group ≡ true → Grants g s group → FitsRow g s (in_head_start at group t s)
head_start_fits g facts at groups.Base t s e part grant = (void_fits g at t s, tt)
head_start_fits g facts at groups.Link t s e part grant = (void_fits g at t s, tt)
head_start_fits g facts at groups.Meta t s e part grant =
    encoding_fits g s (named_encoding t.attrs) (insert_void at t ∷ []) (void_fits g at t s, tt)
head_start_fits g facts at groups.Noframes t s e part grant =
    ((insert_fits g at t s (group_unbarred g facts t groups.Noframes e refl), tt), refl)
head_start_fits g facts at groups.Script t s e part grant =
    ((insert_fits g at t s (group_unbarred g facts t groups.Script e refl), tt), refl)
head_start_fits g facts at groups.Style t s e part grant =
    ((insert_fits g at t s (group_unbarred g facts t groups.Style e refl), tt), refl)
head_start_fits g facts at groups.Template t s e part grant = (
  insert_fits g at t s (word_unbarred g t (codes "template") (template_named t.name e) grant.0),
  (tt, (tt, (grant.1, (grant.1, tt)))),
)
head_start_fits g facts at groups.Title t s e part grant =
    ((insert_fits g at t s (group_unbarred g facts t groups.Title e refl), tt), refl)
head_start_fits g facts at group t s e part grant = none part

-- a template that is open is closed by its end tag, or by the end of the page
template_resets : (g : Guard) (s : State) → MayReset g (later_modes s.template_modes) → Fits g reset
    (act pop_template_mode (act clear_to_marker (act (pop_to (one (codes "template")))
    (act (imply_but (html_elements [])) s))))
unfolding act
template_resets g s may = may

pub template_fits : (g : Guard) (s : State) → ClosesTemplate g s → FitsRow g s (template_end s)
template_fits g s close = fits_if g s (has_template s) _ ignored
    (λ e. (
      tt,
      (
        pops_after g (html_elements []) (one (codes "template")) s
            (unimplied_words (html_elements []) (codes "template" ∷ []) refl) (close e).0,
        (tt, (tt, (template_resets g s (close e).1, tt))),
      ),
    )) (λ e. tt)

file_resets : (g : Guard) (s : State) → MayReset g (later_modes s.template_modes) →
    Fits g reset (act pop_template_mode (act clear_to_marker (act (pop_to (one (codes "template"))) s)))
unfolding act
file_resets g s may = may

pub file_end_fits : (g : Guard) (s : State) → ClosesTemplate g s → FitsRow g s (in_template_end_of_file s)
file_end_fits g s close = fits_if g s (has_template s) _ ignored
    (λ e. ((close e).0, (tt, (tt, (file_resets g s (close e).1, tt))))) (λ e. tt)
