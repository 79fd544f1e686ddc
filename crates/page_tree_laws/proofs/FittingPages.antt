-- Tags after the body and after the head, in pages of frames, and in text: their rows fit (WHATWG HTML, 13.2.6.4.6,
-- 13.2.6.4.8 and 13.2.6.4.17 to 13.2.6.4.21). A clause on any other group is checked group by group.
use Rattle.std.proofs.Common.{◌≡◌, ℕ, inl, inr, true, false, List, [], ◌∷◌, ap, codes, refl, sym, ◌∙◌}
use Rattle.html_lexemes.specs.declared.token.Tag.{Tag}
use Rattle.tree_names.specs.Sets.{is_one_of}
use Rattle.page_tree_laws.proofs.Fits.{CanBuild, CanGoOn, Closes, FitAll, FitsRow, IsHeld}
use Rattle.page_tree_laws.proofs.FittingCases.{fits_if}
use Rattle.page_tree_laws.proofs.FittingHeads.{head_start_fits, html_fits, template_fits}
use Rattle.page_tree_laws.proofs.FittingSteps.{BuildFacts, RowFacts, word_unbarred}
use Rattle.page_tree_laws.proofs.GroupNames.{body_named, frameset_named}
use Rattle.page_tree_laws.proofs.Guards.{Guard, HasFreeCurrent, IsGuard, IsStack, MayPop, bare, nearer, stands}
use Rattle.tree_names.specs.Groups.{tag_group}
use Rattle.tree_names.specs.declared.group.TagGroup.{TagGroup}
use Rattle.tree_names.specs.declared.group.TagGroup.TheVariants as groups
use Rattle.rules_table.specs.Actions.{act, at_place, go_back, into_head, is_known, is_of_text, pop}
use Rattle.rules_table.specs.AfterBody.{after_body_end, after_body_start}
use Rattle.rules_table.specs.AfterHead.{after_head_end, after_head_start, body_made}
use Rattle.rules_table.specs.Framesets.{after_frameset_end, after_frameset_start, frameset_closed, in_frameset_end}
use Rattle.rules_table.specs.Framesets.{in_frameset_start, is_frameset}
use Rattle.rules_table.specs.Rows.{ignored}
use Rattle.rules_table.specs.State.{State}
use Rattle.rules_table.specs.TextMode.{text_mode_end}
use Rattle.tree_predicates.specs.declared.modes.InsertionMode.TheVariants as modes

-- after the body
pub after_body_start_fits : (g : Guard) (group : TagGroup) (t : Tag) (s : State) → CanGoOn g s →
    FitsRow g s (after_body_start group t s)
after_body_start_fits g groups.Html t s can = html_fits g t s
after_body_start_fits g group t s can = (can.in_body, tt)

pub after_body_end_fits : (g : Guard) (group : TagGroup) (s : State) → CanGoOn g s →
    g.allows modes.AfterAfterBody ≡ true → FitsRow g s (after_body_end group s)
after_body_end_fits g groups.Html s can after = fits_if g s (is_known s.context) ignored _ (λ e. tt) (λ e. (after, tt))
after_body_end_fits g group s can after = (can.in_body, tt)

-- What is known after the head: the body is to be made, or a frameset.
pub record OpenFacts (g : Guard) : Type 0 where
  pub body : is_one_of g.barred (codes "body") ≡ false
  pub frameset : is_one_of g.barred (codes "frameset") ≡ false
  pub in_body : g.allows modes.InBody ≡ true
  pub in_frameset : g.allows modes.InFrameset ≡ true

pub body_made_fits : (g : Guard) (s : State) → OpenFacts g → FitAll g body_made s
body_made_fits g s known = (known.body, (known.in_body, tt))

pub after_head_start_fits : (g : Guard) → BuildFacts g → OpenFacts g → (group : TagGroup) (t : Tag) (s : State) →
    tag_group t.name ≡ group → CanBuild g s → FitsRow g s (after_head_start group t s)
after_head_start_fits g facts known groups.Html t s e can = html_fits g t s
after_head_start_fits g facts known groups.Body t s e can =
    (word_unbarred g t (codes "body") (body_named t.name e) known.body, (tt, (known.in_body, tt)))
after_head_start_fits g facts known groups.Frameset t s e can =
    (word_unbarred g t (codes "frameset") (frameset_named t.name e) known.frameset, (known.in_frameset, tt))
after_head_start_fits g facts known groups.Base t s e can =
    head_start_fits g facts.rows into_head groups.Base t s e refl tt
after_head_start_fits g facts known groups.Link t s e can =
    head_start_fits g facts.rows into_head groups.Link t s e refl tt
after_head_start_fits g facts known groups.Meta t s e can =
    head_start_fits g facts.rows into_head groups.Meta t s e refl tt
after_head_start_fits g facts known groups.Noframes t s e can =
    head_start_fits g facts.rows into_head groups.Noframes t s e refl tt
after_head_start_fits g facts known groups.Script t s e can =
    head_start_fits g facts.rows into_head groups.Script t s e refl tt
after_head_start_fits g facts known groups.Style t s e can =
    head_start_fits g facts.rows into_head groups.Style t s e refl tt
after_head_start_fits g facts known groups.Template t s e can =
    head_start_fits g facts.rows into_head groups.Template t s e refl (facts.template, can.tables.in_template)
after_head_start_fits g facts known groups.Title t s e can =
    head_start_fits g facts.rows into_head groups.Title t s e refl tt
after_head_start_fits g facts known groups.Head t s e can = tt
after_head_start_fits g facts known group t s e can = body_made_fits g s known

pub after_head_end_fits : (g : Guard) → OpenFacts g → (group : TagGroup) (s : State) → Closes g s group →
    FitsRow g s (after_head_end group s)
after_head_end_fits g known groups.Template s close = template_fits g s close
after_head_end_fits g known groups.Body s close = body_made_fits g s known
after_head_end_fits g known groups.Html s close = body_made_fits g s known
after_head_end_fits g known groups.LineBreak s close = body_made_fits g s known
after_head_end_fits g known group s close = tt

-- What is known in a page of frames: the guard is open, and framesets may come.
pub record FrameFacts (g : Guard) : Type 0 where
  pub is_open : g.is_open ≡ true
  pub frameset : is_one_of g.barred (codes "frameset") ≡ false
  pub after_frameset : g.allows modes.AfterFrameset ≡ true
  pub after_after_frameset : g.allows modes.AfterAfterFrameset ≡ true

pub in_frameset_start_fits : (g : Guard) → RowFacts g → FrameFacts g → (group : TagGroup) (t : Tag) (s : State) →
    tag_group t.name ≡ group → FitsRow g s (in_frameset_start group t s)
in_frameset_start_fits g facts known groups.Html t s e = html_fits g t s
in_frameset_start_fits g facts known groups.Frameset t s e =
    (word_unbarred g t (codes "frameset") (frameset_named t.name e) known.frameset, tt)
in_frameset_start_fits g facts known groups.Frame t s e = (tt, tt)
in_frameset_start_fits g facts known groups.Noframes t s e =
    head_start_fits g facts at_place groups.Noframes t s e refl tt
in_frameset_start_fits g facts known group t s e = tt

-- of two open elements or more the current one may be popped
may_pop : (g : Guard) → IsGuard g → g.is_open ≡ true → (n m : ℕ) (ns stack : List ℕ) → IsStack g stack →
    stack ≡ n ∷ m ∷ ns → MayPop g stack
may_pop g guard is n m ns _ stands e = inr (is, refl)
may_pop g guard is n m ns _ (bare on) e = absurd (
    let alone : g.lowest ≡ g.root ∷ [] = guard.root_lowest is in
    let k : g.root ∷ [] ≡ n ∷ m ∷ ns = sym alone ∙ e in cc)
may_pop g guard is n m ns _ (nearer k ks free below) e = inl free

closed_fits : (g : Guard) → RowFacts g → FrameFacts g → (s : State) (ns : List ℕ) → s.tree.stack ≡ ns → IsHeld g s →
    FitsRow g s (frameset_closed ns s)
closed_fits g facts known s [] e held = tt
closed_fits g facts known s (n ∷ []) e held = tt
closed_fits g facts known s (n ∷ m ∷ ns) e held =
    let pops : MayPop g s.tree.stack =
    may_pop g facts.guard known.is_open n m ns s.tree.stack held.tree.standing e in
    fits_if g s (is_known s.context) _ _ (λ is. (pops, tt))
    (λ is. fits_if g s (is_frameset (m ∷ ns) s) _ _ (λ inner. (pops, tt))
    (λ inner. (pops, (known.after_frameset, tt))))

pub in_frameset_end_fits : (g : Guard) → RowFacts g → FrameFacts g → (group : TagGroup) (s : State) → IsHeld g s →
    FitsRow g s (in_frameset_end group s)
in_frameset_end_fits g facts known groups.Frameset s held =
    closed_fits g facts known s s.tree.stack refl held
in_frameset_end_fits g facts known group s held = tt

pub after_frameset_start_fits : (g : Guard) → RowFacts g → (group : TagGroup) (t : Tag) (s : State) →
    tag_group t.name ≡ group → FitsRow g s (after_frameset_start group t s)
after_frameset_start_fits g facts groups.Html t s e = html_fits g t s
after_frameset_start_fits g facts groups.Noframes t s e =
    head_start_fits g facts at_place groups.Noframes t s e refl tt
after_frameset_start_fits g facts group t s e = tt

pub after_frameset_end_fits : (g : Guard) → FrameFacts g → (group : TagGroup) (s : State) →
    FitsRow g s (after_frameset_end group)
after_frameset_end_fits g known groups.Html s = (known.after_after_frameset, tt)
after_frameset_end_fits g known group s = tt

-- an element's text ends where the element is the current node, and free
current_pops : (g : Guard) (ns : List ℕ) → HasFreeCurrent g ns → MayPop g ns
current_pops g [] free = free
current_pops g (n ∷ ns) free = inl free

pub text_left_fits : (g : Guard) (s : State) → HasFreeCurrent g s.tree.stack → s.mode ≡ modes.Text →
    FitAll g (pop ∷ go_back ∷ []) s
unfolding act
text_left_fits g s free at = (current_pops g s.tree.stack free, (ap is_of_text at, tt))

pub text_end_fits : (g : Guard) (group : TagGroup) (s : State) → HasFreeCurrent g s.tree.stack →
    s.mode ≡ modes.Text → FitsRow g s (text_mode_end group s)
text_end_fits g groups.Script s free at = (text_left_fits g s free at, tt)
text_end_fits g group s free at = text_left_fits g s free at
