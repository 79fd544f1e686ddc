-- What the items of a page come to; and after its end the skeleton stands.
use Rattle.std.proofs.Common.{◌≡◌, ◌<◌, ◌==◌, ◌&&◌, if◌then◌else◌, [], ◌∷◌, ◌++◌, ◌∙◌, ◌⊎◌, ◌≤◌, Bool, List, None, Some}
use Rattle.std.proofs.Common.{ap, arith, codes, false, fold, inl, inr, length, refl, subst, suc, sym, true, zero, ℕ}
use Rattle.token_grammar.specs.Items.{Item, tag}
use Rattle.token_grammar.specs.Items as items
use Rattle.token_grammar.specs.Reading.{Reading, ends, goes, tags}
use Rattle.token_grammar.specs.declared.modes.Mode.{Mode}
use Rattle.lex_base.specs.References.{References}
use Rattle.html_lexemes.specs.declared.token.Tag.{Tag}
use Rattle.html_lexemes.specs.declared.token.TagKind.{TagKind}
use Rattle.html_lexemes.specs.declared.token.TagKind.TheVariants.{EndTag, StartTag}
use Rattle.page_tree_laws.specs.KeptText.{IsAtBeginning}
use Rattle.page_tree_laws.specs.PageTexts.{items_of}
use Rattle.tree_names.specs.Sets.{html_elements, is_element_of, is_html}
use Rattle.page_tree_laws.proofs.Acting.{flags_held}
use Rattle.page_tree_laws.proofs.EarlyModes.{IsEmittedGroup, IsEmittedMark, closed}
use Rattle.page_tree_laws.proofs.EarlyPhases.{Comes, ComesTo}
use Rattle.page_tree_laws.proofs.EarlySteps.{kept_same, stack_on}
use Rattle.page_tree_laws.proofs.Forms.{IsFormed, all_formed}
use Rattle.page_tree_laws.proofs.GroupNames.{frameset_named}
use Rattle.page_tree_laws.proofs.GuardKinds.{AreApart, early_names, head_title, is_of_body, is_of_frames, root_title}
use Rattle.page_tree_laws.proofs.GuardKinds.{template_guard, third_title}
use Rattle.page_tree_laws.proofs.Guards.{Guard, HasFreeCurrent, IsKeptForest, base_names, may_stand}
use Rattle.page_tree_laws.proofs.PhaseRules.{IsOn, again_before, built_rule, entered_formed, entered_ready, is_again}
use Rattle.page_tree_laws.proofs.PhaseRules.{phase_rule, settled_on}
use Rattle.page_tree_laws.proofs.Phases.{IsBare, IsBuilt, IsPhase, body_open, body_to_come, built, doctype_to_come}
use Rattle.page_tree_laws.proofs.Phases.{going_on, head_guard, head_to_come, of_frames, root_guard, root_to_come}
use Rattle.page_tree_laws.proofs.Phases.{template_open}
use Rattle.page_tree_laws.proofs.Steady.{IsSteady}
use Rattle.page_tree_laws.specs.Skeleton.{EmitsNoFrames, HasSkeletonOfPage, IsSkeleton, bodies, child_elements}
use Rattle.page_tree_laws.specs.Skeleton.{is_unframed, is_unframed_name}
use Rattle.tree_names.specs.Groups.{tag_group}
use Rattle.tree_names.specs.declared.group.TagGroup.{TagGroup}
use Rattle.tree_names.specs.declared.group.TagGroup.TheVariants as groups
use Rattle.rules_table_laws.specs.Falls.{Falls}
use Rattle.page_tree_laws.proofs.PageReady.{ActionsKeep, Ready, of_page}
use Rattle.rules_table.specs.Actions.{act_all, in_html, is_text}
use Rattle.rules_table.specs.Rank.{rank}
use Rattle.rules_table.specs.Rows.{Row, again, asks, done}
use Rattle.rules_table.specs.Rule.{rule}
use Rattle.rules_table.specs.Settling.{Settled, given_by, mark_by, meaning, over, past_tag, step, taken}
use Rattle.rules_table.specs.Settling.{taken_character}
use Rattle.rules_table.specs.State.{TreeToken, State, character, end_of_file, null}
use Rattle.rules_table.specs.State as marks
use Rattle.tree_forest.specs.Forest.{Forest}
use Rattle.page_tree_laws.proofs.BodyPlanting.{third_guard}
use Rattle.page_tree_laws.proofs.GuardedForests.{KeptOn}
use Rattle.tree_predicates.specs.declared.modes.InsertionMode.{InsertionMode}
use Rattle.page_tree_laws.proofs.TemplateLists.{templates_in}

-- the laws that are cited: actions keep what is ready, the rank falls, and a mark comes to what its rule gives
pub record Facts : Type 0 where
  pub keep : ActionsKeep
  pub falls : (mark : TreeToken) (s : State) → Ready s → Falls mark s (rule mark s)
  pub comes : (mark : TreeToken) (s : State) → Ready s → taken mark s ≡ given_by (rule mark s) s (taken mark)

-- a state that is another one but for flags that no phase speaks of
record IsAlike (s t : State) : Type 0 where
  pub tree : t.tree ≡ s.tree
  pub mode : t.mode ≡ s.mode
  pub original : t.original ≡ s.original
  pub head : t.head ≡ s.head
  pub form : t.form ≡ s.form
  pub page : t.context ≡ s.context
  pub templates : t.template_modes ≡ s.template_modes
  pub ok : t.frameset_ok ≡ s.frameset_ok

bare_alike : (s t : State) → IsAlike s t → IsBare s → IsBare t
bare_alike s t alike bare = record {
  stack = ap (λ b. b.stack) alike.tree ∙ bare.stack;
  below_document = ap (λ b. child_elements 0 b.forest) alike.tree ∙ bare.below_document;
  formatting = ap (λ b. b.formatting) alike.tree ∙ bare.formatting;
  fostering = ap (λ b. b.fostering) alike.tree ∙ bare.fostering;
  head = alike.head ∙ bare.head;
  form = alike.form ∙ bare.form;
  templates = alike.templates ∙ bare.templates;
}

steady_alike : (g : Guard) (s t : State) → IsAlike s t → IsSteady g s → IsSteady g t
steady_alike g s t alike steady = record {
  held = flags_held g s t steady.held alike.tree alike.head alike.form alike.page alike.mode alike.original
      alike.templates;
  current = λ e. subst (λ b. HasFreeCurrent g b.stack) (sym alike.tree)
      (steady.current (ap is_text (sym alike.mode) ∙ e));
}

built_alike : (is_framed : Bool) (s t : State) → IsAlike s t → IsBuilt is_framed s → IsBuilt is_framed t
built_alike is_framed s t alike (body_open root head body apart steady) =
    body_open root head body apart (steady_alike _ s t alike steady)
built_alike is_framed s t alike (going_on root head body apart steady refused) =
    going_on root head body apart (steady_alike _ s t alike steady) (alike.ok ∙ refused)
built_alike is_framed s t alike (of_frames root head frameset apart framed steady) =
    of_frames root head frameset apart framed (steady_alike _ s t alike steady)

phase_alike : (is_framed : Bool) (s t : State) → IsAlike s t → IsPhase is_framed s → IsPhase is_framed t
phase_alike is_framed s t alike (doctype_to_come m bare) = doctype_to_come (alike.mode ∙ m) (bare_alike s t alike bare)
phase_alike is_framed s t alike (root_to_come m bare) = root_to_come (alike.mode ∙ m) (bare_alike s t alike bare)
phase_alike is_framed s t alike (head_to_come root is) = head_to_come root (record {
  made = is.made;
  mode = alike.mode ∙ is.mode;
  stack = ap (λ b. b.stack) alike.tree ∙ is.stack;
  nodes = subst (λ b. IsKeptForest (root_guard root) b.forest) (sym alike.tree) is.nodes;
  formatting = ap (λ b. b.formatting) alike.tree ∙ is.formatting;
  fostering = ap (λ b. b.fostering) alike.tree ∙ is.fostering;
  head = alike.head ∙ is.head;
  form = alike.form ∙ is.form;
  templates = alike.templates ∙ is.templates;
})
phase_alike is_framed s t alike (body_to_come root head early stack) = body_to_come root head
    (closed is_framed root head s t early (ap (λ b. b.forest) alike.tree) (ap (λ b. b.formatting) alike.tree) alike.head
    alike.form alike.templates alike.ok (ap (λ b. b.fostering) alike.tree))
    (stack_on root head s t (subst (λ b. KeptOn (head_guard root head) s.tree.forest b.forest) (sym alike.tree)
    (kept_same (head_guard root head) s.tree.forest early.nodes)) alike.mode alike.original
    (ap (λ b. b.stack) alike.tree) stack)
phase_alike is_framed s t alike (template_open in_head root head top apart steady refused counted) =
    template_open in_head root head top apart (steady_alike (template_guard in_head root head top) s t alike steady)
    (alike.ok ∙ refused)
    (subst (λ b. templates_in b.forest b.stack ≤ length t.template_modes) (sym alike.tree)
    (subst (λ known. templates_in s.tree.forest s.tree.stack ≤ length known) (sym alike.templates) counted))
phase_alike is_framed s t alike (built is) = built (built_alike is_framed s t alike is)

-- an item emits no start tag that is left out
abbrev pub IsEmittedItem : Bool → Item → Type 0
IsEmittedItem is_framed (items.tag t) = IsEmittedMark is_framed (mark_by t.kind t)
IsEmittedItem is_framed _ = Unit {0}

abbrev pub AreEmitted : Bool → List Item → Type 0
AreEmitted is_framed [] = Unit {0}
AreEmitted is_framed (item ∷ more) = IsEmittedItem is_framed item × AreEmitted is_framed more

emitted_front : (is_framed : Bool) (xs ys : List Item) → AreEmitted is_framed (xs ++ ys) → AreEmitted is_framed xs
emitted_front is_framed [] ys are = tt
emitted_front is_framed (x ∷ xs) ys are = (are.0, emitted_front is_framed xs ys are.1)

emitted_back : (is_framed : Bool) (xs ys : List Item) → AreEmitted is_framed (xs ++ ys) → AreEmitted is_framed ys
emitted_back is_framed [] ys are = are
emitted_back is_framed (x ∷ xs) ys are = emitted_back is_framed xs ys are.1

none_below : (x : ℕ) → x < 0 → ⊥
none_below x h = omega (arith, h)

just_below : (x : ℕ) → x < suc x
just_below x = omega arith

further_down : (x y k : ℕ) → x < y → y < suc k → x < k
further_down x y k h i = omega (arith, h, i)

-- what stands at the end
body_is : (is_framed : Bool) → is_element_of (html_elements (bodies is_framed)) (in_html (codes "body")) ≡ true
body_is true = refl
body_is false = refl

frameset_is : (is_framed : Bool) → is_framed ≡ true →
    is_element_of (html_elements (bodies is_framed)) (in_html (codes "frameset")) ≡ true
frameset_is true e = refl
frameset_is false e = absurd (let k : false ≡ true = e in cc)

stands : (is_framed : Bool) (name : List ℕ) (barred : List (List ℕ)) (is_open fosters resets : Bool)
    (allows : InsertionMode → Bool) (root head third : ℕ) (f : Forest) → AreApart root head third →
    is_element_of (html_elements (bodies is_framed)) (in_html name) ≡ true →
    IsKeptForest (third_guard name barred is_open fosters resets allows root head third) f → IsSkeleton is_framed f
stands is_framed name barred is_open fosters resets allows root head third f apart is held = record {
  root = root;
  head = head;
  body = third;
  others = held.others;
  below_document = held.below_document;
  below_root = held.below_root;
  root_named = ap (is_html (codes "html"))
      (held.named root (inr (inl refl)) ∙ root_title root head third name);
  head_named = ap (is_html (codes "head"))
      (held.named head (inr (inr (inr (inl refl)))) ∙ head_title root head third name apart);
  body_named = ap (is_element_of (html_elements (bodies is_framed)))
      (held.named third (inr (inr (inl refl))) ∙ third_title root head third name apart) ∙ is;
}

pub built_stands : (is_framed : Bool) (s : State) → IsBuilt is_framed s → IsSkeleton is_framed s.tree.forest
built_stands is_framed s (body_open root head body apart steady) =
    stands is_framed (codes "body") base_names false false false is_of_body root head body s.tree.forest apart
    (body_is is_framed) steady.held.tree.nodes
built_stands is_framed s (going_on root head body apart steady refused) =
    stands is_framed (codes "body") early_names true true true may_stand root head body s.tree.forest apart
    (body_is is_framed) steady.held.tree.nodes
built_stands is_framed s (of_frames root head frameset apart framed steady) =
    stands is_framed (codes "frameset") early_names true true false is_of_frames root head frameset s.tree.forest apart
    (frameset_is is_framed framed) steady.held.tree.nodes

past_ready : (s : State) → Ready s → Ready (past_tag s)
past_ready s ready = record { sound = ready.sound; head = ready.head; page = ready.page }

over_ready : (s : State) → Ready s → Ready (over s)
over_ready s ready = record { sound = ready.sound; head = ready.head; page = ready.page }

past_alike : (s : State) → IsAlike s (past_tag s)
past_alike s = record {
  tree = refl;
  mode = refl;
  original = refl;
  head = refl;
  form = refl;
  page = refl;
  templates = refl;
  ok = refl;
}

over_alike : (s : State) → IsAlike s (over s)
over_alike s = record {
  tree = refl;
  mode = refl;
  original = refl;
  head = refl;
  form = refl;
  page = refl;
  templates = refl;
  ok = refl;
}

module _ (is_framed : Bool) (facts : Facts) where
  abbrev pub On : State → Type 0
  On s = IsOn is_framed facts.keep (IsPhase is_framed) s

  abbrev pub Stands : State → Type 0
  Stands s = IsOn is_framed facts.keep (IsBuilt is_framed) s

  past_on : (s : State) → On s → On (past_tag s)
  past_on s on = record {
    ready = past_ready s on.ready;
    formed = on.formed;
    phase = phase_alike is_framed s (past_tag s) (past_alike s) on.phase;
  }

  over_on : (s : State) → On s → On (over s)
  over_on s on = record {
    ready = over_ready s on.ready;
    formed = on.formed;
    phase = phase_alike is_framed s (over s) (over_alike s) on.phase;
  }

  taken_on : (mark : TreeToken) (s : State) → IsEmittedMark is_framed mark → On s → On (taken mark s).state
  taken_on mark s emitted on = settled_on is_framed facts.keep (suc (rank mark s)) mark s emitted on

  left_by : (b : Bool) (s t : State) → On s → On t → On (if b then s else t)
  left_by true s t on other = on
  left_by false s t on other = other

  character_on : (c : ℕ) (s : State) → On s → On (taken_character s c)
  character_on c s on = left_by (s.skip_lf && c == 10) (past_tag s) (taken (character c) (past_tag s)).state
      (past_on s on) (taken_on (character c) (past_tag s) tt (past_on s on))

  characters_on : (cs : List ℕ) (s : State) → On s → On (fold taken_character s cs)
  characters_on [] s on = on
  characters_on (c ∷ cs) s on = characters_on cs (taken_character s c) (character_on c s on)

  step_on : (item : Item) (s : State) → IsEmittedItem is_framed item → On s → On (step s item)
  step_on (items.characters cs) s emitted on = characters_on cs s on
  step_on items.null_character s emitted on = taken_on null (past_tag s) tt (past_on s on)
  step_on (items.tag t) s emitted on = taken_on (mark_by t.kind t) (past_tag s) emitted (past_on s on)
  step_on (items.comment cs) s emitted on = taken_on (marks.comment cs) (past_tag s) tt (past_on s on)
  step_on (items.doctype d) s emitted on = taken_on (marks.doctype d) (past_tag s) tt (past_on s on)
  step_on items.error s emitted on = past_on s on
  step_on items.end_of_file s emitted on =
      over_on (taken end_of_file (past_tag s)).state (taken_on end_of_file (past_tag s) tt (past_on s on))

  items_on : (emitted : List Item) (s : State) → AreEmitted is_framed emitted → On s → On (fold step s emitted)
  items_on [] s are on = on
  items_on (item ∷ more) s are on = items_on more (step s item) are.1 (step_on item s are.0 on)

  -- the end of the page, after which the body or a frameset stands
  given_end : (r : Row) (s : State) → Ready s → IsFormed s → Falls end_of_file s r →
      ComesTo (IsBuilt is_framed) s r ⊎ (Comes is_framed s r × (is_again r ≡ true)) →
      ((t : State) → On t → rank end_of_file t < rank end_of_file s → Stands (taken end_of_file t).state) →
      Stands (given_by r s (taken end_of_file)).state
  given_end (done actions) s ready formed falls (inl comes) more =
      let trailing = all_formed facts.keep actions s ready formed in
      record { ready = trailing.0; formed = trailing.1; phase = comes }
  given_end (done actions) s ready formed falls (inr handed) more = absurd (let k : false ≡ true = handed.1 in cc)
  given_end (asks ask actions) s ready formed falls (inl comes) more =
      let trailing = all_formed facts.keep actions s ready formed in
      record {
        ready = entered_ready is_framed facts.keep ask (act_all actions s) trailing.0;
        formed = entered_formed is_framed facts.keep ask (act_all actions s) trailing.1;
        phase = comes;
      }
  given_end (asks ask actions) s ready formed falls (inr handed) more =
      absurd (let k : false ≡ true = handed.1 in cc)
  given_end (again actions) s ready formed falls (inl comes) more =
      let trailing = all_formed facts.keep actions s ready formed in
      more (act_all actions s) (record { ready = trailing.0; formed = trailing.1; phase = built comes }) falls
  given_end (again actions) s ready formed falls (inr handed) more =
      let trailing = all_formed facts.keep actions s ready formed in
      more (act_all actions s) (record { ready = trailing.0; formed = trailing.1; phase = handed.0 }) falls

  handed_on : (s : State) → On s → IsBuilt is_framed s ⊎ (is_again (rule end_of_file s) ≡ true) →
      ComesTo (IsBuilt is_framed) s (rule end_of_file s)
      ⊎ (Comes is_framed s (rule end_of_file s) × (is_again (rule end_of_file s) ≡ true))
  handed_on s on (inl is) = inl (built_rule is_framed facts.keep end_of_file s tt on.ready on.formed is)
  handed_on s on (inr is) = inr (phase_rule is_framed facts.keep end_of_file s tt on.ready on.formed on.phase, is)

  stands_within : (k : ℕ) (s : State) → rank end_of_file s < k → On s → Stands (taken end_of_file s).state
  stands_within zero s low on = absurd (none_below (rank end_of_file s) low)
  stands_within (suc k) s low on = subst (λ (t : Settled). Stands t.state) (sym (facts.comes end_of_file s on.ready))
      (given_end (rule end_of_file s) s on.ready on.formed (facts.falls end_of_file s on.ready)
      (handed_on s on (again_before is_framed s on.ready on.phase))
      (λ t now down. stands_within k t (further_down (rank end_of_file t) (rank end_of_file s) k down low) now))

  page_stands : {H : Type 0} (table : References) (handle : ℕ → H) (mode : Mode) (s : State) (cs : List ℕ)
      (final : State) (reading : Reading table (meaning handle) mode s cs final) → On s →
      AreEmitted is_framed (items_of reading) → IsSkeleton is_framed final.tree.forest
  page_stands table handle mode s cs final (ends _ _ _ _ nothing_left e) on are =
      let trailing = stands_within (suc (rank end_of_file (past_tag s))) (past_tag s)
      (just_below (rank end_of_file (past_tag s))) (past_on s on) in
      subst (λ (t : State). IsSkeleton is_framed t.tree.forest) (sym e)
      (built_stands is_framed (taken end_of_file (past_tag s)).state trailing.phase)
  page_stands table handle mode s cs final (goes _ _ _ emitted trailing rest _ is further) on are =
      page_stands table handle trailing (fold step s emitted) rest final further
      (items_on emitted s (emitted_front is_framed emitted (items_of further) are) on)
      (emitted_back is_framed emitted (items_of further) are)
  page_stands table handle mode s cs final (tags _ _ _ t rest _ is further) on are =
      page_stands table handle _ (step s (tag t)) rest final further (step_on (items.tag t) s are.0 on) are.1

  beginning_on : (s : State) → IsAtBeginning s → child_elements 0 s.tree.forest ≡ [] → On s
  beginning_on s begins none = record {
    ready = of_page s begins.ready begins.page;
    formed = λ n e. absurd (let k : None ≡ Some n = sym begins.form ∙ e in cc);
    phase = doctype_to_come begins.mode (record {
      stack = begins.stack;
      below_document = none;
      formatting = begins.formatting;
      fostering = begins.fostering;
      head = begins.head;
      form = begins.form;
      templates = begins.templates;
    });
  }

-- what is emitted, by its start tags
framed_by : (is_framed : Bool) (name : List ℕ) (group : TagGroup) → tag_group name ≡ group →
    (is_framed ≡ false → is_unframed_name StartTag name ≡ true) → IsEmittedGroup is_framed group
framed_by true name groups.Frameset e unframed = refl
framed_by false name groups.Frameset e unframed = absurd (
    let k : is_unframed_name StartTag (codes "frameset") ≡ true =
    subst (λ w. is_unframed_name StartTag w ≡ true) (frameset_named name e) (unframed refl) in
    let j : false ≡ true = k in cc)
framed_by is_framed name group e unframed = tt

emitted_tag : (is_framed : Bool) (kind : TagKind) (t : Tag) →
    (is_framed ≡ false → is_unframed_name kind t.name ≡ true) →
    IsEmittedMark is_framed (mark_by kind t)
emitted_tag is_framed StartTag t unframed = framed_by is_framed t.name (tag_group t.name) refl unframed
emitted_tag is_framed EndTag t unframed = tt

emitted_item : (is_framed : Bool) (item : Item) → (is_framed ≡ false → is_unframed item ≡ true) →
    IsEmittedItem is_framed item
emitted_item is_framed (items.characters cs) unframed = tt
emitted_item is_framed items.null_character unframed = tt
emitted_item is_framed (items.tag t) unframed = emitted_tag is_framed t.kind t unframed
emitted_item is_framed (items.comment cs) unframed = tt
emitted_item is_framed (items.doctype d) unframed = tt
emitted_item is_framed items.error unframed = tt
emitted_item is_framed items.end_of_file unframed = tt

emitted_items : (is_framed : Bool) (emitted : List Item) → (is_framed ≡ false → EmitsNoFrames emitted) →
    AreEmitted is_framed emitted
emitted_items is_framed [] unframed = tt
emitted_items is_framed (item ∷ more) unframed =
    (emitted_item is_framed item (λ e. (unframed e).0), emitted_items is_framed more (λ e. (unframed e).1))

pub page_has_skeleton : Facts → {H : Type 0} → HasSkeletonOfPage H
page_has_skeleton facts table handle mode s cs final reading begins none is_framed unframed =
    page_stands is_framed facts table handle mode s cs final reading (beginning_on is_framed facts s begins none)
    (emitted_items is_framed (items_of reading) unframed)
