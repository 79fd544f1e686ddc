-- A group of columns: it is opened in a table, and closed before anything is opened in it (WHATWG HTML, 13.2.6.4.12).
use Rattle.std.proofs.Common.{◌≡◌, ◌+◌, ◌||◌, if◌then◌else◌, [], ◌∷◌, ◌∙◌, Bool, List, None, Option, Some, ap, arith}
use Rattle.std.proofs.Common.{bytes_eq, codes, false, inl, inr, refl, subst, suc, sym, true, zero, ℕ}
use Rattle.std.proofs.lemmas.Slice.Eq.{bytes_eq-Decides}
use Rattle.tree_forest.specs.Changes.{with_attributes}
use Rattle.tree_forest.specs.Forest.{Forest, Holds, comment, is_in, name_of}
use Rattle.tree_forest.specs.Places.{Place}
use Rattle.html_lexemes.specs.declared.names.Attribute.{Attribute}
use Rattle.html_lexemes.specs.declared.names.Namespace.{Namespace}
use Rattle.html_lexemes.specs.declared.names.Namespace.TheVariants.{Html, MathMl, Other, Svg}
use Rattle.html_lexemes.specs.declared.names.QualName.{QualName}
use Rattle.html_lexemes.specs.declared.token.Tag.{Tag}
use Rattle.html_tree_state.specs.Building.{Building}
use Rattle.html_tree_state.specs.Formatting.{name_for}
use Rattle.html_tree_state.specs.Insertions.{commented_at, here, inserted_at, said, with_element}
use Rattle.html_tree_state.specs.OpenElements.{below_current, has_any}
use Rattle.tree_names.specs.Sets.{html_elements, is_element_of}
use Rattle.tree_names.specs.Wanted.{one}
use Rattle.tree_names.specs.Groups.{tag_group}
use Rattle.tree_names.specs.declared.group.TagGroup.{TagGroup}
use Rattle.tree_names.specs.declared.group.TagGroup.TheVariants as groups
use Rattle.rules_table.specs.Actions.{act, act_all, add_attributes, at_place, go_to, in_html, insert, insert_comment}
use Rattle.rules_table.specs.Actions.{insert_named, insert_void, is_current, say}
use Rattle.rules_table.specs.Asking.{first_opened, has_template}
use Rattle.rules_table.specs.HtmlTag.{given_to, html_start}
use Rattle.rules_table.specs.InColumnGroup.{column_group_closed, in_column_group_end, in_column_group_start}
use Rattle.rules_table.specs.InColumnGroup.{in_column_group_text, is_in_column_group, past_column_group}
use Rattle.rules_table.specs.InTable.{clear_to_table}
use Rattle.rules_table.specs.Rows.{Row, again, done, dropped, for_character, for_null, ignored, is_white_space}
use Rattle.rules_table.specs.Rows.{then_again}
use Rattle.rules_table.specs.State.{State, TreeToken, character, comment as commented, doctype, end_of_file, finish}
use Rattle.rules_table.specs.State.{null, start}
use Rattle.rules_table.specs.Table.{row}
use Rattle.tree_predicates.specs.declared.modes.InsertionMode.TheVariants as modes
use Rattle.page_tree_laws.proofs.CleanWords.{AreFree, IsClean, element_put, free_follows, says_free}
use Rattle.page_tree_laws.proofs.ForestTexts.{Follows, attributes_follow, follows_itself, leaf_follows}
use Rattle.page_tree_laws.proofs.MildRows.{IsPlainGroup}
use Rattle.page_tree_laws.proofs.PlainStates.{Comes, Gives, IsGroupTree, IsInGroup, comes_same, gives_if, in_group}
use Rattle.page_tree_laws.proofs.PlainStates.{stays, usually}
use Rattle.page_tree_laws.proofs.TextRows.{emitted_by}
use Rattle.page_tree_laws.proofs.UsualModes.{IsUsual, mild_meek, no_template}
use Rattle.page_tree_laws.proofs.WordTexts.{words_said}
use Rattle.page_tree_laws.specs.KeptText.{how_often, in_texts}

-- an element of HTML with a name of some set is a node
named_held : (set : List (List ℕ)) (n : ℕ) (f : Forest) → is_element_of (html_elements set) (name_of n f) ≡ true →
    Holds n f
named_held set n [] is = absurd (let k : false ≡ true = is in cc)
named_held set zero (x ∷ f) is = omega arith
named_held set (suc n) (x ∷ f) is = suc_held n (named_held set n f is) where
  suc_held : (m : ℕ) → Holds m f → Holds (suc m) (x ∷ f)
  suc_held m h = omega (arith, h)

-- the current node keeps its name
still_current : (set : List (List ℕ)) (b d : Building) (ns : List ℕ) →
    ((n : ℕ) → Holds n b.forest → name_of n d.forest ≡ name_of n b.forest) →
    is_current (html_elements set) b ns ≡ true → is_current (html_elements set) d ns ≡ true
still_current set b d [] names is = is
still_current set b d (n ∷ ns) names is =
    ap (is_element_of (html_elements set)) (names n (named_held set n b.forest is)) ∙ is

group_follows : (b : Building) (g : Forest) → Follows b.forest g → IsGroupTree b →
    IsGroupTree (record b { forest = g })
group_follows b g follows tree = record {
  current = still_current (codes "colgroup" ∷ []) b (record b { forest = g }) b.stack follows.names tree.current;
  free = free_follows b.forest g (below_current b.stack) follows tree.free;
  listed = tree.listed;
}

-- a group is opened
group_made : (place : Place) (name : QualName) (attributes : List Attribute) (b : Building) →
    is_element_of (one (codes "colgroup")) name ≡ true → IsClean b →
    IsGroupTree (inserted_at place name attributes b)
group_made place name attributes b is clean =
    let new = element_put place name attributes b in
    record {
      current = ap (is_element_of (one (codes "colgroup"))) new.named ∙ is;
      free = free_follows b.forest (with_element place name attributes b).forest b.stack new.follows clean.free;
      listed = clean.listed;
    }

opened_by : (name : QualName) (attributes : List Attribute) (s : State) →
    is_element_of (one (codes "colgroup")) name ≡ true → IsUsual s →
    Comes [] s (record s { mode = modes.InColumnGroup; tree = inserted_at (here s.tree) name attributes s.tree })
opened_by name attributes s is usual =
    comes_same s (record s { mode = modes.InColumnGroup; tree = inserted_at (here s.tree) name attributes s.tree })
    (in_group (record {
      page = usual.modes.page;
      mode = refl;
      original = usual.modes.original;
      pending = usual.modes.pending;
      tree = group_made (here s.tree) name attributes s.tree is usual.clean;
    }))
    (element_put (here s.tree) name attributes s.tree).follows.texts refl

comes_after : (s s' s'' : State) → IsUsual s → IsUsual s' →
    ((c : ℕ) → in_texts c s'.tree.forest ≡ in_texts c s.tree.forest) → Comes [] s' s'' → Comes [] s s''
comes_after s s' s'' usual next texts comes = record {
  plain = comes.plain;
  grows = λ c is. comes.grows c is ∙ ap (λ k. k + 0) (same_amount (in_texts c s.tree.forest)
      (in_texts c s'.tree.forest) (how_often c s.pending) (how_often c s'.pending) (texts c)
      (ap (how_often c) (next.modes.pending ∙ sym usual.modes.pending)));
} where
  same_amount : (x y p q : ℕ) → y ≡ x → q ≡ p → y + q ≡ x + p
  same_amount x y p q e h = omega (arith, e, h)

pub group_started : (t : Tag) (s : State) → is_element_of (one (codes "colgroup")) (name_for t) ≡ true → IsUsual s →
    Comes [] s (act_all (clear_to_table ∷ insert at_place t ∷ go_to modes.InColumnGroup ∷ []) s)
unfolding act
group_started t s is usual =
    let first = mild_meek clear_to_table tt s usual in
    comes_after s (act clear_to_table s) (act_all (clear_to_table ∷ insert at_place t
    ∷ go_to modes.InColumnGroup ∷ []) s) usual first.usual first.texts
    (opened_by (name_for t) t.attrs (act clear_to_table s) is first.usual)

pub group_supplied : (s : State) → IsUsual s →
    Comes [] s (act_all (clear_to_table ∷ insert_named (codes "colgroup") ∷ go_to modes.InColumnGroup ∷ []) s)
unfolding act
group_supplied s usual =
    let first = mild_meek clear_to_table tt s usual in
    comes_after s (act clear_to_table s) (act_all (clear_to_table ∷ insert_named (codes "colgroup")
    ∷ go_to modes.InColumnGroup ∷ []) s) usual first.usual first.texts
    (opened_by (in_html (codes "colgroup")) [] (act clear_to_table s) refl first.usual)

-- it is closed
pub group_closed : (s : State) → IsInGroup s → Comes [] s (act_all column_group_closed s)
unfolding act
group_closed s group = comes_same s (act_all column_group_closed s) (usually (record {
  modes = record { page = group.page; mode = refl; original = group.original; pending = group.pending };
  clean = record { free = group.tree.free; listed = group.tree.listed };
})) (λ c. refl) refl

-- what changes the forest alone stays in the group
stays_in_group : (s : State) (g : Forest) → Follows s.tree.forest g → IsInGroup s →
    Comes [] s (record s { tree = record s.tree { forest = g } })
stays_in_group s g follows group =
    comes_same s (record s { tree = record s.tree { forest = g } }) (in_group (record {
      page = group.page;
      mode = group.mode;
      original = group.original;
      pending = group.pending;
      tree = group_follows s.tree g follows group.tree;
    })) follows.texts refl

comment_stays : (cs : List ℕ) (s : State) → IsInGroup s → Comes [] s (act_all (insert_comment cs ∷ []) s)
unfolding act
comment_stays cs s group = stays_in_group s (commented_at (here s.tree) cs s.tree).forest
    (leaf_follows (here s.tree) (comment cs) refl s.tree.forest) group

void_stays : (t : Tag) (s : State) → IsInGroup s → Comes [] s (act_all (insert_void at_place t ∷ []) s)
unfolding act
void_stays t s group = stays_in_group s (with_element (here s.tree) (name_for t) t.attrs s.tree).forest
    (element_put (here s.tree) (name_for t) t.attrs s.tree).follows group

given_by_test : (b : Bool) (n : ℕ) (attributes : List Attribute) (s : State) → IsInGroup s →
    Comes [] s (record s {
      tree = if b then record s.tree { forest = with_attributes n attributes s.tree.forest }
          else s.tree;
    })
given_by_test true n attributes s group = stays_in_group s (with_attributes n attributes s.tree.forest)
    (attributes_follow n attributes s.tree.forest) group
given_by_test false n attributes s group =
    stays_in_group s s.tree.forest (follows_itself s.tree.forest) group

attributes_stay : (n : ℕ) (attributes : List Attribute) (s : State) → IsInGroup s →
    Comes [] s (act_all (add_attributes n attributes ∷ []) s)
unfolding act
attributes_stay n attributes s group = given_by_test (is_in n s.tree.stack) n attributes s group

more_said : (x y p n : ℕ) → y ≡ x + n → y + p ≡ (x + p) + n
more_said x y p n e = omega (arith, e)

said_stays : (cs : List ℕ) (s : State) → IsInGroup s → Comes cs s (act_all (say cs ∷ []) s)
unfolding act
said_stays cs s group =
    let says = words_said (here s.tree) cs s.tree.forest in
    let b = s.tree in
    record {
      plain = in_group (record {
        page = group.page;
        mode = group.mode;
        original = group.original;
        pending = group.pending;
        tree = record {
          current = still_current (codes "colgroup" ∷ []) b (said cs b) b.stack says.names group.tree.current;
          free = says_free cs b.forest (said cs b).forest (below_current b.stack) says group.tree.free;
          listed = group.tree.listed;
        };
      });
      grows = λ c is. more_said (in_texts c b.forest) (in_texts c (said cs b).forest) (how_often c s.pending)
          (how_often c cs) (says.texts c);
    }

-- no template is open
colgroup_by : (ns : Namespace) (local : List ℕ) (b : Bool) → bytes_eq local (codes "colgroup") ≡ b →
    is_element_of (one (codes "colgroup")) (record { ns = ns; local = local }) ≡ true →
    is_element_of (one (codes "template")) (record { ns = ns; local = local }) ≡ false
colgroup_by Html local true e is =
    subst (λ l. is_element_of (one (codes "template")) (record { ns = Html; local = l }) ≡ false)
    (sym ((bytes_eq-Decides local (codes "colgroup")).0 e)) refl
colgroup_by Html local false e is = absurd (no_other (bytes_eq local (codes "colgroup")) e is) where
  no_other : (x : Bool) → x ≡ false → (x || false) ≡ true → ⊥
  no_other true h k = absurd (let j : true ≡ false = h in cc)
  no_other false h k = absurd (let j : false ≡ true = k in cc)
colgroup_by MathMl local b e is = refl
colgroup_by Svg local b e is = refl
colgroup_by (Other text) local b e is = refl

no_group_template : (name : QualName) → is_element_of (one (codes "colgroup")) name ≡ true →
    is_element_of (one (codes "template")) name ≡ false
no_group_template name is = colgroup_by name.ns name.local (bytes_eq name.local (codes "colgroup")) refl is

if_none : (x y : Bool) → x ≡ false → y ≡ false → (if x then true else y) ≡ false
if_none true y e h = e
if_none false y e h = h

none_open : (f : Forest) (ns : List ℕ) → AreFree f ns → has_any (one (codes "template")) f ns ≡ false
none_open f [] free = refl
none_open f (n ∷ ns) free = if_none (is_element_of (one (codes "template")) (name_of n f))
    (has_any (one (codes "template")) f ns) (no_template (name_of n f) (free n (inl refl)).1)
    (none_open f ns (λ m i. free m (inr i)))

none_in_group : (b : Building) (ns : List ℕ) → is_current (one (codes "colgroup")) b ns ≡ true →
    AreFree b.forest (below_current ns) → has_any (one (codes "template")) b.forest ns ≡ false
none_in_group b [] is free = refl
none_in_group b (n ∷ ns) is free = if_none (is_element_of (one (codes "template")) (name_of n b.forest))
    (has_any (one (codes "template")) b.forest ns) (no_group_template (name_of n b.forest) is)
    (none_open b.forest ns free)

no_template_open : (s : State) → IsInGroup s → has_template s ≡ false
no_template_open s group = none_in_group s.tree s.tree.stack group.tree.current group.tree.free

unless : (cs : List ℕ) (b : Bool) (s : State) (x y : Row) → b ≡ false → Gives cs s y →
    Gives cs s (if b then x else y)
unless cs true s x y e gives = absurd (let k : true ≡ false = e in cc)
unless cs false s x y e gives = gives

past_group : (s : State) → IsInGroup s → Gives [] s (past_column_group s)
past_group s group = gives_if (is_in_column_group s) [] s (again column_group_closed) ignored
    (λ e. group_closed s group) (λ e. stays s (in_group group))

given_stays : (root : Option ℕ) (t : Tag) (s : State) → IsInGroup s → Gives [] s (given_to root t)
given_stays None t s group = stays s (in_group group)
given_stays (Some n) t s group = attributes_stay n t.attrs s group

html_stays : (t : Tag) (s : State) → IsInGroup s → Gives [] s (html_start t s)
html_stays t s group = gives_if (has_template s) [] s ignored (given_to (first_opened s.tree.stack) t)
    (λ e. stays s (in_group group)) (λ e. given_stays (first_opened s.tree.stack) t s group)

group_start : (g : TagGroup) (t : Tag) (s : State) → IsPlainGroup g t.name → IsInGroup s →
    Gives [] s (in_column_group_start g t s)
group_start groups.Html t s is group = html_stays t s group
group_start groups.Column t s is group = void_stays t s group
group_start groups.Template t s is group = absurd is
group_start g t s is group = past_group s group

group_end : (g : TagGroup) (s : State) → IsInGroup s → Gives [] s (in_column_group_end g s)
group_end groups.ColumnGroup s group = gives_if (is_in_column_group s) [] s (done column_group_closed) ignored
    (λ e. group_closed s group) (λ e. stays s (in_group group))
group_end groups.Column s group = stays s (in_group group)
group_end groups.Template s group =
    unless [] (has_template s) s _ ignored (no_template_open s group) (stays s (in_group group))
group_end g s group = past_group s group

closed_before : (b : Bool) (cs : List ℕ) (d : ℕ) (s : State) → b ≡ true → IsInGroup s →
    Gives cs s (for_character d (if b then then_again column_group_closed else dropped))
closed_before true cs d s e group = group_closed s group
closed_before false cs d s e group = absurd (let k : false ≡ true = e in cc)

group_text : (is_space : Bool) (d : ℕ) (s : State) → IsInGroup s →
    Gives (d ∷ []) s (for_character d (in_column_group_text is_space s))
group_text true d s group = said_stays (d ∷ []) s group
group_text false d s group = closed_before (is_in_column_group s) (d ∷ []) d s group.tree.current group

null_by : (b : Bool) (s : State) → IsInGroup s →
    Gives [] s (for_null (if b then then_again column_group_closed else dropped))
null_by true s group = group_closed s group
null_by false s group = stays s (in_group group)

-- the names of start tags that are emitted
abbrev pub IsPlainMark : TreeToken → Type 0
IsPlainMark (character d) = Unit {0}
IsPlainMark null = Unit {0}
IsPlainMark (commented cs) = Unit {0}
IsPlainMark (doctype d) = Unit {0}
IsPlainMark (start t) = IsPlainGroup (tag_group t.name) t.name
IsPlainMark (finish t) = Unit {0}
IsPlainMark end_of_file = Unit {0}

pub group_row : (mark : TreeToken) (s : State) → IsPlainMark mark → IsInGroup s →
    Gives (emitted_by mark) s (row modes.InColumnGroup mark s)
group_row (character d) s is group = group_text (is_white_space d) d s group
group_row null s is group = null_by (is_in_column_group s) s group
group_row (commented cs) s is group = comment_stays cs s group
group_row (doctype d) s is group = stays s (in_group group)
group_row (start t) s is group = group_start (tag_group t.name) t s is group
group_row (finish t) s is group = group_end (tag_group t.name) s group
group_row end_of_file s is group =
    unless [] (has_template s) s _ ignored (no_template_open s group) (stays s (in_group group))
