-- What the rule for a mark gives: text is kept, and a plain state stays one.
use Rattle.std.proofs.Common.{◌≡◌, ◌+◌, ◌||◌, if◌then◌else◌, [], ◌∷◌, ◌∙◌, Bool, List, None, Option, Some, ap, arith}
use Rattle.std.proofs.Common.{codes, false, is_some, refl, subst, sym, true, ℕ}
use Rattle.tree_forest.specs.Forest.{Forest, is_integration_point, name_of}
use Rattle.html_lexemes.specs.declared.names.Namespace.{Namespace}
use Rattle.html_lexemes.specs.declared.names.Namespace.TheVariants.{Html, MathMl, Other, Svg}
use Rattle.html_lexemes.specs.declared.token.Tag.{Tag}
use Rattle.html_tree_state.specs.Building.{Building}
use Rattle.html_tree_state.specs.Foreign.{adjusted_current, named_foreign}
use Rattle.html_tree_state.specs.Formatting.{name_for}
use Rattle.html_tree_state.specs.OpenElements.{first_of}
use Rattle.tree_names.specs.Sets.{html_elements, is_element_of}
use Rattle.tree_names.specs.Wanted.{one}
use Rattle.tree_names.specs.Groups.{tag_group}
use Rattle.tree_names.specs.declared.group.TagGroup.{TagGroup}
use Rattle.tree_names.specs.declared.group.TagGroup.TheVariants as groups
use Rattle.rules_table.specs.Actions.{act, act_all, break_out, close_foreign, is_current, is_text, say}
use Rattle.rules_table.specs.ForeignContent.{foreign_start, foreign_text, is_by_mode, is_taken_at, namespace_at}
use Rattle.rules_table.specs.ForeignContent.{node_here, takes}
use Rattle.rules_table.specs.InTable.{in_table_start}
use Rattle.rules_table.specs.Rows.{Row, after, again, asks, done, is_white_space}
use Rattle.rules_table.specs.Rule.{broken_out_row, foreign_end, foreign_row, rule}
use Rattle.rules_table.specs.Settling.{entered}
use Rattle.rules_table.specs.State.{TreeToken, State, character, comment, doctype, end_of_file, finish, null, start}
use Rattle.rules_table.specs.Table.{comment_row, doctype_row, end_of_file_row, end_row, row, start_row, text_row}
use Rattle.tree_predicates.specs.Foreign.{breaks_out, takes_start}
use Rattle.tree_predicates.specs.declared.modes.InsertionMode.{InsertionMode}
use Rattle.tree_predicates.specs.declared.modes.InsertionMode.TheVariants as modes
use Rattle.page_tree_laws.proofs.CleanLists.{is_barred}
use Rattle.page_tree_laws.proofs.GroupRows.{IsPlainMark, group_row, group_started, group_supplied}
use Rattle.page_tree_laws.proofs.MildEnds.{comment_mild, doctype_mild, end_mild, file_mild}
use Rattle.page_tree_laws.proofs.MildRows.{IsPlainGroup}
use Rattle.page_tree_laws.proofs.MildStarts.{in_table_mild, start_mild}
use Rattle.page_tree_laws.proofs.PlainNames.{colgroup_named, is_column_group}
use Rattle.page_tree_laws.proofs.PlainStates.{Comes, Gives, GivesText, IsPlain, amount, gives_if, in_group, in_text}
use Rattle.page_tree_laws.proofs.PlainStates.{mild_gives, of_character, of_null, replacement_apart, said_comes, stays}
use Rattle.page_tree_laws.proofs.PlainStates.{usually}
use Rattle.page_tree_laws.proofs.TextRows.{pending_row, emitted_by, usual_text}
use Rattle.page_tree_laws.proofs.UsualModes.{IsMeek, IsUsual, is_usual, mild_meek}
use Rattle.page_tree_laws.specs.KeptText.{how_often, in_texts}

-- start tags in a table
table_start : (g : TagGroup) (t : Tag) (s : State) → IsPlainGroup g t.name →
    (is_column_group g ≡ true → is_element_of (one (codes "colgroup")) (name_for t) ≡ true) → IsUsual s →
    Gives [] s (in_table_start g t s)
table_start groups.ColumnGroup t s is named usual = group_started t s (named refl) usual
table_start groups.Column t s is named usual = group_supplied s usual
table_start g t s is named usual = mild_gives (in_table_start g t s) (in_table_mild g t s is tt) s usual

start_gives : (mode : InsertionMode) (g : TagGroup) (t : Tag) (s : State) → is_usual mode ≡ true →
    IsPlainGroup g t.name → (is_column_group g ≡ true → is_element_of (one (codes "colgroup")) (name_for t) ≡ true) →
    IsUsual s → Gives [] s (start_row mode g t s)
start_gives modes.InTable g t s is plain named usual = table_start g t s plain named usual
start_gives mode g t s is plain named usual =
    mild_gives (start_row mode g t s) (start_mild mode g t s is plain tt) s usual

usual_row : (mark : TreeToken) (mode : InsertionMode) (s : State) → is_usual mode ≡ true → IsPlainMark mark →
    IsUsual s →
    Gives (emitted_by mark) s (row mode mark s)
usual_row (character d) mode s is plain usual =
    of_character d s (text_row mode (is_white_space d) s) (usual_text mode (is_white_space d) s is usual) usual
usual_row null mode s is plain usual = of_null s (text_row mode false s) (usual_text mode false s is usual) usual
usual_row (comment cs) mode s is plain usual =
    mild_gives (comment_row mode cs s) (comment_mild mode cs s is) s usual
usual_row (doctype d) mode s is plain usual =
    mild_gives (doctype_row mode d s) (doctype_mild mode d s is) s usual
usual_row (start t) mode s is plain usual =
    start_gives mode (tag_group t.name) t s is plain (colgroup_named t.name) usual
usual_row (finish t) mode s is plain usual =
    mild_gives (end_row mode (tag_group t.name) t s) (end_mild mode (tag_group t.name) t s is) s usual
usual_row end_of_file mode s is plain usual = mild_gives (end_of_file_row mode s) (file_mild mode s is) s usual

plain_row : (mark : TreeToken) (s : State) → IsPlainMark mark → IsPlain s →
    Gives (emitted_by mark) s (row s.mode mark s)
plain_row mark s plain (usually usual) = usual_row mark s.mode s usual.modes.mode plain usual
plain_row mark s plain (in_text waits) =
    subst (λ m. Gives (emitted_by mark) s (row m mark s)) (sym waits.mode) (pending_row mark s waits)
plain_row mark s plain (in_group group) =
    subst (λ m. Gives (emitted_by mark) s (row m mark s)) (sym group.mode) (group_row mark s plain group)

-- where the current node is of HTML, the mode takes each mark
html_takes : (mark : TreeToken) (local : List ℕ) (p : Bool) → takes mark (record { ns = Html; local = local }) p ≡ true
html_takes (character c) local p = refl
html_takes null local p = refl
html_takes (comment cs) local p = refl
html_takes (doctype d) local p = refl
html_takes (start t) local p = refl
html_takes (finish t) local p = refl
html_takes end_of_file local p = refl

taken_in : (mark : TreeToken) (set : List (List ℕ)) (ns : Namespace) (local : List ℕ) (p : Bool) →
    is_element_of (html_elements set) (record { ns = ns; local = local }) ≡ true →
    takes mark (record { ns = ns; local = local }) p ≡ true
taken_in mark set Html local p is = html_takes mark local p
taken_in mark set MathMl local p is = absurd (let k : false ≡ true = is in cc)
taken_in mark set Svg local p is = absurd (let k : false ≡ true = is in cc)
taken_in mark set (Other text) local p is = absurd (let k : false ≡ true = is in cc)

taken_first : (mark : TreeToken) (set : List (List ℕ)) (b : Building) (ns : List ℕ) →
    is_current (html_elements set) b ns ≡ true → is_taken_at mark b.forest (first_of ns) ≡ true
taken_first mark set b [] is = refl
taken_first mark set b (n ∷ ns) is =
    let name = name_of n b.forest in
    taken_in mark set name.ns name.local (is_integration_point n b.forest) is

taken_here : (mark : TreeToken) (set : List (List ℕ)) (b : Building) (context : Option ℕ) → context ≡ None →
    is_current (html_elements set) b b.stack ≡ true →
    is_taken_at mark b.forest (adjusted_current context b.stack) ≡ true
taken_here mark set b None e is = taken_first mark set b b.stack is
taken_here mark set b (Some n) e is = absurd (let k : Some n ≡ None = e in cc)

or_true : (x y : Bool) → y ≡ true → (x || y) ≡ true
or_true true y e = refl
or_true false y e = e

by_mode_at : (mark : TreeToken) (set : List (List ℕ)) (s : State) → s.context ≡ None →
    is_current (html_elements set) s.tree s.tree.stack ≡ true → is_by_mode mark s ≡ true
by_mode_at mark set s page is = or_true (is_text s.mode) (is_taken_at mark s.tree.forest (node_here s))
    (taken_here mark set s.tree s.context page is)

-- what is inserted in foreign content has no barred name
foreign_free : (ns : Namespace) (local tag : List ℕ) (p : Bool) →
    takes_start (record { ns = ns; local = local }) p tag ≡ false →
    is_barred (record { ns = ns; local = tag }) ≡ false
foreign_free Html local tag p e = absurd (let k : true ≡ false = e in cc)
foreign_free MathMl local tag p e = refl
foreign_free Svg local tag p e = refl
foreign_free (Other text) local tag p e = refl

foreign_at : (t : Tag) (f : Forest) (found : Option ℕ) → is_taken_at (start t) f found ≡ false →
    is_barred (record { ns = namespace_at f found; local = t.name }) ≡ false
foreign_at t f None e = absurd (let k : true ≡ false = e in cc)
foreign_at t f (Some n) e =
    foreign_free (name_of n f).ns (name_of n f).local t.name (is_integration_point n f) e

or_false : (x y : Bool) → (x || y) ≡ false → y ≡ false
or_false true y e = absurd (let k : true ≡ false = e in cc)
or_false false y e = e

-- breaking out of foreign content comes first
same_amount : (x y p q n z : ℕ) → y ≡ x → q ≡ p → z ≡ (y + q) + n → z ≡ (x + p) + n
same_amount x y p q n z e h i = omega (arith, e, h, i)

comes_after : (cs : List ℕ) (s s' s'' : State) → IsUsual s → IsMeek s s' → Comes cs s' s'' → Comes cs s s''
comes_after cs s s' s'' usual meek comes = record {
  plain = comes.plain;
  grows = λ c is. same_amount (in_texts c s.tree.forest) (in_texts c s'.tree.forest) (how_often c s.pending)
      (how_often c s'.pending) (how_often c cs) (amount c s'') (meek.texts c)
      (ap (how_often c) (meek.usual.modes.pending ∙ sym usual.modes.pending)) (comes.grows c is);
}

gives_after : (cs : List ℕ) (s : State) (r : Row) → IsUsual s → IsMeek s (act break_out s) →
    Gives cs (act break_out s) r → Gives cs s (after (break_out ∷ []) r)
gives_after cs s (done actions) usual meek gives =
    comes_after cs s (act break_out s) (act_all actions (act break_out s)) usual meek gives
gives_after cs s (asks ask actions) usual meek gives =
    comes_after cs s (act break_out s) (entered ask (act_all actions (act break_out s))) usual meek gives
gives_after cs s (again actions) usual meek gives =
    comes_after [] s (act break_out s) (act_all actions (act break_out s)) usual meek gives

broken_gives : (mark : TreeToken) (s : State) → IsPlainMark mark → IsUsual s →
    Gives (emitted_by mark) s (broken_out_row mark s)
broken_gives mark s plain usual =
    let meek = mild_meek break_out tt s usual in
    gives_after (emitted_by mark) s (row s.mode mark (act break_out s)) usual meek
    (usual_row mark s.mode (act break_out s) usual.modes.mode plain meek.usual)

foreign_text_gives : (is_space : Bool) (s : State) → GivesText s is_space (foreign_text is_space)
foreign_text_gives true s = tt
foreign_text_gives false s = (tt, tt)

unsaid : (x y n : ℕ) → n ≡ 0 → y ≡ x + n → y ≡ x + 0
unsaid x y n e h = omega (arith, e, h)

null_gives : (s : State) → IsUsual s → Comes [] s (act (say (65533 ∷ [])) s)
null_gives s usual =
    let comes = said_comes [] (65533 ∷ []) tt s usual in
    record {
      plain = comes.plain;
      grows = λ c is. unsaid (amount c s) (amount c (act (say (65533 ∷ [])) s)) (how_often c (65533 ∷ []))
          (replacement_apart c is) (comes.grows c is);
    }

foreign_gives : (mark : TreeToken) (s : State) → is_by_mode mark s ≡ false → IsPlainMark mark → IsUsual s →
    Gives (emitted_by mark) s (foreign_row mark s)
foreign_gives (character d) s off plain usual =
    of_character d s (foreign_text (is_white_space d)) (foreign_text_gives (is_white_space d) s) usual
foreign_gives null s off plain usual = null_gives s usual
foreign_gives (comment cs) s off plain usual =
    mild_gives (comment_row modes.InBody cs s) (tt, tt) s usual
foreign_gives (doctype d) s off plain usual = stays s (usually usual)
foreign_gives (start t) s off plain usual =
    gives_if (breaks_out t) [] s (broken_out_row (start t) s) (foreign_start t s)
    (λ e. broken_gives (start t) s plain usual)
    (λ e. mild_gives (foreign_start t s)
    (foreign_at t s.tree.forest (node_here s) (or_false (is_text s.mode) _ off), tt) s usual)
foreign_gives (finish t) s off plain usual =
    gives_if (breaks_out t) [] s (broken_out_row (finish t) s) (foreign_end t s)
    (λ e. broken_gives (finish t) s plain usual)
    (λ e. gives_if (is_some (named_foreign t.name s.tree.forest s.tree.stack)) [] s
    (done (close_foreign t.name ∷ [])) (row s.mode (finish t) s)
    (λ h. mild_gives (done (close_foreign t.name ∷ [])) (tt, tt) s usual)
    (λ h. usual_row (finish t) s.mode s usual.modes.mode plain usual))
foreign_gives end_of_file s off plain usual = usual_row end_of_file s.mode s usual.modes.mode plain usual

taken_by_mode : (b : Bool) (cs : List ℕ) (s : State) (x y : Row) → b ≡ true → Gives cs s x →
    Gives cs s (if b then x else y)
taken_by_mode true cs s x y e gives = gives
taken_by_mode false cs s x y e gives = absurd (let k : false ≡ true = e in cc)

pub rule_gives : (mark : TreeToken) (s : State) → IsPlainMark mark → IsPlain s → Gives (emitted_by mark) s (rule mark s)
rule_gives mark s plain (usually usual) =
    gives_if (is_by_mode mark s) (emitted_by mark) s (row s.mode mark s) (foreign_row mark s)
    (λ e. usual_row mark s.mode s usual.modes.mode plain usual)
    (λ e. foreign_gives mark s e plain usual)
rule_gives mark s plain (in_text waits) =
    taken_by_mode (is_by_mode mark s) (emitted_by mark) s (row s.mode mark s) (foreign_row mark s)
    (by_mode_at mark (codes "table" ∷ codes "tbody" ∷ codes "template" ∷ codes "tfoot" ∷ codes "thead"
    ∷ codes "tr" ∷ []) s waits.page waits.current)
    (plain_row mark s plain (in_text waits))
rule_gives mark s plain (in_group group) =
    taken_by_mode (is_by_mode mark s) (emitted_by mark) s (row s.mode mark s) (foreign_row mark s)
    (by_mode_at mark (codes "colgroup" ∷ []) s group.page group.tree.current)
    (plain_row mark s plain (in_group group))
