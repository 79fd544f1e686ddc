-- Each action keeps what is ready so.
use Rattle.std.proofs.Common.{◌≡◌, ◌≤◌, if◌then◌else◌, [], ◌∷◌, ◌==◌, Bool, List, None, Option, Some, ap, arith, false}
use Rattle.std.proofs.Common.{inl, inr, refl, subst, sym, true, ℕ}
use Rattle.std.proofs.lemmas.Bool.{eqb-true}
use Rattle.tree_forest.specs.Forest.{Forest, Holds, IsElement, is_in, nodes}
use Rattle.tree_forest.specs.Orders.{IsIn}
use Rattle.html_lexemes.specs.declared.names.Attribute.{Attribute}
use Rattle.html_lexemes.specs.declared.names.Namespace.{Namespace}
use Rattle.html_lexemes.specs.declared.token.Tag.{Tag}
use Rattle.html_tree_state.specs.Building.{Building}
use Rattle.html_tree_state.specs.Foreign.{adjusted_current}
use Rattle.html_tree_state.specs.Formatting.{name_for}
use Rattle.html_tree_state.specs.OpenElements.{first_of}
use Rattle.html_tree_state.specs.Sound.{Sound}
use Rattle.html_tree_state.specs.Words.{IsKept, Keeps, Words}
use Rattle.tree_names.specs.Sets.{Elements, is_one_of}
use Rattle.tree_names.specs.TagSets.{formatting}
use Rattle.rules_table.specs.Actions.{Action, act, add_attributes, adopt, adopt_in_scope, adopted_in_scope}
use Rattle.rules_table.specs.Actions.{append_doctype, break_out, clear_to_marker, close_foreign, close_item}
use Rattle.rules_table.specs.Actions.{close_other, close_p, comment_to_document, comment_to_root, forget_form}
use Rattle.rules_table.specs.Actions.{forget_pending, foster, given_attributes, go_back, go_to, hold_mode, imply_but}
use Rattle.rules_table.specs.Actions.{in_html, insert, insert_comment, insert_foreign, insert_formatting, insert_named}
use Rattle.rules_table.specs.Actions.{insert_void, inserted_and_listed, inserted_foreign, inserted_into}
use Rattle.rules_table.specs.Actions.{inserted_void_into, is_current, keep_form, keep_head, keep_pending, pop}
use Rattle.rules_table.specs.Actions.{pop_down_to, pop_if, pop_template_mode, pop_to, popped_if, push_template_mode}
use Rattle.rules_table.specs.Actions.{put_marker, reconstruct, refuse_frameset, reset, say, set_quirks}
use Rattle.rules_table.specs.Actions.{skip_next_line_feed, take_off, take_out, unlist}
use Rattle.rules_table.specs.Settling.{Ready}
use Rattle.rules_table.specs.State.{State}
use Rattle.rules_table.specs.declared.target.Target.TheVariants as targets

-- that elements are nodes
abbrev pub AreThere : Type 0
AreThere = (n : ℕ) (f : Forest) → IsElement n f → Holds n f

still_holds : (n : ℕ) (f g : Forest) → Holds n f → nodes f ≤ nodes g → Holds n g
still_holds n f g h le = omega arith

same : (b : Building) → Sound b → IsKept b b
same b sound = record {
  sound = sound;
  grown = record { size = omega arith; elements = λ n is. is };
}

-- a step of the tree alone
stepped : (s : State) (b : Building) → Ready s → IsKept s.tree b → Ready (record s { tree = b })
stepped s b ready kept = record {
  sound = kept.sound;
  head = λ n e. still_holds n s.tree.forest b.forest (ready.head n e) kept.grown.size;
  context = λ n e. kept.grown.elements n (ready.context n e);
}

by_word : (s : State) (word : Building → Building) → Ready s → Keeps word → Ready (record s { tree = word s.tree })
by_word s word ready keeps = stepped s (word s.tree) ready (keeps s.tree ready.sound)

-- one of two
by_test : (x : Bool) (old b c : Building) → (x ≡ true → IsKept old b) → (x ≡ false → IsKept old c) →
    IsKept old (if x then b else c)
by_test true old b c f g = f refl
by_test false old b c f g = g refl

into_kept : Words → (s : State) (tag : Tag) (h : Option ℕ) → s.head ≡ h → Ready s →
    IsKept s.tree (inserted_into h tag s.tree)
into_kept words s tag None e ready = words.inserts (name_for tag) tag.attrs s.tree ready.sound
into_kept words s tag (Some n) e ready =
    words.inserts_into n (name_for tag) tag.attrs s.tree ready.sound (ready.head n e)

void_into_kept : Words → (s : State) (tag : Tag) (h : Option ℕ) → s.head ≡ h → Ready s →
    IsKept s.tree (inserted_void_into h tag s.tree)
void_into_kept words s tag None e ready = words.inserts_void (name_for tag) tag.attrs s.tree ready.sound
void_into_kept words s tag (Some n) e ready =
    words.inserts_void_into n (name_for tag) tag.attrs s.tree ready.sound (ready.head n e)

foreign_kept : Words → (ns : Namespace) (tag : Tag) → Keeps (inserted_foreign ns tag)
foreign_kept words ns tag b sound = by_test tag.self_closing b _ _
    (λ e. words.inserts_void (record { ns = ns; local = tag.name }) tag.attrs b sound)
    (λ e. words.inserts (record { ns = ns; local = tag.name }) tag.attrs b sound)

among_by : (b u : Bool) (n m : ℕ) (ns : List ℕ) → (n == m) ≡ b → (if b then true else u) ≡ true →
    (u ≡ true → IsIn n ns) → IsIn n (m ∷ ns)
among_by true u n m ns is there rest = inl (eqb-true n m is)
among_by false u n m ns is there rest = inr (rest there)

pub is_among : (n : ℕ) (ns : List ℕ) → is_in n ns ≡ true → IsIn n ns
is_among n [] there = absurd (cc)
is_among n (m ∷ ns) there = among_by (n == m) (is_in n ns) n m ns refl there (is_among n ns)

given_kept : Words → (n : ℕ) (attributes : List Attribute) → Keeps (given_attributes n attributes)
given_kept words n attributes b sound = by_test (is_in n b.stack) b _ _
    (λ e. words.takes_attributes n attributes b sound (sound.elements n (is_among n b.stack e)))
    (λ e. same b sound)

popped_if_kept : Words → (set : Elements) → Keeps (popped_if set)
popped_if_kept words set b sound =
    by_test (is_current set b b.stack) b _ _ (λ e. words.pops b sound) (λ e. same b sound)

listed_kept : Words → (tag : Tag) → Keeps (inserted_and_listed tag)
listed_kept words tag b sound = by_test (is_one_of formatting tag.name) b _ _
    (λ e. words.lists tag e b sound) (λ e. words.inserts (name_for tag) tag.attrs b sound)

on : (a b c : Building) → IsKept a b → IsKept b c → IsKept a c
on a b c k l = record {
  sound = l.sound;
  grown = record {
    size = both (nodes a.forest) (nodes b.forest) (nodes c.forest) k.grown.size l.grown.size;
    elements = λ n is. l.grown.elements n (k.grown.elements n is);
  };
} where
  both : (x y z : ℕ) → x ≤ y → y ≤ z → x ≤ z
  both x y z h i = omega arith

adopted_kept : Words → (name : List ℕ) → Keeps (adopted_in_scope name)
adopted_kept words name b sound = by_test _ b _ _
    (λ e. on b _ _ (words.adopts name b sound) (words.reconstructs _ (words.adopts name b sound).sound))
    (λ e. same b sound)

-- the current node is a node
first_holds : AreThere → (b : Building) → Sound b → (ns : List ℕ) → b.stack ≡ ns → (n : ℕ) → first_of ns ≡ Some n →
    Holds n b.forest
first_holds there b sound [] e n f = absurd (let k : None ≡ Some n = f in cc)
first_holds there b sound (m ∷ ms) e n f =
    let same_one : m ≡ n = ap (λ o. or_zero o) f in
    there n b.forest (sound.elements n (subst (IsIn n) (sym e) (inl (sym same_one))))
  where
    or_zero : Option ℕ → ℕ
    or_zero None = 0
    or_zero (Some x) = x

pub act_ready : Words → AreThere → (action : Action) (s : State) → Ready s → Ready (act action s)
unfolding act
act_ready words there (insert targets.AtPlace tag) s ready = by_word s _ ready (words.inserts (name_for tag) tag.attrs)
act_ready words there (insert targets.IntoHead tag) s ready =
    stepped s _ ready (into_kept words s tag s.head refl ready)
act_ready words there (insert_void targets.AtPlace tag) s ready =
    by_word s _ ready (words.inserts_void (name_for tag) tag.attrs)
act_ready words there (insert_void targets.IntoHead tag) s ready =
    stepped s _ ready (void_into_kept words s tag s.head refl ready)
act_ready words there (insert_named name) s ready = by_word s _ ready (words.inserts (in_html name) [])
act_ready words there (insert_foreign ns tag) s ready = by_word s _ ready (foreign_kept words ns tag)
act_ready words there (insert_comment cs) s ready = by_word s _ ready (words.comments cs)
act_ready words there (comment_to_document cs) s ready = by_word s _ ready (words.comments_the_document cs)
act_ready words there (comment_to_root cs) s ready = by_word s _ ready (words.comments_the_root cs)
act_ready words there (append_doctype doctype) s ready = by_word s _ ready (words.takes_a_doctype doctype)
act_ready words there (set_quirks mode) s ready =
    let r : Ready _ = by_word s _ ready (words.takes_quirks mode) in
    record { sound = r.sound; head = r.head; context = r.context }
act_ready words there (say cs) s ready = by_word s _ ready (words.says cs)
act_ready words there (add_attributes n attributes) s ready = by_word s _ ready (given_kept words n attributes)
act_ready words there (take_out n) s ready = by_word s _ ready (words.takes_out n)
act_ready words there (foster is_on) s ready = by_word s _ ready (words.fosters is_on)
act_ready words there pop s ready = by_word s _ ready words.pops
act_ready words there (pop_if set) s ready = by_word s _ ready (popped_if_kept words set)
act_ready words there (pop_to set) s ready = by_word s _ ready (words.pops_to set)
act_ready words there (pop_down_to set) s ready = by_word s _ ready (words.pops_down_to set)
act_ready words there (take_off n) s ready = by_word s _ ready (words.takes_off n)
act_ready words there (imply_but set) s ready = by_word s _ ready (words.implies set)
act_ready words there close_p s ready = by_word s _ ready words.closes_p
act_ready words there (close_item set) s ready = by_word s _ ready (words.closes_item set)
act_ready words there (close_other name) s ready = by_word s _ ready (words.closes_other name)
act_ready words there break_out s ready = by_word s _ ready words.breaks_out
act_ready words there (close_foreign name) s ready = by_word s _ ready (words.closes_foreign name)
act_ready words there (insert_formatting tag) s ready = by_word s _ ready (listed_kept words tag)
act_ready words there reconstruct s ready = by_word s _ ready words.reconstructs
act_ready words there put_marker s ready = by_word s _ ready words.marks
act_ready words there clear_to_marker s ready = by_word s _ ready words.clears
act_ready words there (unlist n) s ready = by_word s _ ready (words.unlists n)
act_ready words there (adopt name) s ready = by_word s _ ready (words.adopts name)
act_ready words there (adopt_in_scope name) s ready = by_word s _ ready (adopted_kept words name)
act_ready words there (go_to mode) s ready = record { sound = ready.sound; head = ready.head; context = ready.context }
act_ready words there hold_mode s ready = record { sound = ready.sound; head = ready.head; context = ready.context }
act_ready words there go_back s ready = record { sound = ready.sound; head = ready.head; context = ready.context }
act_ready words there (push_template_mode mode) s ready =
    record { sound = ready.sound; head = ready.head; context = ready.context }
act_ready words there pop_template_mode s ready =
    record { sound = ready.sound; head = ready.head; context = ready.context }
act_ready words there reset s ready = record { sound = ready.sound; head = ready.head; context = ready.context }
act_ready words there keep_head s ready = record {
  sound = ready.sound;
  head = first_holds there s.tree ready.sound s.tree.stack refl;
  context = ready.context;
}
act_ready words there keep_form s ready = record { sound = ready.sound; head = ready.head; context = ready.context }
act_ready words there forget_form s ready = record { sound = ready.sound; head = ready.head; context = ready.context }
act_ready words there refuse_frameset s ready =
    record { sound = ready.sound; head = ready.head; context = ready.context }
act_ready words there skip_next_line_feed s ready =
    record { sound = ready.sound; head = ready.head; context = ready.context }
act_ready words there (keep_pending c) s ready =
    record { sound = ready.sound; head = ready.head; context = ready.context }
act_ready words there forget_pending s ready =
    record { sound = ready.sound; head = ready.head; context = ready.context }

-- the adjusted current node is an element
same_node : (m n : ℕ) → Some m ≡ Some n → m ≡ n
same_node m n e = cc

open_element : (m n : ℕ) (f : Forest) → IsElement m f → Some m ≡ Some n → IsElement n f
open_element m n f is e = subst (λ k. IsElement k f) (same_node m n e) is

adjusted_by : (n : ℕ) (s : State) → Ready s → (context : Option ℕ) (stack : List ℕ) → s.context ≡ context →
    s.tree.stack ≡ stack → adjusted_current context stack ≡ Some n → IsElement n s.tree.forest
adjusted_by n s ready None [] is open_now e = absurd (let k : None ≡ Some n = e in cc)
adjusted_by n s ready None (m ∷ ms) is open_now e =
    open_element m n s.tree.forest (ready.sound.elements m (subst (IsIn m) (sym open_now) (inl refl))) e
adjusted_by n s ready (Some c) [] is open_now e =
    open_element c n s.tree.forest (ready.context c is) e
adjusted_by n s ready (Some c) (m ∷ []) is open_now e =
    open_element c n s.tree.forest (ready.context c is) e
adjusted_by n s ready (Some c) (m ∷ k ∷ ms) is open_now e =
    open_element m n s.tree.forest (ready.sound.elements m (subst (IsIn m) (sym open_now) (inl refl))) e

pub adjusted_element : (n : ℕ) (s : State) → Ready s → adjusted_current s.context s.tree.stack ≡ Some n →
    IsElement n s.tree.forest
adjusted_element n s ready e = adjusted_by n s ready s.context s.tree.stack refl refl e
