-- No action of a row that hands a mark on opens a table or a template (WHATWG HTML, 13.2.6.4).
use Rattle.std.proofs.Common.{◌≡◌, ◌≤◌, if◌then◌else◌, [], ◌∷◌, ◌∙◌, Bool, List, ap, arith, codes, false, inl, inr}
use Rattle.std.proofs.Common.{refl, suc, true, ℕ}
use Rattle.tree_formatting.specs.Entries.{Entry, formatted, marker}
use Rattle.tree_forest.specs.Changes.{contents_number, made, made_element}
use Rattle.tree_forest.specs.Forest.{Forest, Holds, IsElement, Kind, document, element, element_of, kind_at, name_of}
use Rattle.tree_forest.specs.Forest.{nodes}
use Rattle.tree_forest.specs.Places.{Place, put, put_node, words}
use Rattle.tree_forest.specs.declared.sink.QuirksMode.{QuirksMode}
use Rattle.html_lexemes.specs.declared.names.Attribute.{Attribute}
use Rattle.html_lexemes.specs.declared.names.QualName.{QualName}
use Rattle.html_lexemes.specs.declared.token.Tag.{Tag}
use Rattle.html_tree_state.specs.Building.{Building}
use Rattle.html_tree_state.specs.Formatting.{all_made_anew, is_kept, made_already, made_anew, name_for, reconstructed}
use Rattle.html_tree_state.specs.Formatting.{to_make}
use Rattle.html_tree_state.specs.Insertions.{here, inserted}
use Rattle.html_tree_state.specs.Sound.{IsFormatting, IsListed, Sound}
use Rattle.html_tree_state.specs.Words.{Words}
use Rattle.tree_names.specs.Sets.{Elements, is_html, is_one_of}
use Rattle.tree_names.specs.TagSets.{formatting}
use Rattle.rules_table.specs.Actions.{Action, act, act_all, break_out, clear_to_marker, forget_pending, foster, go_back}
use Rattle.rules_table.specs.Actions.{go_to, hold_mode, imply_but, in_html, insert_named, keep_head, pop, pop_down_to}
use Rattle.rules_table.specs.Actions.{pop_template_mode, pop_to, push_template_mode, reconstruct, refuse_frameset, say}
use Rattle.rules_table.specs.Actions.{set_quirks}
use Rattle.rules_table.specs.Rank.{how_many}
use Rattle.rules_table.specs.Settling.{Ready}
use Rattle.rules_table.specs.State.{State}
use Rattle.rules_table.specs.Welcome.{ActionsKeep}
use Rattle.tree_predicates.specs.Attributes.{is_html_annotation}
use Rattle.tree_predicates.specs.declared.modes.InsertionMode.{InsertionMode}
use Rattle.rules_table_laws.proofs.CountLemmas.{as_many_named, below_current_fewer, below_first_fewer}
use Rattle.rules_table_laws.proofs.CountLemmas.{formatting_is_neither, from_first_fewer, from_html_fewer, is_counted}
use Rattle.rules_table_laws.proofs.CountLemmas.{on, one_more, without_implied_fewer}

-- the laws that this crate stands on
pub record Facts : Type 0 where
  pub words_keep : Words
  pub actions_keep : ActionsKeep
  pub element_there : (n : ℕ) (f : Forest) → IsElement n f → Holds n f
  pub leaf_stays : (kind : Kind) (n : ℕ) (f : Forest) → Holds n f → kind_at n (made kind f) ≡ kind_at n f
  pub element_stays : (name : QualName) (attributes : List Attribute) (template point : Bool) (n : ℕ)
      (f : Forest) → Holds n f → kind_at n (made_element name attributes template point f) ≡ kind_at n f
  pub put_stays : (place : Place) (n m : ℕ) (f : Forest) → kind_at m (put_node place n f) ≡ kind_at m f
  pub words_stay : (place : Place) (cs : List ℕ) (n : ℕ) (f : Forest) → IsElement n f →
      kind_at n (put place (words cs) f) ≡ kind_at n f
  pub made_leaf : (kind : Kind) (f : Forest) → kind_at (nodes f) (made kind f) ≡ kind
  pub size_leaf : (kind : Kind) (f : Forest) → nodes (made kind f) ≡ suc (nodes f)

abbrev pub count_in : Building → ℕ
count_in b = how_many b.forest b.stack

abbrev pub count : State → ℕ
count s = count_in s.tree

name_kind : Kind → QualName
name_kind kind = (element_of kind).name

module _ (facts : Facts) where
  -- the name of an element that was made
  new_name : (name : QualName) (attributes : List Attribute) (t p : Bool) (f : Forest) →
      name_of (nodes f) (made_element name attributes t p f) ≡ name
  new_name name attributes true p f =
      let kind = element (record {
        name = name;
        attributes = attributes;
        contents = contents_number true f;
        integration_point = p;
      }) in
      let size = facts.size_leaf kind f in
      let held : Holds (nodes f) (made kind f) = omega arith in
      ap (λ k. (element_of k).name) (facts.leaf_stays document (nodes f) (made kind f) held ∙ facts.made_leaf kind f)
  new_name name attributes false p f = ap (λ k. (element_of k).name) (facts.made_leaf _ f)

  pub inserted_count : (name : QualName) (attributes : List Attribute) (b : Building) → Sound b →
      is_counted name ≡ false → count_in (inserted name attributes b) ≤ count_in b
  inserted_count name attributes b sound neither =
      let f = b.forest in
      let t = is_html (codes "template") name in
      let p = is_html_annotation name attributes in
      let g = made_element name attributes t p f in
      let h = put_node (here b) (nodes f) g in
      one_more (is_counted (name_of (nodes f) h)) (how_many h b.stack) (how_many f b.stack)
      (ap is_counted (ap (λ k. (element_of k).name) (facts.put_stays (here b) (nodes f) (nodes f) g)
      ∙ new_name name attributes t p f) ∙ neither)
      (as_many_named f h b.stack (λ n i. ap (λ k. (element_of k).name) (facts.put_stays (here b) (nodes f) n g
      ∙ facts.element_stays name attributes t p n f (facts.element_there n f (sound.elements n i)))))

  pub said_count : (cs : List ℕ) (b : Building) → Sound b →
      how_many (put (here b) (words cs) b.forest) b.stack ≡ count_in b
  said_count cs b sound = as_many_named b.forest (put (here b) (words cs) b.forest) b.stack
      (λ n i. ap (λ k. (element_of k).name) (facts.words_stay (here b) cs n b.forest (sound.elements n i)))

  -- a tree without its formatting elements: what is inserted does not ask for them
  abbrev plain : Building → Building
  plain b = record b { formatting = [] }

  plain_sound : (b : Building) → Sound b → Sound (plain b)
  plain_sound b sound = record {
    forest = sound.forest;
    elements = sound.elements;
    distinct = sound.distinct;
    ordered = sound.ordered;
    templates = sound.templates;
    listed = λ n tag i. absurd i;
    few = tt;
    counted = sound.counted;
  }

  -- each entry's tag is one of formatting
  abbrev AreFormatting : List Entry → Type 0
  AreFormatting [] = Unit {0}
  AreFormatting (marker ∷ rest) = AreFormatting rest
  AreFormatting (formatted n tag ∷ rest) = (is_one_of formatting tag.name ≡ true) × AreFormatting rest

  record IsAnew (old new : Building) : Type 0 where
    pub sound : Sound (plain new)
    pub fewer : count_in new ≤ count_in old

  anew_by : (entry : Entry) (earlier : List Entry) (old b : Building) → AreFormatting (entry ∷ earlier) →
      (AreFormatting earlier → IsAnew old b) → IsAnew old (made_anew entry b)
  anew_by marker earlier old b are before = let was : IsAnew old b = before are in
      record { sound = was.sound; fewer = was.fewer }
  anew_by (formatted n tag) earlier old b are before =
      let was : IsAnew old b = before are.1 in
      record {
        sound = (facts.words_keep.inserts (name_for tag) tag.attrs (plain b) was.sound).sound;
        fewer = on _ _ _ (inserted_count (name_for tag) tag.attrs (plain b) was.sound
            (formatting_is_neither tag.name are.0)) was.fewer;
      }

  all_anew : (entries : List Entry) (old b : Building) → AreFormatting entries → Sound (plain b) →
      count_in b ≤ count_in old → IsAnew old (all_made_anew entries b)
  all_anew [] old b are sound fewer = record { sound = sound; fewer = fewer }
  all_anew (entry ∷ earlier) old b are sound fewer = anew_by entry earlier old (all_made_anew earlier b) are
      (λ earlier_are. all_anew earlier old b earlier_are sound fewer)

  listed_formatting : (f : Forest) (entries : List Entry) →
      ((n : ℕ) (tag : Tag) → IsListed n tag entries → IsFormatting n tag f) → AreFormatting entries
  listed_formatting f [] listed = tt
  listed_formatting f (marker ∷ rest) listed = listed_formatting f rest listed
  listed_formatting f (formatted n tag ∷ rest) listed =
      ((listed n tag (inl (refl, refl))).kind, listed_formatting f rest (λ m held i. listed m held (inr i)))

  made_by : (b : Bool) (entry : Entry) (rest more : List Entry) → AreFormatting (entry ∷ rest) →
      (AreFormatting rest → AreFormatting more) → AreFormatting (if b then [] else entry ∷ more)
  made_by true entry rest more are further = tt
  made_by false marker rest more are further = further are
  made_by false (formatted n tag) rest more are further = (are.0, further are.1)

  after_entry : (entry : Entry) (rest : List Entry) → AreFormatting (entry ∷ rest) → AreFormatting rest
  after_entry marker rest are = are
  after_entry (formatted n tag) rest are = are.1

  to_make_formatting : (stack : List ℕ) (entries : List Entry) → AreFormatting entries →
      AreFormatting (to_make stack entries)
  to_make_formatting stack [] are = tt
  to_make_formatting stack (entry ∷ rest) are = made_by (is_kept stack entry) entry rest (to_make stack rest) are
      (to_make_formatting stack rest)

  pub reconstructed_count : (b : Building) → Sound b → count_in (reconstructed b) ≤ count_in b
  reconstructed_count b sound =
      (all_anew (to_make b.stack b.formatting) b (record b { formatting = made_already b.stack b.formatting })
      (to_make_formatting b.stack b.formatting (listed_formatting b.forest b.formatting sound.listed))
      (plain_sound b sound) (omega arith)).fewer

-- an action after which no more of them are open
abbrev pub Low : Action → Type 0
Low action = (s : State) → Ready s → count (act action s) ≤ count s

abbrev pub AllLow : List Action → Type 0
AllLow [] = Unit {0}
AllLow (action ∷ actions) = Low action × AllLow actions

pub all_low : ActionsKeep → (actions : List Action) → AllLow actions → (s : State) → Ready s →
    count (act_all actions s) ≤ count s
all_low keep [] low s ready = omega arith
all_low keep (action ∷ actions) low s ready =
    on (count (act_all actions (act action s))) (count (act action s)) (count s)
    (all_low keep actions low.1 (act action s) (keep action s ready)) (low.0 s ready)

pub all_ready : ActionsKeep → (actions : List Action) (s : State) → Ready s → Ready (act_all actions s)
all_ready keep [] s ready = ready
all_ready keep (action ∷ actions) s ready = all_ready keep actions (act action s) (keep action s ready)

itself : (x : ℕ) → x ≤ x
itself x = omega arith

no_more : (x y : ℕ) → x ≡ y → x ≤ y
no_more x y e = omega arith

pub low_pop : Low pop
unfolding act
low_pop s ready = below_current_fewer s.tree.forest s.tree.stack

pub low_pop_to : (set : Elements) → Low (pop_to set)
unfolding act
low_pop_to set s ready = below_first_fewer set s.tree.forest s.tree.stack

pub low_pop_down_to : (set : Elements) → Low (pop_down_to set)
unfolding act
low_pop_down_to set s ready = from_first_fewer set s.tree.forest s.tree.stack

pub low_imply_but : (set : Elements) → Low (imply_but set)
unfolding act
low_imply_but set s ready = without_implied_fewer set s.tree.forest s.tree.stack

pub low_break_out : Low break_out
unfolding act
low_break_out s ready = from_html_fewer s.tree.forest s.tree.stack

pub low_clear_to_marker : Low clear_to_marker
unfolding act
low_clear_to_marker s ready = itself (count s)

pub low_insert_named : Facts → (name : List ℕ) → is_counted (in_html name) ≡ false → Low (insert_named name)
unfolding act
low_insert_named facts name neither s ready = inserted_count facts (in_html name) [] s.tree ready.sound neither

pub low_say : Facts → (cs : List ℕ) → Low (say cs)
unfolding act
low_say facts cs s ready = no_more _ (count s) (said_count facts cs s.tree ready.sound)

pub low_reconstruct : Facts → Low reconstruct
unfolding act
low_reconstruct facts s ready = reconstructed_count facts s.tree ready.sound

pub low_go_to : (mode : InsertionMode) → Low (go_to mode)
unfolding act
low_go_to mode s ready = itself (count s)

pub low_go_back : Low go_back
unfolding act
low_go_back s ready = itself (count s)

pub low_hold_mode : Low hold_mode
unfolding act
low_hold_mode s ready = itself (count s)

pub low_keep_head : Low keep_head
unfolding act
low_keep_head s ready = itself (count s)

pub low_forget_pending : Low forget_pending
unfolding act
low_forget_pending s ready = itself (count s)

pub low_push_template_mode : (mode : InsertionMode) → Low (push_template_mode mode)
unfolding act
low_push_template_mode mode s ready = itself (count s)

pub low_pop_template_mode : Low pop_template_mode
unfolding act
low_pop_template_mode s ready = itself (count s)

pub low_refuse_frameset : Low refuse_frameset
unfolding act
low_refuse_frameset s ready = itself (count s)

pub low_foster : (is_on : Bool) → Low (foster is_on)
unfolding act
low_foster is_on s ready = itself (count s)

pub low_set_quirks : (mode : QuirksMode) → Low (set_quirks mode)
unfolding act
low_set_quirks mode s ready = itself (count s)
