-- Runs of text, by what a mode makes of their characters.
use Rattle.std.proofs.Common.{◌≡◌, ◌⊎◌, ◌==◌, ◌&&◌, ◌||◌, if◌then◌else◌, [], ◌∷◌, ◌++◌, ◌<◌, ◌∙◌, Bool, List, None}
use Rattle.std.proofs.Common.{Option, Some, ap, append_assoc, codes, false, fold, inl, inr, refl, subst, sym, true, ℕ}
use Rattle.std.proofs.lemmas.List.{append-nil}
use Rattle.tree_forest.specs.Forest.{Forest, Holds, Kind, element_of, is_integration_point, kind_at, name_of}
use Rattle.tree_forest.specs.declared.sink.QuirksMode.TheVariants.{Quirks}
use Rattle.tree_forest.specs.Orders.{IsIn}
use Rattle.html_lexemes.specs.declared.names.QualName.{QualName}
use Rattle.html_tree_state.specs.Building.{Building}
use Rattle.html_tree_state.specs.Foreign.{adjusted_current}
use Rattle.html_tree_state.specs.Formatting.{reconstructed}
use Rattle.html_tree_state.specs.Insertions.{said}
use Rattle.html_tree_state.specs.Words.{Words}
use Rattle.tree_names.specs.ElementSets.{table_text_places}
use Rattle.tree_names.specs.Sets.{Elements, is_element_of}
use Rattle.tree_names.specs.Wanted.{one}
use Rattle.rules_table.specs.Actions.{Action, act, act_all, forget_pending, go_to, hold_mode, is_current, is_text}
use Rattle.rules_table.specs.Actions.{keep_pending, reconstruct, say, set_quirks}
use Rattle.rules_table.specs.Asking.{all_are, collects_text}
use Rattle.rules_table.specs.ForeignContent.{foreign_text, is_by_mode, is_taken_at, takes}
use Rattle.rules_table.specs.InBody.{in_body_text}
use Rattle.rules_table.specs.InColumnGroup.{column_group_closed, is_in_column_group}
use Rattle.rules_table.specs.Rows.{TextRow, done, dropped, for_character, is_white_space, kept, said_after, then_again}
use Rattle.rules_table.specs.Rule.{foreign_row, rule}
use Rattle.rules_table.specs.Rank.{rank}
use Rattle.rules_table.specs.Settling.{Ready, Settled, given_by, past_tag, taken, taken_character}
use Rattle.rules_table.specs.State.{TreeToken, State, character, null}
use Rattle.rules_table.specs.Table.{row, text_row}
use Rattle.rules_table.specs.Welcome.{ActionsKeep}
use Rattle.rules_table.specs.declared.options.TreeBuilderOpts.{TreeBuilderOpts}
use Rattle.rules_table_laws.specs.TextRuns.{IsCalm, IsPassedOn, TextRuns, emitted, took}
use Rattle.rules_table_laws.specs.TextClasses.{AreByMode, AreOfClass}
use Rattle.rules_table_laws.specs.declared.text_class.TextClass.TheVariants as classes
use Rattle.rules_table_laws.specs.Falls.{Falls}
use Rattle.rules_table_laws.proofs.TopLemmas.{IsSame, IsTopped, NodeLaws, no_table_place, reconstructed_top}
use Rattle.tree_predicates.specs.declared.modes.InsertionMode.{InsertionMode}
use Rattle.tree_predicates.specs.declared.modes.InsertionMode.TheVariants as modes

pub record TextLaws : Type 0 where
  pub comes : (mark : TreeToken) (s : State) → Ready s → taken mark s ≡ given_by (rule mark s) s (taken mark)
  pub falls : (mark : TreeToken) (s : State) → Ready s → Falls mark s (rule mark s)
  pub actions : ActionsKeep
  pub words : Words
  pub nodes : NodeLaws

past_same : (s : State) → s.skip_lf ≡ false → past_tag s ≡ s
past_same s e = ap (λ (b : Bool). record s { skip_lf = b }) (sym e)

pub character_taken : (s : State) (c : ℕ) → s.skip_lf ≡ false → taken_character s c ≡ (taken (character c) s).state
character_taken s c e =
    ap (λ (b : Bool). if b && c == 10 then past_tag s else (taken (character c) (past_tag s)).state) e
    ∙ ap (λ (t : State). (taken (character c) t).state) (past_same s e)

pub mode_rule : (s : State) (c : ℕ) → is_by_mode (character c) s ≡ true →
    rule (character c) s ≡ for_character c (text_row s.mode (is_white_space c) s)
mode_rule s c e = ap (λ (b : Bool). if b then row s.mode (character c) s else foreign_row (character c) s) e

foreign_rule : (s : State) (c : ℕ) → is_by_mode (character c) s ≡ false →
    rule (character c) s ≡ for_character c (foreign_text (is_white_space c))
foreign_rule s c e = ap (λ (b : Bool). if b then row s.mode (character c) s else foreign_row (character c) s) e

-- characters that were inserted, and whether framesets may still come
abbrev ahead : List ℕ → Bool → State → State
ahead cs ok s = record s { frameset_ok = ok; tree = said cs s.tree }

-- by what a node is
abbrev takes_by : TreeToken → Kind → Bool
takes_by mark k = takes mark (element_of k).name (element_of k).integration_point

-- the open elements and a fragment's context stay what they are
taken_same : (mark : TreeToken) (f g : Forest) (context : Option ℕ) (stack : List ℕ) →
    ((n : ℕ) → IsIn n stack → kind_at n g ≡ kind_at n f) →
    ((n : ℕ) → context ≡ Some n → kind_at n g ≡ kind_at n f) →
    is_taken_at mark g (adjusted_current context stack) ≡ is_taken_at mark f (adjusted_current context stack)
taken_same mark f g None [] same named = refl
taken_same mark f g None (n ∷ ns) same named = ap (takes_by mark) (same n (inl refl))
taken_same mark f g (Some c) [] same named = ap (takes_by mark) (named c refl)
taken_same mark f g (Some c) (n ∷ []) same named = ap (takes_by mark) (named c refl)
taken_same mark f g (Some c) (n ∷ m ∷ ns) same named = ap (takes_by mark) (same n (inl refl))

current_same : (set : Elements) (b c : Building) (stack : List ℕ) →
    ((n : ℕ) → IsIn n stack → kind_at n c.forest ≡ kind_at n b.forest) →
    is_current set c stack ≡ is_current set b stack
current_same set b c [] same = refl
current_same set b c (n ∷ ns) same = ap (λ k. is_element_of set (element_of k).name) (same n (inl refl))

-- of the state a row for text reads little
abbrev table_text : Bool → Bool → TextRow
table_text b collects =
    if collects then then_again (forget_pending ∷ hold_mode ∷ go_to modes.InTableText ∷ []) else in_body_text b

in_table_same : (b x y : Bool) → y ≡ x → table_text b y ≡ table_text b x
in_table_same b x y e = ap (table_text b) e

text_same : (m : InsertionMode) (b : Bool) (s t : State) → t.options ≡ s.options → collects_text t ≡ collects_text s →
    is_in_column_group t ≡ is_in_column_group s → text_row m b t ≡ text_row m b s
text_same modes.Initial true s t o c g = refl
text_same modes.Initial false s t o c g = ap (λ (options : TreeBuilderOpts). then_again
    (if options.iframe_srcdoc then go_to modes.BeforeHtml ∷ []
    else set_quirks Quirks ∷ go_to modes.BeforeHtml ∷ [])) o
text_same modes.InTable b s t o c g = in_table_same b _ _ c
text_same modes.InTableBody b s t o c g = in_table_same b _ _ c
text_same modes.InRow b s t o c g = in_table_same b _ _ c
text_same modes.InColumnGroup true s t o c g = refl
text_same modes.InColumnGroup false s t o c g =
    ap (λ (x : Bool). if x then then_again column_group_closed else dropped) g
text_same m b s t o c g = refl

-- a state before a run, and the same with characters inserted
module _ (laws : TextLaws) (s : State) (ready : Ready s) where
  stays : (ds : List ℕ) (n : ℕ) → IsIn n s.tree.stack → kind_at n (said ds s.tree).forest ≡ kind_at n s.tree.forest
  stays ds n there = laws.words.says_elsewhere ds n s.tree (ready.sound.elements n there)

  by_mode_same : (ds : List ℕ) (ok : Bool) (c : ℕ) → is_by_mode (character c) (ahead ds ok s)
      ≡ is_by_mode (character c) s
  by_mode_same ds ok c = ap (λ (b : Bool). is_text s.mode || b)
      (taken_same (character c) s.tree.forest (said ds s.tree).forest s.context s.tree.stack (stays ds)
      (λ n is. laws.words.says_elsewhere ds n s.tree (ready.context n is)))

  row_same : (ds : List ℕ) (ok b : Bool) → text_row s.mode b (ahead ds ok s) ≡ text_row s.mode b s
  row_same ds ok b = text_same s.mode b s (ahead ds ok s) refl
      (current_same table_text_places s.tree (said ds s.tree) s.tree.stack (stays ds))
      (current_same (one (codes "colgroup")) s.tree (said ds s.tree) s.tree.stack (stays ds))

  ahead_ready : (ds : List ℕ) (ok : Bool) → Ready (ahead ds ok s)
  unfolding act
  ahead_ready ds ok =
      let said_ready : Ready (record s { tree = said ds s.tree }) = laws.actions (say ds) s ready in
      record { sound = said_ready.sound; head = said_ready.head; context = said_ready.context }

  -- a further character is inserted
  further : (ds : List ℕ) (ok more : Bool) (c : ℕ) →
      record (ahead ds ok s) { frameset_ok = more; tree = said (c ∷ []) (said ds s.tree) }
      ≡ ahead (ds ++ c ∷ []) more s
  further ds ok more c = ap (λ (b : Building). record s { frameset_ok = more; tree = b })
      (laws.words.says_as_one ds (c ∷ []) s.tree ready.sound)

  -- a run whose characters are inserted one by one
  run_of : (after : Bool → ℕ → Bool) (cs ds : List ℕ) (ok : Bool) →
      ((c : ℕ) (ds : List ℕ) (ok : Bool) → IsIn c cs → taken_character (ahead ds ok s) c
      ≡ record (ahead ds ok s) { frameset_ok = after ok c; tree = said (c ∷ []) (said ds s.tree) }) →
      took cs (ahead ds ok s) ≡ ahead (ds ++ cs) (fold after ok cs) s
  run_of after [] ds ok step = ap (λ l. ahead l ok s) (sym (append-nil ds))
  run_of after (c ∷ cs) ds ok step =
      ap (took cs) (step c ds ok (inl refl) ∙ further ds ok (after ok c) c)
      ∙ (run_of after cs (ds ++ c ∷ []) (after ok c) (λ d es o i. step d es o (inr i))
      ∙ ap (λ l. ahead l (fold after (after ok c) cs) s) (append_assoc ds (c ∷ []) cs))

-- one character, by a rule that takes it
by_done : TextLaws → (s : State) (c : ℕ) (actions : List Action) → IsCalm s → rule (character c) s ≡ done actions →
    taken_character s c ≡ act_all actions s
by_done laws s c actions calm is = character_taken s c calm.flag
    ∙ ap (λ (t : Settled). t.state) (laws.comes (character c) s calm.ready
    ∙ ap (λ r. given_by r s (taken (character c))) is)

-- ignored
pub dropped_run : TextLaws → (s : State) (cs : List ℕ) → IsCalm s → AreByMode s → AreOfClass classes.Dropped cs s →
    took cs s ≡ s
dropped_run laws s [] calm by are = refl
dropped_run laws s (c ∷ cs) calm by are =
    ap (took cs) (by_done laws s c [] calm (mode_rule s c (by c) ∙ ap (for_character c) (are c (inl refl))))
    ∙ dropped_run laws s cs calm by (λ d i. are d (inr i))

-- kept
pub kept_run : TextLaws → (s : State) (cs : List ℕ) → IsCalm s → AreByMode s → AreOfClass classes.Kept cs s →
    took cs s ≡ fold (λ s c. act (keep_pending c) s) s cs
unfolding act
kept_run laws s [] calm by are = refl
kept_run laws s (c ∷ cs) calm by are =
    ap (took cs) (by_done laws s c (keep_pending c ∷ []) calm
    (mode_rule s c (by c) ∙ ap (for_character c) (are c (inl refl))))
    ∙ kept_run laws (act (keep_pending c) s) cs (record {
      ready = laws.actions (keep_pending c) s calm.ready;
      flag = calm.flag;
    }) (λ d. by d) (λ d i. text_same s.mode (is_white_space d) s (act (keep_pending c) s) refl refl refl
    ∙ are d (inr i))

-- inserted
abbrev always : Bool → ℕ → Bool
always ok c = ok

fold_always : (cs : List ℕ) (ok : Bool) → fold always ok cs ≡ ok
fold_always [] ok = refl
fold_always (c ∷ cs) ok = fold_always cs ok

pub inserted_run : TextLaws → (s : State) (cs : List ℕ) → IsCalm s → AreByMode s →
    AreOfClass classes.Inserted cs s → took cs s ≡ act (say cs) s
unfolding act
inserted_run laws s cs calm by are = run_of laws s calm.ready always cs [] s.frameset_ok
    (λ c ds ok i. by_done laws (ahead ds ok s) c (say (c ∷ []) ∷ [])
    (record { ready = ahead_ready laws s calm.ready ds ok; flag = calm.flag })
    (mode_rule (ahead ds ok s) c (by_mode_same laws s calm.ready ds ok c ∙ by c)
    ∙ ap (for_character c) (row_same laws s calm.ready ds ok (is_white_space c) ∙ are c i)))
    ∙ ap (λ ok. ahead cs ok s) (fold_always cs s.frameset_ok)

-- in foreign content
abbrev refusing : Bool → ℕ → Bool
refusing ok c = is_white_space c && ok

and_false : (b : Bool) → (b && false) ≡ false
and_false true = refl
and_false false = refl

refused_by : (w ok : Bool) (all : Bool) → (all && (w && ok)) ≡ ((if w then all else false) && ok)
refused_by true ok all = refl
refused_by false ok all = and_false all

fold_refusing : (cs : List ℕ) (ok : Bool) → fold refusing ok cs ≡ (all_are is_white_space cs && ok)
fold_refusing [] ok = refl
fold_refusing (c ∷ cs) ok =
    fold_refusing cs (is_white_space c && ok) ∙ refused_by (is_white_space c) ok (all_are is_white_space cs)

foreign_taken : TextLaws → (b : Bool) (t : State) (c : ℕ) → IsCalm t →
    rule (character c) t ≡ for_character c (foreign_text b) →
    taken_character t c ≡ record t { frameset_ok = b && t.frameset_ok; tree = said (c ∷ []) t.tree }
unfolding act
foreign_taken laws true t c calm is = by_done laws t c _ calm is
foreign_taken laws false t c calm is = by_done laws t c _ calm is

pub foreign_run : TextLaws → (s : State) (cs : List ℕ) → IsCalm s →
    ((c : ℕ) → is_by_mode (character c) s ≡ false) → took cs s ≡ emitted cs s
foreign_run laws s cs calm by = run_of laws s calm.ready refusing cs [] s.frameset_ok
    (λ c ds ok i. foreign_taken laws (is_white_space c) (ahead ds ok s) c
    (record { ready = ahead_ready laws s calm.ready ds ok; flag = calm.flag })
    (foreign_rule (ahead ds ok s) c (by_mode_same laws s calm.ready ds ok c ∙ by c)))
    ∙ ap (λ ok. ahead cs ok s) (fold_refusing cs s.frameset_ok)

-- in the body: the first character reconstructs the formatting elements, and the next ones find them there
body_taken : TextLaws → (b : Bool) (t : State) (c : ℕ) → IsCalm t →
    rule (character c) t ≡ for_character c (in_body_text b) →
    taken_character t c ≡ record t {
      frameset_ok = b && t.frameset_ok;
      tree = said (c ∷ []) (reconstructed t.tree);
    }
unfolding act
body_taken laws true t c calm is = by_done laws t c _ calm is
body_taken laws false t c calm is = by_done laws t c _ calm is

abbrev anew : State → State
anew s = record s { tree = reconstructed s.tree }

anew_ready : TextLaws → (s : State) → Ready s → Ready (anew s)
unfolding act
anew_ready laws s ready = laws.actions reconstruct s ready

or_true : (a b : Bool) → b ≡ true → (a || b) ≡ true
or_true true b e = refl
or_true false b e = e

-- the new current node is an element of HTML
by_new_top : (s : State) (c : ℕ) → (new : IsTopped s.tree (reconstructed s.tree)) →
    (is_text s.mode || is_taken_at (character c) (reconstructed s.tree).forest (Some new.top)) ≡ true
by_new_top s c new = or_true (is_text s.mode) _
    (ap (λ (name : QualName). takes (character c) name
    (is_integration_point new.top (reconstructed s.tree).forest)) new.name)

-- where it alone is open in a fragment, nothing was open before, and the context is what it was
by_top : NodeLaws → (s : State) (c : ℕ) → Ready s → (new : IsTopped s.tree (reconstructed s.tree)) →
    (context : Option ℕ) (rest : List ℕ) → s.context ≡ context → new.rest ≡ rest →
    is_by_mode (character c) s ≡ true →
    (is_text s.mode || is_taken_at (character c) (reconstructed s.tree).forest
    (adjusted_current context (new.top ∷ rest))) ≡ true
by_top laws s c ready new None rest is alone e = by_new_top s c new
by_top laws s c ready new (Some n) [] is alone e =
    let first = new.alone alone in
    let there : Holds n s.tree.forest = laws.element_there n s.tree.forest (ready.context n is) in
    ap (λ k. is_text s.mode || takes_by (character c) k) (first.kinds n there)
    ∙ (sym (ap (λ o. is_text s.mode || is_taken_at (character c) s.tree.forest (adjusted_current o s.tree.stack)) is
    ∙ ap (λ stack. is_text s.mode || is_taken_at (character c) s.tree.forest (adjusted_current (Some n) stack))
    first.stack) ∙ e)
by_top laws s c ready new (Some n) (m ∷ ms) is alone e = by_new_top s c new

-- text is taken by the mode after a reconstruction too
by_anew : NodeLaws → (s : State) (c : ℕ) → Ready s →
    IsSame s.tree (reconstructed s.tree) ⊎ IsTopped s.tree (reconstructed s.tree) →
    is_by_mode (character c) s ≡ true → is_by_mode (character c) (anew s) ≡ true
by_anew laws s c ready (inl same) e =
    ap (λ stack. is_text s.mode || is_taken_at (character c) (reconstructed s.tree).forest
    (adjusted_current s.context stack)) same.stack
    ∙ (ap (λ f. is_text s.mode || is_taken_at (character c) f (adjusted_current s.context s.tree.stack)) same.forest
    ∙ e)
by_anew laws s c ready (inr new) e =
    ap (λ stack. is_text s.mode || is_taken_at (character c) (reconstructed s.tree).forest
    (adjusted_current s.context stack)) new.stack
    ∙ by_top laws s c ready new s.context new.rest refl refl e

-- it is no table's after one either
collects_anew : (s : State) → IsSame s.tree (reconstructed s.tree) ⊎ IsTopped s.tree (reconstructed s.tree) →
    collects_text s ≡ false → collects_text (anew s) ≡ false
collects_anew s (inl same) e =
    ap (is_current table_text_places (reconstructed s.tree)) same.stack
    ∙ (by s.tree.stack ∙ e) where
      by : (stack : List ℕ) → is_current table_text_places (reconstructed s.tree) stack
          ≡ is_current table_text_places s.tree stack
      by [] = refl
      by (n ∷ ns) = ap (λ f. is_element_of table_text_places (name_of n f)) same.forest
collects_anew s (inr new) e =
    ap (is_current table_text_places (reconstructed s.tree)) new.stack
    ∙ (ap (is_element_of table_text_places) new.name ∙ no_table_place new.tag new.kind)

in_table_anew : (b x y : Bool) → (x ≡ false → y ≡ false) → table_text b x ≡ in_body_text b →
    table_text b y ≡ in_body_text b
in_table_anew true true y keeps e = absurd (cc)
in_table_anew false true y keeps e = absurd (cc)
in_table_anew b false y keeps e = ap (table_text b) (keeps refl)

row_anew : (m : InsertionMode) (b : Bool) (s t : State) → t.options ≡ s.options →
    (collects_text s ≡ false → collects_text t ≡ false) → text_row m b s ≡ in_body_text b →
    text_row m b t ≡ in_body_text b
row_anew modes.Initial true s t o c e = absurd (cc)
row_anew modes.Initial false s t o c e = absurd (cc)
row_anew modes.InTable b s t o c e = in_table_anew b (collects_text s) (collects_text t) c e
row_anew modes.InTableBody b s t o c e = in_table_anew b (collects_text s) (collects_text t) c e
row_anew modes.InRow b s t o c e = in_table_anew b (collects_text s) (collects_text t) c e
row_anew modes.InColumnGroup true s t o c e = absurd (cc)
row_anew modes.InColumnGroup false s t o c e = absurd (by (is_in_column_group s) e) where
  by : (x : Bool) → (if x then then_again column_group_closed else dropped) ≡ in_body_text false → ⊥
  by true e = absurd (cc)
  by false e = absurd (cc)
row_anew m b s t o c e = e

module _ (laws : TextLaws) (s : State) (ready : Ready s) where
  top : IsSame s.tree (reconstructed s.tree) ⊎ IsTopped s.tree (reconstructed s.tree)
  top = reconstructed_top laws.nodes s.tree ready.sound

  body_step : (flag : s.skip_lf ≡ false) (c : ℕ) (ds : List ℕ) (ok : Bool) → is_by_mode (character c) s ≡ true →
      text_row s.mode (is_white_space c) s ≡ in_body_text (is_white_space c) →
      taken_character (ahead ds ok (anew s)) c
      ≡ record (ahead ds ok (anew s)) {
        frameset_ok = is_white_space c && ok;
        tree = said (c ∷ []) (said ds (anew s).tree);
      }
  body_step flag c ds ok by is =
      let base : Ready (anew s) = anew_ready laws s ready in
      body_taken laws (is_white_space c) (ahead ds ok (anew s)) c
      (record { ready = ahead_ready laws (anew s) base ds ok; flag = flag })
      (mode_rule (ahead ds ok (anew s)) c (by_mode_same laws (anew s) base ds ok c ∙
      by_anew laws.nodes s c ready top by)
      ∙ ap (for_character c) (row_same laws (anew s) base ds ok (is_white_space c)
      ∙ row_anew s.mode (is_white_space c) s (anew s) refl (collects_anew s top) is))
      ∙ ap (λ (b : Building). record (ahead ds ok (anew s)) {
        frameset_ok = is_white_space c && ok;
        tree = said (c ∷ []) b;
      }) (laws.words.reconstructs_once ds s.tree)

pub body_run : TextLaws → (s : State) (c : ℕ) (cs : List ℕ) → IsCalm s → AreByMode s →
    AreOfClass classes.InBody (c ∷ cs) s → took (c ∷ cs) s ≡ emitted (c ∷ cs) (act reconstruct s)
unfolding act
body_run laws s c cs calm by are =
    let step = body_step laws s calm.ready calm.flag in
    ap (took cs) (body_taken laws (is_white_space c) s c calm
    (mode_rule s c (by c) ∙ ap (for_character c) (are c (inl refl)))
    ∙ sym (step c [] s.frameset_ok (by c) (are c (inl refl))))
    ∙ (run_of laws (anew s) (anew_ready laws s calm.ready) refusing (c ∷ cs) [] s.frameset_ok
    (λ d ds ok i. step d ds ok (by d) (are d i))
    ∙ ap (λ ok. ahead (c ∷ cs) ok (anew s)) (fold_refusing (c ∷ cs) s.frameset_ok))

-- handed on
abbrev KeepsFlag : TextRow → State → Type 0
KeepsFlag dropped s = Unit {0}
KeepsFlag (said_after actions) s = Unit {0}
KeepsFlag kept s = Unit {0}
KeepsFlag (then_again actions) s = (act_all actions s).skip_lf ≡ s.skip_lf

flag_by : (x : Bool) (p q : TextRow) (s : State) → KeepsFlag p s → KeepsFlag q s → KeepsFlag (if x then p else q) s
flag_by true p q s h k = h
flag_by false p q s h k = k

initial_flag : (x : Bool) (s : State) → KeepsFlag (then_again
    (if x then go_to modes.BeforeHtml ∷ [] else set_quirks Quirks ∷ go_to modes.BeforeHtml ∷ [])) s
unfolding act
initial_flag true s = refl
initial_flag false s = refl

body_flag : (b : Bool) (s : State) → KeepsFlag (in_body_text b) s
body_flag true s = tt
body_flag false s = tt

table_flag : (b : Bool) (s : State) → KeepsFlag (table_text b (collects_text s)) s
unfolding act
table_flag b s = flag_by (collects_text s) _ (in_body_text b) s refl (body_flag b s)

keeps_flag : (m : InsertionMode) (b : Bool) (s : State) → KeepsFlag (text_row m b s) s
unfolding act
keeps_flag modes.Initial true s = tt
keeps_flag modes.Initial false s = initial_flag s.options.iframe_srcdoc s
keeps_flag modes.BeforeHtml true s = tt
keeps_flag modes.BeforeHtml false s = refl
keeps_flag modes.BeforeHead true s = tt
keeps_flag modes.BeforeHead false s = refl
keeps_flag modes.InHead true s = tt
keeps_flag modes.InHead false s = refl
keeps_flag modes.InHeadNoscript true s = tt
keeps_flag modes.InHeadNoscript false s = refl
keeps_flag modes.AfterHead true s = tt
keeps_flag modes.AfterHead false s = refl
keeps_flag modes.InTable b s = table_flag b s
keeps_flag modes.InTableBody b s = table_flag b s
keeps_flag modes.InRow b s = table_flag b s
keeps_flag modes.InColumnGroup true s = tt
keeps_flag modes.InColumnGroup false s =
    flag_by (is_in_column_group s) (then_again column_group_closed) dropped s refl tt
keeps_flag modes.AfterBody true s = tt
keeps_flag modes.AfterBody false s = refl
keeps_flag modes.AfterAfterBody true s = tt
keeps_flag modes.AfterAfterBody false s = refl
keeps_flag m true s = tt
keeps_flag m false s = tt

again_taken : TextLaws → (s : State) (c : ℕ) (actions : List Action) → IsCalm s → AreByMode s →
    text_row s.mode (is_white_space c) s ≡ then_again actions →
    taken (character c) s ≡ taken (character c) (act_all actions s)
again_taken laws s c actions calm by is = laws.comes (character c) s calm.ready
    ∙ ap (λ r. given_by r s (taken (character c))) (mode_rule s c (by c) ∙ ap (for_character c) is)

again_less : TextLaws → (s : State) (c : ℕ) (actions : List Action) → IsCalm s → AreByMode s →
    text_row s.mode (is_white_space c) s ≡ then_again actions → rank null (act_all actions s) < rank null s
again_less laws s c actions calm by is = subst (Falls (character c) s)
    (mode_rule s c (by c) ∙ ap (for_character c) is) (laws.falls (character c) s calm.ready)

less_by : TextLaws → (is_space : Bool) (s : State) (actions : List Action) → IsCalm s → AreByMode s →
    text_row s.mode is_space s ≡ then_again actions → rank null (act_all actions s) < rank null s
less_by laws true s actions calm by is = again_less laws s 32 actions calm by is
less_by laws false s actions calm by is = again_less laws s 65 actions calm by is

passed_by : TextLaws → (is_space : Bool) (s : State) (actions : List Action) → IsCalm s → AreByMode s →
    text_row s.mode is_space s ≡ then_again actions → IsPassedOn is_space s (act_all actions s)
passed_by laws is_space s actions calm by is =
    let flag : (act_all actions s).skip_lf ≡ false =
    subst (λ r. KeepsFlag r s) is (keeps_flag s.mode is_space s) ∙ calm.flag in
    record {
      same = λ c cs w. ap (took cs) (character_taken (act_all actions s) c flag
          ∙ (ap (λ (t : Settled). t.state) (sym (again_taken laws s c actions calm by
          (ap (λ b. text_row s.mode b s) w ∙ is)))
          ∙ sym (character_taken s c calm.flag)));
      less = less_by laws is_space s actions calm by is;
      flag = flag;
    }

pub all_runs : TextLaws → TextRuns
all_runs laws = record {
  dropped = dropped_run laws;
  kept = kept_run laws;
  inserted = inserted_run laws;
  in_body = body_run laws;
  foreign = foreign_run laws;
  passed_on = passed_by laws;
}
