-- Text is kept by a mark that is taken, by an item, and by the items of a page.
use Rattle.std.proofs.Common.{◌≡◌, ◌+◌, ◌<◌, ◌==◌, ◌&&◌, if◌then◌else◌, [], ◌∷◌, ◌∙◌, Bool, List, ap, arith, eqb-true}
use Rattle.std.proofs.Common.{false, fold, refl, subst, suc, sym, true, zero, ℕ}
use Rattle.token_grammar.specs.Items.{Item}
use Rattle.token_grammar.specs.Items as items
use Rattle.html_lexemes.specs.declared.token.Tag.{Tag}
use Rattle.html_lexemes.specs.declared.token.TagKind.{TagKind}
use Rattle.html_lexemes.specs.declared.token.TagKind.TheVariants.{EndTag, StartTag}
use Rattle.rules_table_laws.specs.Falls.{Falls}
use Rattle.rules_table.specs.Actions.{Action, act, act_all}
use Rattle.rules_table.specs.Rank.{rank}
use Rattle.rules_table.specs.Rows.{Row, again, asks, done, is_white_space}
use Rattle.rules_table.specs.Rule.{rule}
use Rattle.rules_table.specs.Settling.{Ready, Settled, entered, given_by, mark_by, over, past_tag, step, taken}
use Rattle.rules_table.specs.Settling.{taken_character, taken_tag}
use Rattle.rules_table.specs.State.{Ask, State, TreeToken, character, comment, doctype, encoding, end_of_file, nothing}
use Rattle.rules_table.specs.State.{null, plaintext, raw, script}
use Rattle.rules_table.specs.Welcome.{ActionsKeep}
use Rattle.page_tree_laws.proofs.CleanLists.{AreFormatting}
use Rattle.page_tree_laws.proofs.CleanWords.{AreFree}
use Rattle.page_tree_laws.proofs.GroupRows.{IsPlainMark}
use Rattle.page_tree_laws.proofs.KeptRule.{rule_gives}
use Rattle.page_tree_laws.proofs.PlainNames.{plain_group}
use Rattle.page_tree_laws.proofs.PlainStates.{Comes, Gives, IsPlain, amount, in_group, in_text, space_goes, stays}
use Rattle.page_tree_laws.proofs.PlainStates.{usually}
use Rattle.page_tree_laws.proofs.TextRows.{emitted_by}
use Rattle.page_tree_laws.proofs.UsualModes.{is_usual}
use Rattle.page_tree_laws.specs.KeptText.{EmitsPlainTags, IsAtBeginning, KeepsText, how_often, in_emitted, in_texts}
use Rattle.page_tree_laws.specs.KeptText.{is_kept, is_plain, is_plain_name, text_emitted}

-- the laws that this crate stands on
pub record Facts : Type 0 where
  pub comes : (mark : TreeToken) (s : State) → Ready s → taken mark s ≡ given_by (rule mark s) s (taken mark)
  pub falls : (mark : TreeToken) (s : State) → Ready s → Falls mark s (rule mark s)
  pub actions : ActionsKeep

-- a state that comes of another, between two items
pub record Keeps (cs : List ℕ) (s s' : State) : Type 0 where
  pub ready : Ready s'
  pub comes : Comes cs s s'

pub all_ready : ActionsKeep → (actions : List Action) (s : State) → Ready s → Ready (act_all actions s)
all_ready keep [] s ready = ready
all_ready keep (action ∷ actions) s ready = all_ready keep actions (act action s) (keep action s ready)

entered_ready : (ask : Ask) (s : State) → Ready s → Ready (entered ask s)
entered_ready nothing s ready = ready
entered_ready plaintext s ready = ready
entered_ready (raw kind) s ready = record { sound = ready.sound; head = ready.head; context = ready.context }
entered_ready (script n) s ready = ready
entered_ready (encoding name) s ready = ready

then_more : (x y z n m : ℕ) → y ≡ x + n → z ≡ y + m → z ≡ x + (n + m)
then_more x y z n m e h = omega (arith, e, h)

after_none : (x y z n : ℕ) → y ≡ x + 0 → z ≡ y + n → z ≡ x + n
after_none x y z n e h = omega (arith, e, h)

keeps_after : (cs : List ℕ) (s s' s'' : State) → Comes [] s s' → Keeps cs s' s'' → Keeps cs s s''
keeps_after cs s s' s'' first keeps = record {
  ready = keeps.ready;
  comes = record {
    plain = keeps.comes.plain;
    grows = λ c is. after_none (amount c s) (amount c s') (amount c s'') (how_often c cs) (first.grows c is)
        (keeps.comes.grows c is);
  };
}

pub further_down : (x y k : ℕ) → x < y → y < suc k → x < k
further_down x y k h i = omega (arith, h, i)

pub just_below : (x : ℕ) → x < suc x
just_below x = omega arith

pub none_below : (x : ℕ) → ¬ (x < 0)
none_below x h = omega (arith, h)

-- what a row gives, where what is taken again keeps text
given_keeps : ActionsKeep → (mark : TreeToken) (s : State) (r : Row) (further : State → Settled) → Ready s →
    Falls mark s r → Gives (emitted_by mark) s r →
    ((s' : State) → Ready s' → IsPlain s' → rank mark s' < rank mark s →
    Keeps (emitted_by mark) s' (further s').state) →
    Keeps (emitted_by mark) s (given_by r s further).state
given_keeps keep mark s (done actions) further ready falls gives more =
    record { ready = all_ready keep actions s ready; comes = gives }
given_keeps keep mark s (asks ask actions) further ready falls gives more =
    record { ready = entered_ready ask (act_all actions s) (all_ready keep actions s ready); comes = gives }
given_keeps keep mark s (again actions) further ready falls gives more =
    let next = act_all actions s in
    keeps_after (emitted_by mark) s next (further next).state gives
    (more next (all_ready keep actions s ready) gives.plain falls)

module _ (facts : Facts) where
  taken_within : (k : ℕ) (mark : TreeToken) (s : State) → rank mark s < k → IsPlainMark mark → Ready s → IsPlain s →
      Keeps (emitted_by mark) s (taken mark s).state
  taken_within zero mark s low plain_mark ready plain = absurd (none_below (rank mark s) low)
  taken_within (suc k) mark s low plain_mark ready plain =
      subst (λ (t : Settled). Keeps (emitted_by mark) s t.state) (sym (facts.comes mark s ready))
      (given_keeps facts.actions mark s (rule mark s) (taken mark) ready (facts.falls mark s ready)
      (rule_gives mark s plain_mark plain)
      (λ s' ready' plain' down. taken_within k mark s' (further_down (rank mark s') (rank mark s) k down low)
      plain_mark ready' plain'))

  pub taken_keeps : (mark : TreeToken) (s : State) → IsPlainMark mark → Ready s → IsPlain s →
      Keeps (emitted_by mark) s (taken mark s).state
  taken_keeps mark s plain_mark ready plain =
      taken_within (suc (rank mark s)) mark s (just_below (rank mark s)) plain_mark ready plain

-- a flag that is turned
pub past_ready : (s : State) → Ready s → Ready (past_tag s)
past_ready s ready = record { sound = ready.sound; head = ready.head; context = ready.context }

pub past_plain : (s : State) → IsPlain s → IsPlain (past_tag s)
past_plain s (usually usual) = usually (record {
  modes = record {
    page = usual.modes.page;
    mode = usual.modes.mode;
    original = usual.modes.original;
    pending = usual.modes.pending;
  };
  clean = usual.clean;
})
past_plain s (in_text waits) = in_text (record {
  page = waits.page;
  mode = waits.mode;
  original = waits.original;
  clean = waits.clean;
  current = waits.current;
})
past_plain s (in_group group) = in_group (record {
  page = group.page;
  mode = group.mode;
  original = group.original;
  pending = group.pending;
  tree = group.tree;
})

over_plain : (s : State) → IsPlain s → IsPlain (over s)
over_plain s (usually usual) = usually (record {
  modes = record {
    page = usual.modes.page;
    mode = usual.modes.mode;
    original = usual.modes.original;
    pending = usual.modes.pending;
  };
  clean = usual.clean;
})
over_plain s (in_text waits) = in_text (record {
  page = waits.page;
  mode = waits.mode;
  original = waits.original;
  clean = waits.clean;
  current = waits.current;
})
over_plain s (in_group group) = in_group (record {
  page = group.page;
  mode = group.mode;
  original = group.original;
  pending = group.pending;
  tree = group.tree;
})

from_past : (cs : List ℕ) (s s' : State) → Keeps cs (past_tag s) s' → Keeps cs s s'
from_past cs s s' keeps = record {
  ready = keeps.ready;
  comes = record { plain = keeps.comes.plain; grows = keeps.comes.grows };
}

to_over : (cs : List ℕ) (s s' : State) → Keeps cs s s' → Keeps cs s (over s')
to_over cs s s' keeps = record {
  ready = record { sound = keeps.ready.sound; head = keeps.ready.head; context = keeps.ready.context };
  comes = record { plain = over_plain s' keeps.comes.plain; grows = keeps.comes.grows };
}

-- a line feed that is left out
ten : (x : Bool) (d : ℕ) → (x && d == 10) ≡ true → d ≡ 10
ten true d e = eqb-true d 10 e
ten false d e = absurd (let k : false ≡ true = e in cc)

left_out_by : (b : Bool) (d : ℕ) (s s' : State) → (b ≡ true → d ≡ 10) → Ready s → IsPlain s →
    Keeps (d ∷ []) s s' → Keeps (d ∷ []) s (if b then past_tag s else s')
left_out_by true d s s' is ready plain keeps = record {
  ready = past_ready s ready;
  comes =
      let goes = space_goes d (past_tag s) (subst (λ k. is_white_space k ≡ true) (sym (is refl)) refl)
      (past_plain s plain) in
      record { plain = goes.plain; grows = goes.grows };
}
left_out_by false d s s' is ready plain keeps = keeps

plain_mark : (kind : TagKind) (t : Tag) → is_plain_name kind t.name ≡ true → IsPlainMark (mark_by kind t)
plain_mark StartTag t plain = plain_group t.name plain
plain_mark EndTag t plain = tt

emits_nothing : (kind : TagKind) (t : Tag) → emitted_by (mark_by kind t) ≡ []
emits_nothing StartTag t = refl
emits_nothing EndTag t = refl

two_more : (x y z n m : ℕ) → y ≡ x + (n + 0) → z ≡ y + m → z ≡ x + (n + m)
two_more x y z n m e h = omega (arith, e, h)

one_by_one : (d : ℕ) (ds : List ℕ) (s s' s'' : State) → Keeps (d ∷ []) s s' → Keeps ds s' s'' → Keeps (d ∷ ds) s s''
one_by_one d ds s s' s'' first rest = record {
  ready = rest.ready;
  comes = record {
    plain = rest.comes.plain;
    grows = λ c is. two_more (amount c s) (amount c s') (amount c s'') (if d == c then 1 else 0) (how_often c ds)
        (first.comes.grows c is) (rest.comes.grows c is);
  };
}

module _ (facts : Facts) where
  past_taken : (mark : TreeToken) (s : State) → IsPlainMark mark → Ready s → IsPlain s →
      Keeps (emitted_by mark) s (taken mark (past_tag s)).state
  past_taken mark s is ready plain = from_past (emitted_by mark) s (taken mark (past_tag s)).state
      (taken_keeps facts mark (past_tag s) is (past_ready s ready) (past_plain s plain))

  character_keeps : (d : ℕ) (s : State) → Ready s → IsPlain s → Keeps (d ∷ []) s (taken_character s d)
  character_keeps d s ready plain = left_out_by (s.skip_lf && d == 10) d s (taken (character d) (past_tag s)).state
      (ten s.skip_lf d) ready plain (past_taken (character d) s tt ready plain)

  characters_keep : (cs : List ℕ) (s : State) → Ready s → IsPlain s → Keeps cs s (fold taken_character s cs)
  characters_keep [] s ready plain = record { ready = ready; comes = stays s plain }
  characters_keep (d ∷ ds) s ready plain =
      let first = character_keeps d s ready plain in
      one_by_one d ds s (taken_character s d) (fold taken_character (taken_character s d) ds) first
      (characters_keep ds (taken_character s d) first.ready first.comes.plain)

  pub step_keeps : (item : Item) (s : State) → is_plain item ≡ true → Ready s → IsPlain s →
      Keeps (text_emitted item) s (step s item)
  step_keeps (items.characters cs) s is ready plain = characters_keep cs s ready plain
  step_keeps items.null_character s is ready plain = past_taken null s tt ready plain
  step_keeps (items.tag t) s is ready plain =
      subst (λ cs. Keeps cs s (taken_tag t s).state) (emits_nothing t.kind t)
      (past_taken (mark_by t.kind t) s (plain_mark t.kind t is) ready plain)
  step_keeps (items.comment cs) s is ready plain = past_taken (comment cs) s tt ready plain
  step_keeps (items.doctype d) s is ready plain = past_taken (doctype d) s tt ready plain
  step_keeps items.error s is ready plain = from_past [] s (past_tag s) (record {
    ready = past_ready s ready;
    comes = stays (past_tag s) (past_plain s plain);
  })
  step_keeps items.end_of_file s is ready plain =
      to_over [] s (taken end_of_file (past_tag s)).state (past_taken end_of_file s tt ready plain)

  -- and the items of a page
  pub record KeepsAll (emitted : List Item) (s s' : State) : Type 0 where
    pub ready : Ready s'
    pub plain : IsPlain s'
    pub grows : (c : ℕ) → is_kept c ≡ true → amount c s' ≡ amount c s + in_emitted c emitted

  none_emitted : (x : ℕ) → x ≡ x + 0
  none_emitted x = omega arith

  pub items_keep : (emitted : List Item) (s : State) → EmitsPlainTags emitted → Ready s → IsPlain s →
      KeepsAll emitted s (fold step s emitted)
  items_keep [] s are ready plain =
      record { ready = ready; plain = plain; grows = λ c is. none_emitted (amount c s) }
  items_keep (item ∷ more) s are ready plain =
      let first = step_keeps item s are.0 ready plain in
      let rest = items_keep more (step s item) are.1 first.ready first.comes.plain in
      record {
        ready = rest.ready;
        plain = rest.plain;
        grows = λ c is. then_more (amount c s) (amount c (step s item)) (amount c (fold step (step s item) more))
            (how_often c (text_emitted item)) (in_emitted c more) (first.comes.grows c is) (rest.grows c is);
      }

-- the beginning of a page
no_open_elements : (s : State) (ns : List ℕ) → ns ≡ [] → AreFree s.tree.forest ns
no_open_elements s [] e = λ n i. absurd i
no_open_elements s (n ∷ ns) e = absurd (let k : n ∷ ns ≡ [] = e in cc)

pub beginning_plain : (s : State) → IsAtBeginning s → IsPlain s
beginning_plain s begins = usually (record {
  modes = record {
    page = begins.page;
    mode = ap is_usual begins.mode;
    original = ap is_usual begins.original;
    pending = begins.pending;
  };
  clean = record {
    free = no_open_elements s s.tree.stack begins.stack;
    listed = subst AreFormatting (sym begins.formatting) tt;
  };
})

pub amount_begins : (c : ℕ) (s : State) → s.pending ≡ [] → amount c s ≡ in_texts c s.tree.forest
amount_begins c s none = no_waiting (in_texts c s.tree.forest) (how_often c s.pending) (ap (how_often c) none) where
  no_waiting : (x p : ℕ) → p ≡ 0 → x + p ≡ x
  no_waiting x p e = omega (arith, e)

pub text_kept : Facts → (s : State) (emitted : List Item) → IsAtBeginning s → EmitsPlainTags emitted →
    KeepsText s emitted
text_kept facts s emitted begins are c is =
    let all = items_keep facts emitted s are begins.ready (beginning_plain s begins) in
    all.grows c is ∙ ap (λ k. k + in_emitted c emitted) (amount_begins c s begins.pending)
