-- What holds between two items of a page without templates and framesets, and what a row gives there: each character
-- that is kept stands in the texts of the tree, or waits, as often as before, and one that is emitted once more.
use Rattle.std.proofs.Common.{◌≡◌, ◌+◌, ◌==◌, if◌then◌else◌, [], ◌∷◌, ◌++◌, ◌∙◌, Bool, List, None, ap, arith, codes}
use Rattle.std.proofs.Common.{eqb-true, false, refl, subst, sym, true, ℕ}
use Rattle.html_tree_state.specs.Building.{Building}
use Rattle.html_tree_state.specs.OpenElements.{below_current}
use Rattle.tree_names.specs.Wanted.{one}
use Rattle.rules_table.specs.Actions.{Action, act, act_all, is_current, say}
use Rattle.rules_table.specs.Asking.{collects_text}
use Rattle.rules_table.specs.Rows.{Row, TextRow, again, asks, done, dropped, for_character, for_null, is_white_space}
use Rattle.rules_table.specs.Rows.{kept, said_after, then_again}
use Rattle.rules_table.specs.Settling.{entered}
use Rattle.rules_table.specs.State.{Ask, State, encoding, nothing, plaintext, raw, script}
use Rattle.tree_predicates.specs.declared.modes.InsertionMode.TheVariants as modes
use Rattle.page_tree_laws.proofs.CleanLists.{AreFormatting}
use Rattle.page_tree_laws.proofs.CleanWords.{AreFree, IsClean}
use Rattle.page_tree_laws.proofs.SpokenActions.{act_spoken}
use Rattle.page_tree_laws.proofs.UsualModes.{AreMild, IsMeek, IsUsual, all_meek, is_usual}
use Rattle.page_tree_laws.specs.KeptText.{how_often, in_texts, is_kept}

-- text of a table is collected: its current node is a part of the table
pub record IsPending (s : State) : Type 0 where
  pub page : s.context ≡ None
  pub mode : s.mode ≡ modes.InTableText
  pub original : is_usual s.original ≡ true
  pub clean : IsClean s.tree
  pub current : collects_text s ≡ true

-- the current node is a group of columns, and no other open element has a barred name
pub record IsGroupTree (b : Building) : Type 0 where
  pub current : is_current (one (codes "colgroup")) b b.stack ≡ true
  pub free : AreFree b.forest (below_current b.stack)
  pub listed : AreFormatting b.formatting

pub record IsInGroup (s : State) : Type 0 where
  pub page : s.context ≡ None
  pub mode : s.mode ≡ modes.InColumnGroup
  pub original : is_usual s.original ≡ true
  pub pending : s.pending ≡ []
  pub tree : IsGroupTree s.tree

pub data IsPlain (s : State) : Type 0 where
  usually : IsUsual s → IsPlain s
  in_text : IsPending s → IsPlain s
  in_group : IsInGroup s → IsPlain s

-- how often a character stands in the texts, or waits
abbrev pub amount : ℕ → State → ℕ
amount c s = in_texts c s.tree.forest + how_often c s.pending

pub record Comes (cs : List ℕ) (s s' : State) : Type 0 where
  pub plain : IsPlain s'
  pub grows : (c : ℕ) → is_kept c ≡ true → amount c s' ≡ amount c s + how_often c cs

abbrev pub Gives : List ℕ → State → Row → Type 0
Gives cs s (done actions) = Comes cs s (act_all actions s)
Gives cs s (asks ask actions) = Comes cs s (entered ask (act_all actions s))
Gives cs s (again actions) = Comes [] s (act_all actions s)

pub gives_if : (b : Bool) (cs : List ℕ) (s : State) (x y : Row) → (b ≡ true → Gives cs s x) →
    (b ≡ false → Gives cs s y) → Gives cs s (if b then x else y)
gives_if true cs s x y f g = f refl
gives_if false cs s x y f g = g refl

no_more : (x y p q : ℕ) → y ≡ x → q ≡ p → y + q ≡ (x + p) + 0
no_more x y p q e h = omega (arith, e, h)

pub comes_same : (s s' : State) → IsPlain s' → ((c : ℕ) → in_texts c s'.tree.forest ≡ in_texts c s.tree.forest) →
    s'.pending ≡ s.pending → Comes [] s s'
comes_same s s' plain texts pending = record {
  plain = plain;
  grows = λ c is. no_more (in_texts c s.tree.forest) (in_texts c s'.tree.forest) (how_often c s.pending)
      (how_often c s'.pending) (texts c) (ap (how_often c) pending);
}

pub stays : (s : State) → IsPlain s → Comes [] s s
stays s plain = comes_same s s plain (λ c. refl) refl

-- a mild row
abbrev pub IsMildRow : Row → Type 0
IsMildRow (done actions) = AreMild actions
IsMildRow (asks ask actions) = AreMild actions
IsMildRow (again actions) = AreMild actions

meek_comes : (s s' : State) → IsUsual s → IsMeek s s' → Comes [] s s'
meek_comes s s' usual meek = comes_same s s' (usually meek.usual) meek.texts
    (meek.usual.modes.pending ∙ sym usual.modes.pending)

meek_enters : (ask : Ask) (s s' : State) → IsUsual s → IsMeek s s' → Comes [] s (entered ask s')
meek_enters nothing s s' usual meek = meek_comes s s' usual meek
meek_enters plaintext s s' usual meek = meek_comes s s' usual meek
meek_enters (raw kind) s s' usual meek =
    let has = meek.usual.modes in
    meek_comes s (entered (raw kind) s') usual (record {
      usual = record {
        modes = record { page = has.page; mode = refl; original = has.mode; pending = has.pending };
        clean = meek.usual.clean;
      };
      texts = meek.texts;
    })
meek_enters (script n) s s' usual meek = meek_comes s s' usual meek
meek_enters (encoding name) s s' usual meek = meek_comes s s' usual meek

pub mild_comes : (actions : List Action) → AreMild actions → (s : State) → IsUsual s →
    Comes [] s (act_all actions s)
mild_comes actions are s usual = meek_comes s (act_all actions s) usual (all_meek actions are s usual)

pub mild_gives : (r : Row) → IsMildRow r → (s : State) → IsUsual s → Gives [] s r
mild_gives (done actions) are s usual = mild_comes actions are s usual
mild_gives (asks ask actions) are s usual =
    meek_enters ask s (act_all actions s) usual (all_meek actions are s usual)
mild_gives (again actions) are s usual = mild_comes actions are s usual

-- white space and U+FFFD are not counted
never_said : (b : Bool) → (b ≡ true → ⊥) → (if b then 1 else 0) + 0 ≡ 0
never_said true none = absurd (none refl)
never_said false none = refl

kept_space : (c d : ℕ) → is_kept c ≡ true → is_white_space d ≡ true → ¬ (d ≡ c)
kept_space c d is space e = kept_by (is_white_space c) (subst (λ k. is_white_space k ≡ true) e space) is where
  kept_by : (b : Bool) → b ≡ true → (if b then false else if c == 65533 then false else true) ≡ true → ⊥
  kept_by true h k = absurd (let j : false ≡ true = k in cc)
  kept_by false h k = absurd (let j : false ≡ true = h in cc)

pub space_apart : (c d : ℕ) → is_kept c ≡ true → is_white_space d ≡ true → how_often c (d ∷ []) ≡ 0
space_apart c d is space = never_said (d == c) (λ e. kept_space c d is space (eqb-true d c e))

kept_other : (c : ℕ) → is_kept c ≡ true → ¬ (65533 ≡ c)
kept_other c is e = absurd (let k : false ≡ true = subst (λ k. is_kept k ≡ true) (sym e) is in cc)

pub replacement_apart : (c : ℕ) → is_kept c ≡ true → how_often c (65533 ∷ []) ≡ 0
replacement_apart c is = never_said (65533 == c) (λ e. kept_other c is (eqb-true 65533 c e))

uncounted : (x n : ℕ) → n ≡ 0 → x ≡ x + n
uncounted x n e = omega (arith, e)

-- white space may go
pub space_goes : (d : ℕ) (s : State) → is_white_space d ≡ true → IsPlain s → Comes (d ∷ []) s s
space_goes d s space plain = record {
  plain = plain;
  grows = λ c is. uncounted (amount c s) (how_often c (d ∷ [])) (space_apart c d is space);
}

-- characters are said after mild actions
one_after_another : (x y z n k p q : ℕ) → y ≡ x → z ≡ y + n → q ≡ k → p ≡ k → z + q ≡ (x + p) + n
one_after_another x y z n k p q e h i j = omega (arith, e, h, i, j)

pub say_keeps : (cs : List ℕ) (s : State) → IsUsual s → IsUsual (act (say cs) s)
unfolding act
say_keeps cs s usual = record {
  modes = record {
    page = usual.modes.page;
    mode = usual.modes.mode;
    original = usual.modes.original;
    pending = usual.modes.pending;
  };
  clean = (act_spoken (say cs) tt s usual.clean).clean;
}

pub said_comes : (actions : List Action) (cs : List ℕ) → AreMild actions → (s : State) → IsUsual s →
    Comes cs s (act (say cs) (act_all actions s))
said_comes actions cs are s usual =
    let meek = all_meek actions are s usual in
    let after = act_all actions s in
    let spoken = act_spoken (say cs) tt after meek.usual.clean in
    let last : IsUsual (act (say cs) after) = say_keeps cs after meek.usual in
    record {
      plain = usually last;
      grows = λ c is. one_after_another (in_texts c s.tree.forest) (in_texts c after.tree.forest)
          (in_texts c (act (say cs) after).tree.forest) (how_often c cs) 0 (how_often c s.pending)
          (how_often c (act (say cs) after).pending) (meek.texts c) (spoken.texts c)
          (ap (how_often c) last.modes.pending) (ap (how_often c) usual.modes.pending);
    }

act_after : (xs : List Action) (y : Action) (s : State) → act_all (xs ++ y ∷ []) s ≡ act y (act_all xs s)
act_after [] y s = refl
act_after (x ∷ xs) y s = act_after xs y (act x s)

-- what a mode makes of a character
abbrev pub GivesText : State → Bool → TextRow → Type 0
GivesText s is_space dropped = is_space ≡ true
GivesText s is_space (said_after actions) = AreMild actions
GivesText s is_space kept = ⊥
GivesText s is_space (then_again actions) = Comes [] s (act_all actions s)

pub text_if : (b is_space : Bool) (s : State) (x y : TextRow) → (b ≡ true → GivesText s is_space x) →
    GivesText s is_space y → GivesText s is_space (if b then x else y)
text_if true is_space s x y f g = f refl
text_if false is_space s x y f g = g

pub of_character : (d : ℕ) (s : State) (r : TextRow) → GivesText s (is_white_space d) r → IsUsual s →
    Gives (d ∷ []) s (for_character d r)
of_character d s dropped is usual = space_goes d s is (usually usual)
of_character d s (said_after actions) are usual = subst (Comes (d ∷ []) s)
    (sym (act_after actions (say (d ∷ [])) s)) (said_comes actions (d ∷ []) are s usual)
of_character d s kept none usual = absurd none
of_character d s (then_again actions) comes usual = comes

pub of_null : (s : State) (r : TextRow) → GivesText s false r → IsUsual s → Gives [] s (for_null r)
of_null s dropped is usual = stays s (usually usual)
of_null s (said_after actions) are usual = stays s (usually usual)
of_null s kept none usual = absurd none
of_null s (then_again actions) comes usual = comes
