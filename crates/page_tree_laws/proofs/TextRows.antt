-- Characters in the usual modes, and the text of a table, which is collected (WHATWG HTML, 13.2.6.4.9, 13.2.6.4.10).
use Rattle.std.proofs.Common.{◌≡◌, ◌+◌, if◌then◌else◌, [], ◌∷◌, ◌++◌, Bool, List, arith, false, refl, sym, true, ℕ}
use Rattle.rules_table.specs.Actions.{act, act_all, forget_pending, foster, go_back, go_to, hold_mode, keep_pending}
use Rattle.rules_table.specs.Actions.{reconstruct, refuse_frameset, say}
use Rattle.rules_table.specs.AfterBody.{body_again}
use Rattle.rules_table.specs.AfterHead.{body_made}
use Rattle.rules_table.specs.Asking.{all_are, collects_text}
use Rattle.rules_table.specs.BeforeHead.{head_made}
use Rattle.rules_table.specs.BeforeHtml.{html_made}
use Rattle.rules_table.specs.InBody.{in_body_text}
use Rattle.rules_table.specs.InHead.{head_closed}
use Rattle.rules_table.specs.InHeadNoscript.{noscript_closed}
use Rattle.rules_table.specs.InTable.{in_table_text_other, in_table_text_row}
use Rattle.rules_table.specs.Initial.{without_doctype}
use Rattle.rules_table.specs.Rows.{is_white_space, then_again}
use Rattle.rules_table.specs.State.{TreeToken, State, character, comment, doctype, end_of_file, finish, null, start}
use Rattle.rules_table.specs.Table.{row, text_row}
use Rattle.tree_predicates.specs.declared.modes.InsertionMode.{InsertionMode}
use Rattle.tree_predicates.specs.declared.modes.InsertionMode.TheVariants as modes
use Rattle.page_tree_laws.proofs.MildStarts.{without_doctype_mild}
use Rattle.page_tree_laws.proofs.PlainStates.{Comes, Gives, GivesText, IsPending, comes_same, in_text, mild_comes}
use Rattle.page_tree_laws.proofs.PlainStates.{stays, text_if, usually}
use Rattle.page_tree_laws.proofs.SpokenActions.{all_spoken}
use Rattle.page_tree_laws.proofs.UsualModes.{IsUsual, is_usual, out_usual}
use Rattle.page_tree_laws.proofs.WordTexts.{how_often_append}
use Rattle.page_tree_laws.specs.KeptText.{how_often, in_texts}

-- text of a table begins to be collected
collected : (s : State) → IsUsual s → collects_text s ≡ true →
    Comes [] s (act_all (forget_pending ∷ hold_mode ∷ go_to modes.InTableText ∷ []) s)
unfolding act
collected s usual is =
    let after = act_all (forget_pending ∷ hold_mode ∷ go_to modes.InTableText ∷ []) s in
    comes_same s after (in_text (record {
      page = usual.modes.page;
      mode = refl;
      original = usual.modes.mode;
      clean = usual.clean;
      current = is;
    })) (λ c. refl) (sym usual.modes.pending)

body_text : (is_space : Bool) (s : State) → GivesText s is_space (in_body_text is_space)
body_text true s = (tt, tt)
body_text false s = (tt, (tt, tt))

table_text : (is_space : Bool) (s : State) → IsUsual s → GivesText s is_space (in_table_text_row is_space s)
table_text is_space s usual = text_if (collects_text s) is_space s
    (then_again (forget_pending ∷ hold_mode ∷ go_to modes.InTableText ∷ [])) (in_body_text is_space)
    (collected s usual) (body_text is_space s)

none : {A : Type 0} → false ≡ true → A
none e = absurd (cc)

pub usual_text : (mode : InsertionMode) (is_space : Bool) (s : State) → is_usual mode ≡ true → IsUsual s →
    GivesText s is_space (text_row mode is_space s)
usual_text modes.Initial true s is usual = refl
usual_text modes.Initial false s is usual = mild_comes (without_doctype s) (without_doctype_mild s) s usual
usual_text modes.BeforeHtml true s is usual = refl
usual_text modes.BeforeHtml false s is usual = mild_comes html_made (refl, (refl, tt)) s usual
usual_text modes.BeforeHead true s is usual = refl
usual_text modes.BeforeHead false s is usual = mild_comes head_made (refl, (tt, (refl, tt))) s usual
usual_text modes.InHead true s is usual = tt
usual_text modes.InHead false s is usual = mild_comes head_closed (tt, (refl, tt)) s usual
usual_text modes.InHeadNoscript true s is usual = tt
usual_text modes.InHeadNoscript false s is usual = mild_comes noscript_closed (tt, (refl, tt)) s usual
usual_text modes.AfterHead true s is usual = tt
usual_text modes.AfterHead false s is usual = mild_comes body_made (refl, (refl, tt)) s usual
usual_text modes.InBody is_space s is usual = body_text is_space s
usual_text modes.Text is_space s is usual = tt
usual_text modes.InTable is_space s is usual = table_text is_space s usual
usual_text modes.InTableText is_space s is usual = none is
usual_text modes.InCaption is_space s is usual = body_text is_space s
usual_text modes.InColumnGroup is_space s is usual = none is
usual_text modes.InTableBody is_space s is usual = table_text is_space s usual
usual_text modes.InRow is_space s is usual = table_text is_space s usual
usual_text modes.InCell is_space s is usual = body_text is_space s
usual_text modes.InTemplate is_space s is usual = none is
usual_text modes.AfterBody true s is usual = (tt, tt)
usual_text modes.AfterBody false s is usual = mild_comes body_again (refl, tt) s usual
usual_text modes.InFrameset is_space s is usual = none is
usual_text modes.AfterFrameset is_space s is usual = none is
usual_text modes.AfterAfterBody true s is usual = (tt, tt)
usual_text modes.AfterAfterBody false s is usual = mild_comes body_again (refl, tt) s usual
usual_text modes.AfterAfterFrameset is_space s is usual = none is

-- the characters that wait are said, and wait no more
now_said : (x y p : ℕ) → y ≡ x + p → y + 0 ≡ (x + p) + 0
now_said x y p e = omega (arith, e)

alone : (x y p : ℕ) → y ≡ x + (p + (0 + (0 + 0))) → y ≡ x + p
alone x y p e = omega (arith, e)

amid : (x y p : ℕ) → y ≡ x + (0 + (0 + (p + (0 + (0 + (0 + (0 + 0))))))) → y ≡ x + p
amid x y p e = omega (arith, e)

pending_by : (b : Bool) (s : State) → IsPending s → Comes [] s (act_all (
    (if b then say s.pending ∷ []
    else foster true ∷ reconstruct ∷ say s.pending ∷ refuse_frameset ∷ foster false ∷ [])
    ++ forget_pending ∷ go_back ∷ []) s)
unfolding act
pending_by true s waits =
    let actions = say s.pending ∷ forget_pending ∷ go_back ∷ [] in
    let after = act_all actions s in
    let spoken = all_spoken actions (tt, (tt, (tt, tt))) s waits.clean in
    record {
      plain = usually (record {
        modes = record {
          page = waits.page;
          mode = out_usual s.original waits.original;
          original = waits.original;
          pending = refl;
        };
        clean = spoken.clean;
      });
      grows = λ c is. now_said (in_texts c s.tree.forest) (in_texts c after.tree.forest) (how_often c s.pending)
          (alone (in_texts c s.tree.forest) (in_texts c after.tree.forest) (how_often c s.pending) (spoken.texts c));
    }
pending_by false s waits =
    let actions = foster true ∷ reconstruct ∷ say s.pending ∷ refuse_frameset ∷ foster false ∷ forget_pending
    ∷ go_back ∷ [] in
    let after = act_all actions s in
    let spoken = all_spoken actions (tt, (tt, (tt, (tt, (tt, (tt, (tt, tt))))))) s waits.clean in
    record {
      plain = usually (record {
        modes = record {
          page = waits.page;
          mode = out_usual s.original waits.original;
          original = waits.original;
          pending = refl;
        };
        clean = spoken.clean;
      });
      grows = λ c is. now_said (in_texts c s.tree.forest) (in_texts c after.tree.forest) (how_often c s.pending)
          (amid (in_texts c s.tree.forest) (in_texts c after.tree.forest) (how_often c s.pending) (spoken.texts c));
    }

pub pending_comes : (s : State) → IsPending s → Gives [] s (in_table_text_other s)
pending_comes s waits = pending_by (all_are is_white_space s.pending) s waits

-- one character more waits
one_waits : (x p q n : ℕ) → q ≡ p + n → x + q ≡ (x + p) + n
one_waits x p q n e = omega (arith, e)

pub waits_more : (d : ℕ) (s : State) → IsPending s → Comes (d ∷ []) s (act_all (keep_pending d ∷ []) s)
unfolding act
waits_more d s waits = record {
  plain = in_text (record {
    page = waits.page;
    mode = waits.mode;
    original = waits.original;
    clean = waits.clean;
    current = waits.current;
  });
  grows = λ c is. one_waits (in_texts c s.tree.forest) (how_often c s.pending) (how_often c (s.pending ++ d ∷ []))
      (how_often c (d ∷ [])) (how_often_append c s.pending (d ∷ []));
}

-- what a mark emits as text
abbrev pub emitted_by : TreeToken → List ℕ
emitted_by (character d) = d ∷ []
emitted_by null = []
emitted_by (comment cs) = []
emitted_by (doctype d) = []
emitted_by (start t) = []
emitted_by (finish t) = []
emitted_by end_of_file = []

pub pending_row : (mark : TreeToken) (s : State) → IsPending s →
    Gives (emitted_by mark) s (row modes.InTableText mark s)
pending_row (character d) s waits = waits_more d s waits
pending_row null s waits = stays s (in_text waits)
pending_row (comment cs) s waits = pending_comes s waits
pending_row (doctype d) s waits = pending_comes s waits
pending_row (start t) s waits = pending_comes s waits
pending_row (finish t) s waits = pending_comes s waits
pending_row end_of_file s waits = pending_comes s waits
