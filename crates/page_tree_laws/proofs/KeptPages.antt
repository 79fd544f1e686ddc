-- The text of a page is kept, and after its end none of it waits.
use Rattle.std.proofs.Common.{◌≡◌, ◌+◌, ◌<◌, if◌then◌else◌, [], ◌∷◌, ◌++◌, ◌∙◌, Bool, List, ap, arith, false, fold}
use Rattle.std.proofs.Common.{refl, subst, suc, sym, true, zero, ℕ}
use Rattle.token_grammar.specs.Items.{Item, tag}
use Rattle.token_grammar.specs.Items as items
use Rattle.token_grammar.specs.Reading.{Reading, ends, goes, tags}
use Rattle.token_grammar.specs.declared.modes.Mode.{Mode}
use Rattle.lex_base.specs.References.{References}
use Rattle.rules_table_laws.specs.Falls.{Falls}
use Rattle.rules_table.specs.Actions.{act_all}
use Rattle.rules_table.specs.Asking.{has_template}
use Rattle.rules_table.specs.ForeignContent.{is_by_mode}
use Rattle.rules_table.specs.Rank.{rank}
use Rattle.rules_table.specs.Rows.{Row, again, asks, done}
use Rattle.rules_table.specs.Rule.{foreign_row, rule}
use Rattle.rules_table.specs.Settling.{Ready, Settled, entered, given_by, meaning, past_tag, step, taken}
use Rattle.rules_table.specs.State.{Ask, State, encoding, end_of_file, nothing, plaintext, raw, script}
use Rattle.rules_table.specs.Table.{end_of_file_row, row}
use Rattle.page_tree_laws.proofs.KeptItems.{Facts, KeepsAll, all_ready, amount_begins, beginning_plain, further_down}
use Rattle.page_tree_laws.proofs.KeptItems.{items_keep, just_below, none_below, past_plain, past_ready, step_keeps}
use Rattle.page_tree_laws.proofs.KeptRule.{rule_gives}
use Rattle.page_tree_laws.proofs.MildEnds.{file_mild}
use Rattle.page_tree_laws.proofs.PlainStates.{Gives, IsMildRow, IsPlain, amount, in_group, in_text, usually}
use Rattle.page_tree_laws.proofs.UsualModes.{IsUsual, all_meek}
use Rattle.page_tree_laws.specs.KeptText.{EmitsPlainTags, how_often, in_emitted, is_kept, text_emitted}
use Rattle.page_tree_laws.specs.PageTexts.{KeepsTextOfPage, items_of}

-- after the end of a page no text waits
abbrev Ends : State → Row → Type 0
Ends s (done actions) = (act_all actions s).pending ≡ []
Ends s (asks ask actions) = (act_all actions s).pending ≡ []
Ends s (again actions) = Unit {0}

ends_if : (b : Bool) (s : State) (x y : Row) → Ends s x → Ends s y → Ends s (if b then x else y)
ends_if true s x y f g = f
ends_if false s x y f g = g

mild_ends : (r : Row) → IsMildRow r → (s : State) → IsUsual s → Ends s r
mild_ends (done actions) are s usual = (all_meek actions are s usual).usual.modes.pending
mild_ends (asks ask actions) are s usual = (all_meek actions are s usual).usual.modes.pending
mild_ends (again actions) are s usual = tt

row_ends : (s : State) → IsPlain s → Ends s (row s.mode end_of_file s)
row_ends s (usually usual) = mild_ends (end_of_file_row s.mode s) (file_mild s.mode s usual.modes.mode) s usual
row_ends s (in_text waits) = subst (λ m. Ends s (row m end_of_file s)) (sym waits.mode) tt
row_ends s (in_group group) = subst (λ m. Ends s (row m end_of_file s)) (sym group.mode)
    (ends_if (has_template s) s _ (done []) tt group.pending)

rule_ends : (s : State) → IsPlain s → Ends s (rule end_of_file s)
rule_ends s plain = ends_if (is_by_mode end_of_file s) s (row s.mode end_of_file s) (foreign_row end_of_file s)
    (row_ends s plain) (row_ends s plain)

entered_ends : (ask : Ask) (s : State) → s.pending ≡ [] → (entered ask s).pending ≡ []
entered_ends nothing s e = e
entered_ends plaintext s e = e
entered_ends (raw kind) s e = e
entered_ends (script n) s e = e
entered_ends (encoding name) s e = e

given_ends : (facts : Facts) (s : State) (r : Row) (further : State → Settled) → Ready s → Falls end_of_file s r →
    Gives [] s r → Ends s r →
    ((s' : State) → Ready s' → IsPlain s' → rank end_of_file s' < rank end_of_file s →
    (further s').state.pending ≡ []) →
    (given_by r s further).state.pending ≡ []
given_ends facts s (done actions) further ready falls gives is more = is
given_ends facts s (asks ask actions) further ready falls gives is more = entered_ends ask (act_all actions s) is
given_ends facts s (again actions) further ready falls gives is more =
    more (act_all actions s) (all_ready facts.actions actions s ready) gives.plain falls

in_both : (c : ℕ) (xs ys : List Item) → in_emitted c (xs ++ ys) ≡ in_emitted c xs + in_emitted c ys
in_both c [] ys = omega arith
in_both c (x ∷ xs) ys = more_emitted (how_often c (text_emitted x)) (in_emitted c xs) (in_emitted c ys)
    (in_emitted c (xs ++ ys))
    (in_both c xs ys) where
      more_emitted : (h n m k : ℕ) → k ≡ n + m → h + k ≡ (h + n) + m
      more_emitted h n m k e = omega (arith, e)

emits_front : (xs ys : List Item) → EmitsPlainTags (xs ++ ys) → EmitsPlainTags xs
emits_front [] ys are = tt
emits_front (x ∷ xs) ys are = (are.0, emits_front xs ys are.1)

emits_back : (xs ys : List Item) → EmitsPlainTags (xs ++ ys) → EmitsPlainTags ys
emits_back [] ys are = are
emits_back (x ∷ xs) ys are = emits_back xs ys are.1

-- what a state comes to at the end of a page
record IsRead (emitted : List Item) (s final : State) : Type 0 where
  pub grows : (c : ℕ) → is_kept c ≡ true → amount c final ≡ amount c s + in_emitted c emitted
  pub none : final.pending ≡ []

both_grow : (x y z n m k : ℕ) → y ≡ x + n → z ≡ y + m → k ≡ n + m → z ≡ x + k
both_grow x y z n m k e h i = omega (arith, e, h, i)

module _ (facts : Facts) where
  ends_within : (k : ℕ) (s : State) → rank end_of_file s < k → Ready s → IsPlain s →
      (taken end_of_file s).state.pending ≡ []
  ends_within zero s low ready plain = absurd (none_below (rank end_of_file s) low)
  ends_within (suc k) s low ready plain =
      subst (λ (t : Settled). t.state.pending ≡ []) (sym (facts.comes end_of_file s ready))
      (given_ends facts s (rule end_of_file s) (taken end_of_file) ready (facts.falls end_of_file s ready)
      (rule_gives end_of_file s tt plain) (rule_ends s plain)
      (λ s' ready' plain' down. ends_within k s'
      (further_down (rank end_of_file s') (rank end_of_file s) k down low) ready' plain'))

  -- the end is emitted
  end_read : (s final : State) → final ≡ step s items.end_of_file → Ready s → IsPlain s → IsRead [] s final
  end_read s final e ready plain =
      let keeps = step_keeps facts items.end_of_file s refl ready plain in
      let past = past_tag s in
      record {
        grows = λ c is. ap (amount c) e ∙ keeps.comes.grows c is;
        none = ap (λ (t : State). t.pending) e
            ∙ ends_within (suc (rank end_of_file past)) past (just_below (rank end_of_file past))
            (past_ready s ready) (past_plain s plain);
      }

  -- items are emitted before
  read_after : (xs ys : List Item) (s final : State) → KeepsAll facts xs s (fold step s xs) →
      IsRead ys (fold step s xs) final → IsRead (xs ++ ys) s final
  read_after xs ys s final first rest = record {
    grows = λ c is. both_grow (amount c s) (amount c (fold step s xs)) (amount c final) (in_emitted c xs)
        (in_emitted c ys)
        (in_emitted c (xs ++ ys)) (first.grows c is) (rest.grows c is) (in_both c xs ys);
    none = rest.none;
  }

  read : {H : Type 0} (table : References) (handle : ℕ → H) (mode : Mode) (s : State) (cs : List ℕ) (final : State)
      (reading : Reading table (meaning handle) mode s cs final) → Ready s → IsPlain s →
      EmitsPlainTags (items_of reading) → IsRead (items_of reading) s final
  read table handle mode s cs final (ends _ _ _ _ nothing_left e) ready plain are = end_read s final e ready plain
  read table handle mode s cs final (goes _ _ _ emitted trailing rest _ is further) ready plain are =
      let first = items_keep facts emitted s (emits_front emitted (items_of further) are) ready plain in
      read_after emitted (items_of further) s final first
      (read table handle trailing (fold step s emitted) rest final further first.ready first.plain
      (emits_back emitted (items_of further) are))
  read table handle mode s cs final (tags _ _ _ t rest _ is further) ready plain are =
      let first = items_keep facts (tag t ∷ []) s (are.0, tt) ready plain in
      read_after (tag t ∷ []) (items_of further) s final first
      (read table handle _ (step s (tag t)) rest final further first.ready first.plain are.1)

  pub page_kept : {H : Type 0} → KeepsTextOfPage H
  page_kept {H} table handle mode s cs final reading begins are c is =
      let read_up = read table handle mode s cs final reading begins.ready (beginning_plain s begins) are in
      sym (amount_begins c final read_up.none) ∙ (read_up.grows c is
      ∙ ap (λ k. k + in_emitted c (items_of reading)) (amount_begins c s begins.pending))
