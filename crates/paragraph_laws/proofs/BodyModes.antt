-- In the body, the tags of a paragraph and its text lead to no other mode, and ask nothing of the tokenizer.
use Rattle.std.proofs.Common.{◌≡◌, ◌==◌, ◌&&◌, [], ◌∷◌, if◌then◌else◌, Bool, List, ap, codes, false, fold, refl, subst}
use Rattle.std.proofs.Common.{sym, true, ℕ}
use Rattle.html_lexemes.specs.declared.token.Tag.{Tag}
use Rattle.tree_names.specs.Wanted.{one}
use Rattle.tree_names.specs.Groups.{tag_group}
use Rattle.tree_names.specs.declared.group.TagGroup.{TagGroup}
use Rattle.tree_names.specs.declared.group.TagGroup.TheVariants as groups
use Rattle.rules_table.specs.Actions.{act, break_out}
use Rattle.rules_table.specs.Asking.{in_button_scope}
use Rattle.rules_table.specs.ForeignContent.{foreign_text, is_by_mode}
use Rattle.rules_table.specs.InBody.{in_body_start, in_body_text}
use Rattle.rules_table.specs.InBodyEnds.{in_body_end}
use Rattle.rules_table.specs.Rank.{rank}
use Rattle.rules_table.specs.Rows.{Row, after, for_character, is_white_space}
use Rattle.rules_table.specs.Settling.{Settled, answer_of, given_by, meaning, past_tag, settle, taken, taken_character}
use Rattle.rules_table.specs.Settling.{taken_tag}
use Rattle.rules_table.specs.State.{TreeToken, State, character, finish, nothing, start}
use Rattle.tree_predicates.specs.declared.modes.InsertionMode.TheVariants.{InBody}
use Rattle.paragraph_laws.proofs.PagesRead.{Hears, Leads, closing, opening}

-- nothing is asked, and the body is read on
abbrev pub Stays : Settled → Type 0
Stays settled = (settled.ask ≡ nothing) × (settled.state.mode ≡ InBody)

either : (P : Row → Type 0) (b : Bool) (x y : Row) → P x → P y → P (if b then x else y)
either P true x y p q = p
either P false x y p q = q

-- a state in the body, no line feed being left out
abbrev body : State → State
body s = record s { mode = InBody; skip_lf = false }

is_body : (s : State) → s.mode ≡ InBody → past_tag s ≡ body s
is_body s e = ap (λ m. record s { mode = m; skip_lf = false }) e

module _ (s : State) (mark : TreeToken) where
  abbrev StaysBy : Row → Type 0
  StaysBy row = Stays (given_by row (body s) (settle (rank mark (body s)) mark))

of_paragraphs : tag_group (codes "p") ≡ groups.Paragraph
unfolding tag_group
of_paragraphs = refl

-- ---- the start tag

start_row_stays : (s : State) (group : TagGroup) → group ≡ groups.Paragraph →
    StaysBy s (start opening) (in_body_start group opening (body s))
unfolding act
start_row_stays s group e =
    subst (λ g. StaysBy s (start opening) (in_body_start g opening (body s))) (sym e) (refl, refl)

broken_start_stays : (s : State) (group : TagGroup) → group ≡ groups.Paragraph →
    StaysBy s (start opening) (after (break_out ∷ []) (in_body_start group opening (act break_out (body s))))
unfolding act
broken_start_stays s group e =
    subst (λ g. StaysBy s (start opening) (after (break_out ∷ []) (in_body_start g opening (act break_out (body s)))))
    (sym e) (refl, refl)

start_taken_stays : (s : State) → Stays (taken (start opening) (body s))
start_taken_stays s = either (StaysBy s (start opening)) (is_by_mode (start opening) (body s)) _ _
    (start_row_stays s (tag_group (codes "p")) of_paragraphs)
    (broken_start_stays s (tag_group (codes "p")) of_paragraphs)

pub start_stays : (s : State) → s.mode ≡ InBody → Stays (taken_tag opening s)
start_stays s e = subst (λ z. Stays (taken (start opening) z)) (sym (is_body s e)) (start_taken_stays s)

-- ---- the end tag

end_row_stays : (s : State) (group : TagGroup) → group ≡ groups.Paragraph →
    StaysBy s (finish closing) (in_body_end group closing (body s))
unfolding act
end_row_stays s group e = subst (λ g. StaysBy s (finish closing) (in_body_end g closing (body s))) (sym e)
    (either (StaysBy s (finish closing)) (in_button_scope (one (codes "p")) (body s)) _ _ (refl, refl) (refl, refl))

broken_end_stays : (s : State) (group : TagGroup) → group ≡ groups.Paragraph →
    StaysBy s (finish closing) (after (break_out ∷ []) (in_body_end group closing (act break_out (body s))))
unfolding act
broken_end_stays s group e =
    subst (λ g. StaysBy s (finish closing) (after (break_out ∷ []) (in_body_end g closing (act break_out (body s)))))
    (sym e)
    (either (λ row. StaysBy s (finish closing) (after (break_out ∷ []) row))
    (in_button_scope (one (codes "p")) (act break_out (body s))) _ _ (refl, refl) (refl, refl))

end_taken_stays : (s : State) → Stays (taken (finish closing) (body s))
end_taken_stays s = either (StaysBy s (finish closing)) (is_by_mode (finish closing) (body s)) _ _
    (end_row_stays s (tag_group (codes "p")) of_paragraphs)
    (broken_end_stays s (tag_group (codes "p")) of_paragraphs)

pub end_stays : (s : State) → s.mode ≡ InBody → Stays (taken_tag closing s)
end_stays s e = subst (λ z. Stays (taken (finish closing) z)) (sym (is_body s e)) (end_taken_stays s)

-- ---- text

text_row_stays : (s : State) (c : ℕ) (is_space : Bool) →
    StaysBy s (character c) (for_character c (in_body_text is_space))
unfolding act
text_row_stays s c true = (refl, refl)
text_row_stays s c false = (refl, refl)

foreign_row_stays : (s : State) (c : ℕ) (is_space : Bool) →
    StaysBy s (character c) (for_character c (foreign_text is_space))
unfolding act
foreign_row_stays s c true = (refl, refl)
foreign_row_stays s c false = (refl, refl)

character_stays : (s : State) (c : ℕ) → Stays (taken (character c) (body s))
character_stays s c = either (StaysBy s (character c)) (is_by_mode (character c) (body s)) _ _
    (text_row_stays s c (is_white_space c)) (foreign_row_stays s c (is_white_space c))

left_out_or : (skips : Bool) (x y : State) → x.mode ≡ InBody → y.mode ≡ InBody →
    (if skips then x else y).mode ≡ InBody
left_out_or true x y p q = p
left_out_or false x y p q = q

one_stays : (s : State) (c : ℕ) → s.mode ≡ InBody → (taken_character s c).mode ≡ InBody
one_stays s c e = left_out_or (s.skip_lf && c == 10) (past_tag s) (taken (character c) (past_tag s)).state e
    (subst (λ z. (taken (character c) z).state.mode ≡ InBody) (sym (is_body s e)) (character_stays s c).1)

pub text_stays : (s : State) (cs : List ℕ) → s.mode ≡ InBody → (fold taken_character s cs).mode ≡ InBody
text_stays s [] e = e
text_stays s (c ∷ cs) e = text_stays (taken_character s c) cs (one_stays s c e)

-- ---- so tree construction hears paragraphs

abbrev pub InTheBody : State → Type 0
InTheBody s = s.mode ≡ InBody

module _ {H : Type 0} (handle : ℕ → H) where
  pub stays_leads : (t : Tag) (s : State) → Stays (taken_tag t s) → Leads (meaning handle) InTheBody t s
  stays_leads t s stays = (ap (answer_of handle) stays.0, stays.1)

  pub body_hears : Hears (meaning handle) InTheBody
  body_hears = record {
    joins = λ s c cs. refl;
    skips = λ s. refl;
    opens = λ s e. stays_leads opening s (start_stays s e);
    emits = λ s cs e. text_stays s cs e;
    closes = λ s e. stays_leads closing s (end_stays s e);
  }
