-- A run that is free of the stops of a place is held there.
use Rattle.std.proofs.Common.{◌≡◌, ◌≢◌, ◌∙◌, ◌==◌, ◌&&◌, [], ◌∷◌, ◌++◌, if◌then◌else◌, Bool, IsTrue, List, MatchOption}
use Rattle.std.proofs.Common.{None, Option, Some, ap, append-nil, append_assoc, codes, drop, false, inl, inr, not}
use Rattle.std.proofs.Common.{option_map, refl, subst, sym, true, ℕ}
use Rattle.std.proofs.lemmas.Bool.{and_from, and_parts, cases_Bool, eq-eqb, eqb-true, false≢true}
use Rattle.std.proofs.lemmas.List.Folds.{list_all-append}
use Rattle.std.specs.List.{list_all}
use Rattle.html_lexemes.specs.Queue.{is_free_of, is_in}
use Rattle.lex_base.specs.References.{References}
use Rattle.html_lexemes.specs.declared.states.AttrValueKind.TheVariants.{Unquoted, SingleQuoted, DoubleQuoted}
use Rattle.html_lexemes.specs.declared.token.Tag.{Tag as SeenTag}
use Rattle.html_lexemes.specs.declared.token.TagKind.{TagKind}
use Rattle.token_grammar.specs.Slices.{Cut, after, cut, cut_here, longer, rest_while}
use Rattle.token_grammar.specs.Tags.{ends_attribute_name, ends_tag_name, ends_unquoted, tag_at, value_after}
use Rattle.token_grammar.proofs.SliceLemmas.{rest_on}
use Rattle.token_states.specs.CommentEnds.{IsNotClosed}
use Rattle.token_states.specs.Goings.{IsGoing}
use Rattle.token_states.specs.HeldRuns.{held_stops}
use Rattle.token_states.specs.MarkupSound.{HasNoGreater, IsOpenComment}
use Rattle.token_states.specs.Sound.{IsSound}
use Rattle.token_states.specs.TagPlaces.{IsInTag, rest_after_value, rest_in, tag_rest}
use Rattle.token_states.specs.declared.place.LexemeState.{LexemeState}
use Rattle.token_states.specs.declared.place.LexemeState.TheVariants.{BogusComment, CdataSection, CharacterReference}
use Rattle.token_states.specs.declared.place.LexemeState.TheVariants.{Comment, Doctype, EndTagOpen}
use Rattle.token_states.specs.declared.place.LexemeState.TheVariants.{MarkupDeclarationOpen, RawText, Tag, TagOpen}
use Rattle.token_states.specs.declared.place.LexemeState.TheVariants.{Text}
use Rattle.token_states.specs.declared.place.TagPlace.{TagPlace}
use Rattle.token_states.specs.declared.place.TagPlace.TheVariants.{AfterAttributeName, AttributeName, AttributeValue}
use Rattle.token_states.specs.declared.place.TagPlace.TheVariants.{BeforeAttributeName, BeforeAttributeValue, TagName}
use Rattle.token_states.proofs.CommentLemmas.{still_open_comment}

-- ---- characters that are no stop

-- a character outside a set is none of those in it
apart : (set : List ℕ) (c d : ℕ) → IsTrue (not (is_in set c)) → IsTrue (is_in set d) → (c == d) ≡ false
apart set c d out within =
    let same : (c == d) ≡ true → false ≡ true =
    λ e. sym (ap not within) ∙ subst (λ x. IsTrue (not (is_in set x))) (eqb-true c d e) out in
    elim (cases_Bool (c == d)) [ inl e ↦ absurd (false≢true (same e)) | inr e ↦ e ]

-- what holds of each character outside a set holds of all of a text without one of it
each_free : (set : List ℕ) (p : ℕ → Bool) → ((c : ℕ) → IsTrue (not (is_in set c)) → p c ≡ true) → (cs : List ℕ) →
    IsTrue (is_free_of set cs) → list_all p cs ≡ true
each_free set p h [] free = refl
each_free set p h (c ∷ cs) free =
    let parts = and_parts (not (is_in set c)) (is_free_of set cs) free in
    and_from (p c) (list_all p cs) (h c parts.0) (each_free set p h cs parts.1)

-- one character of the set is not in the text
without : (set : List ℕ) (d : ℕ) → IsTrue (is_in set d) → (cs : List ℕ) → IsTrue (is_free_of set cs) →
    list_all (λ c. not (c == d)) cs ≡ true
without set d within cs free = each_free set (λ c. not (c == d)) (λ c out. ap not (apart set c d out within)) cs free

-- ---- tags

while_passed : (p : ℕ → Bool) (cs rest : List ℕ) → list_all p cs ≡ true → rest_while p (cs ++ rest) ≡ rest_while p rest
while_passed p [] rest all = refl
while_passed p (c ∷ cs) rest all =
    let parts = and_parts (p c) (list_all p cs) all in
    rest_on p c (cs ++ rest) parts.0 ∙ while_passed p cs rest parts.1

longer_rest : (table : References) (c : ℕ) (value : Option Cut) →
    rest_after_value table (option_map (longer c) value) ≡ rest_after_value table value
longer_rest table c None = refl
longer_rest table c (Some value) = refl

not_false : (b : Bool) → not b ≡ true → b ≡ false
not_false true e = absurd cc
not_false false e = refl

quoted_on : (table : References) (q c : ℕ) (cs : List ℕ) → (c == q) ≡ false →
    rest_after_value table (cut (after (q ∷ [])) (c ∷ cs)) ≡ rest_after_value table (cut (after (q ∷ [])) cs)
quoted_on table q c cs e =
    ap (λ b. rest_after_value table (cut_here c (if b && true then Some cs else None) (cut (after (q ∷ [])) cs))) e
    ∙ longer_rest table c (cut (after (q ∷ [])) cs)

quoted_passed : (table : References) (q : ℕ) (cs rest : List ℕ) → list_all (λ c. not (c == q)) cs ≡ true →
    rest_after_value table (cut (after (q ∷ [])) (cs ++ rest)) ≡ rest_after_value table (cut (after (q ∷ [])) rest)
quoted_passed table q [] rest all = refl
quoted_passed table q (c ∷ cs) rest all =
    let parts = and_parts (not (c == q)) (list_all (λ d. not (d == q)) cs) all in
    quoted_on table q c (cs ++ rest) (not_false (c == q) parts.0) ∙ quoted_passed table q cs rest parts.1

-- what the sets leave of a name, and of a value without quotes
abbrev name_set : List ℕ
name_set = 9 ∷ 10 ∷ 12 ∷ 13 ∷ 32 ∷ 47 ∷ 62 ∷ []

abbrev attribute_set : List ℕ
attribute_set = 9 ∷ 10 ∷ 12 ∷ 13 ∷ 32 ∷ 47 ∷ 61 ∷ 62 ∷ []

abbrev value_set : List ℕ
value_set = 9 ∷ 10 ∷ 12 ∷ 13 ∷ 32 ∷ 62 ∷ []

in_name : (c : ℕ) → IsTrue (not (is_in name_set c)) → not (ends_tag_name c) ≡ true
in_name c out =
    let differs : (d : ℕ) → IsTrue (is_in name_set d) → (c == d) ≡ false = λ d within. apart name_set c d out within in
    rw (differs 9 refl, differs 10 refl, differs 12 refl, differs 32 refl, differs 47 refl, differs 62 refl) refl

in_attribute : (c : ℕ) → IsTrue (not (is_in attribute_set c)) → not (ends_attribute_name c) ≡ true
in_attribute c out =
    let differs : (d : ℕ) → IsTrue (is_in attribute_set d) → (c == d) ≡ false =
    λ d within. apart attribute_set c d out within in
    rw (
      differs 9 refl,
      differs 10 refl,
      differs 12 refl,
      differs 32 refl,
      differs 47 refl,
      differs 62 refl,
      differs 61 refl,
    ) refl

in_value : (c : ℕ) → IsTrue (not (is_in value_set c)) → not (ends_unquoted c) ≡ true
in_value c out =
    let differs : (d : ℕ) → IsTrue (is_in value_set d) → (c == d) ≡ false =
    λ d within. apart value_set c d out within in
    rw (differs 9 refl, differs 10 refl, differs 12 refl, differs 32 refl, differs 62 refl) refl

-- what follows a tag from a place on is what follows it after a run
abbrev Passes : TagPlace → List ℕ → Type 0
Passes place run = (table : References) (rest : List ℕ) → rest_in table place (run ++ rest) ≡ rest_in table place rest

name_passed : (run : List ℕ) → IsTrue (is_free_of name_set run) → Passes TagName run
name_passed run free table rest =
    let p : ℕ → Bool = λ c. not (ends_tag_name c) in
    ap (tag_rest table) (while_passed p run rest (each_free name_set p in_name run free))

attribute_passed : (run : List ℕ) → IsTrue (is_free_of attribute_set run) → Passes AttributeName run
attribute_passed run free table rest =
    let p : ℕ → Bool = λ c. not (ends_attribute_name c) in
    ap (λ l. rest_after_value table (value_after l))
    (while_passed p run rest (each_free attribute_set p in_attribute run free))

value_passed : (run : List ℕ) → IsTrue (is_free_of value_set run) → Passes (AttributeValue Unquoted) run
value_passed run free table rest =
    let p : ℕ → Bool = λ c. not (ends_unquoted c) in
    ap (tag_rest table) (while_passed p run rest (each_free value_set p in_value run free))

in_tag_on : (kind : TagKind) (place : TagPlace) (held run : List ℕ) → Passes place run → IsInTag kind place held →
    IsInTag kind place (held ++ run)
in_tag_on kind place held run passes h table rest =
    ap (λ l. option_map (λ (read : SeenTag × List ℕ). read.1) (tag_at table kind l)) (append_assoc held run rest)
    ∙ h table (run ++ rest) ∙ passes table rest

-- ---- comments and doctypes

last_same : (xs ys : List ℕ) (a b : ℕ) → xs ++ a ∷ [] ≡ ys ++ b ∷ [] → a ≡ b
last_same [] [] a b e = cc
last_same [] (y ∷ []) a b e = absurd cc
last_same [] (y ∷ z ∷ ys) a b e = absurd cc
last_same (x ∷ []) [] a b e = absurd cc
last_same (x ∷ z ∷ xs) [] a b e = absurd cc
last_same (x ∷ xs) (y ∷ ys) a b e = last_same xs ys a b (ap (drop 1) e)

-- a text that a character ends which is no `>` ends with no mark
ends_apart : (hs front mark : List ℕ) (c : ℕ) → c ≢ 62 → hs ++ c ∷ [] ≢ front ++ (mark ++ 62 ∷ [])
ends_apart hs front mark c other e =
    other (last_same hs (front ++ mark) c 62 (e ∙ sym (append_assoc front mark (62 ∷ []))))

not_closed : (hs : List ℕ) (c : ℕ) → c ≢ 62 → IsNotClosed (hs ++ c ∷ [])
not_closed hs c other = record {
  not_greater = ends_apart hs [] [] c other;
  not_arrow = ends_apart hs [] (codes "-") c other;
  not_end = λ front. ends_apart hs front (codes "--") c other;
  not_bang_end = λ front. ends_apart hs front (codes "--!") c other;
}

other_than : (c d : ℕ) → not (c == d) ≡ true → c ≢ d
other_than c d e same = false≢true (sym (ap not (eq-eqb c d same)) ∙ e)

comment_on : (run hs : List ℕ) → HasNoGreater run → IsOpenComment hs → IsOpenComment (hs ++ run)
comment_on [] hs none h = subst IsOpenComment (sym (append-nil hs)) h
comment_on (c ∷ run) hs none h =
    let parts = and_parts (not (c == 62)) (list_all (λ d. not (d == 62)) run) none in
    let other = other_than c 62 parts.0 in
    let one = still_open_comment hs (hs ++ c ∷ []) c h refl (not_closed hs c other) in
    subst IsOpenComment (append_assoc hs (c ∷ []) run) (comment_on run (hs ++ c ∷ []) parts.1 one)

none_on : (hs run : List ℕ) → HasNoGreater run → HasNoGreater hs → HasNoGreater (hs ++ run)
none_on hs run none h =
    let p : ℕ → Bool = λ c. not (c == 62) in
    list_all-append p hs run ∙ and_from (list_all p hs) (list_all p run) h none

-- ---- each place

abbrev mark_set : List ℕ
mark_set = 10 ∷ 13 ∷ 62 ∷ []

-- where a place has stops
abbrev WithStops : LexemeState → (List ℕ → Type 0) → Type 0
WithStops place P = MatchOption (held_stops place) (Unit {0}) P

sound_on : (place : LexemeState) (held run : List ℕ) →
    WithStops place (λ stops. IsTrue (is_free_of stops run) → IsSound place held → IsSound place (held ++ run))
sound_on Text held run = tt
sound_on (CharacterReference place) held run = tt
sound_on TagOpen held run = tt
sound_on EndTagOpen held run = tt
sound_on (Tag kind TagName) held run = λ free h. in_tag_on kind TagName held run (name_passed run free) h
sound_on (Tag kind BeforeAttributeName) held run = tt
sound_on (Tag kind AttributeName) held run =
    λ free h. in_tag_on kind AttributeName held run (attribute_passed run free) h
sound_on (Tag kind AfterAttributeName) held run = tt
sound_on (Tag kind BeforeAttributeValue) held run = tt
sound_on (Tag kind (AttributeValue Unquoted)) held run =
    λ free h. in_tag_on kind (AttributeValue Unquoted) held run (value_passed run free) h
sound_on (Tag kind (AttributeValue SingleQuoted)) held run =
    let none = without (10 ∷ 13 ∷ 39 ∷ []) 39 refl run in
    λ free. in_tag_on kind (AttributeValue SingleQuoted) held run
    (λ table rest. quoted_passed table 39 run rest (none free))
sound_on (Tag kind (AttributeValue DoubleQuoted)) held run =
    let none = without (10 ∷ 13 ∷ 34 ∷ []) 34 refl run in
    λ free. in_tag_on kind (AttributeValue DoubleQuoted) held run
    (λ table rest. quoted_passed table 34 run rest (none free))
sound_on MarkupDeclarationOpen held run = tt
sound_on BogusComment held run = λ free h. none_on held run (without mark_set 62 refl run free) h
sound_on Comment held run = λ free h. comment_on run held (without mark_set 62 refl run free) h
sound_on Doctype held run = λ free h. none_on held run (without mark_set 62 refl run free) h
sound_on CdataSection held run = tt
sound_on (RawText kind place) held run = tt

-- what goes on at a place with stops is sound, and no more is asked of it
going_on : (table : References) (last : Option (List ℕ)) (place : LexemeState) (held run : List ℕ) →
    WithStops place (λ stops. IsTrue (is_free_of stops run) → IsGoing table last place held →
    IsGoing table last place (held ++ run))
going_on table last Text held run = tt
going_on table last (CharacterReference place) held run = tt
going_on table last TagOpen held run = tt
going_on table last EndTagOpen held run = tt
going_on table last (Tag kind TagName) held run = sound_on (Tag kind TagName) held run
going_on table last (Tag kind BeforeAttributeName) held run = tt
going_on table last (Tag kind AttributeName) held run = sound_on (Tag kind AttributeName) held run
going_on table last (Tag kind AfterAttributeName) held run = tt
going_on table last (Tag kind BeforeAttributeValue) held run = tt
going_on table last (Tag kind (AttributeValue Unquoted)) held run =
    sound_on (Tag kind (AttributeValue Unquoted)) held run
going_on table last (Tag kind (AttributeValue SingleQuoted)) held run =
    sound_on (Tag kind (AttributeValue SingleQuoted)) held run
going_on table last (Tag kind (AttributeValue DoubleQuoted)) held run =
    sound_on (Tag kind (AttributeValue DoubleQuoted)) held run
going_on table last MarkupDeclarationOpen held run = tt
going_on table last BogusComment held run = sound_on BogusComment held run
going_on table last Comment held run = sound_on Comment held run
going_on table last Doctype held run = sound_on Doctype held run
going_on table last CdataSection held run = tt
going_on table last (RawText kind place) held run = tt

no_return : (place : LexemeState) (run : List ℕ) →
    WithStops place (λ stops. IsTrue (is_free_of stops run) → list_all (λ c. not (c == 13)) run ≡ true)
no_return Text run = tt
no_return (CharacterReference place) run = tt
no_return TagOpen run = tt
no_return EndTagOpen run = tt
no_return (Tag kind TagName) run = without name_set 13 refl run
no_return (Tag kind BeforeAttributeName) run = tt
no_return (Tag kind AttributeName) run = without attribute_set 13 refl run
no_return (Tag kind AfterAttributeName) run = tt
no_return (Tag kind BeforeAttributeValue) run = tt
no_return (Tag kind (AttributeValue Unquoted)) run = without value_set 13 refl run
no_return (Tag kind (AttributeValue SingleQuoted)) run = without (10 ∷ 13 ∷ 39 ∷ []) 13 refl run
no_return (Tag kind (AttributeValue DoubleQuoted)) run = without (10 ∷ 13 ∷ 34 ∷ []) 13 refl run
no_return MarkupDeclarationOpen run = tt
no_return BogusComment run = without mark_set 13 refl run
no_return Comment run = without mark_set 13 refl run
no_return Doctype run = without mark_set 13 refl run
no_return CdataSection run = tt
no_return (RawText kind place) run = tt

at_stops : (P : List ℕ → Type 0) (place : LexemeState) (stops : List ℕ) → held_stops place ≡ Some stops → WithStops place P →
    P stops
at_stops P place stops e h = subst (λ o. MatchOption o (Unit {0}) P) e h

pub run_sound : (place : LexemeState) (stops held run : List ℕ) → held_stops place ≡ Some stops →
    IsTrue (is_free_of stops run) → IsSound place held → IsSound place (held ++ run)
run_sound place stops held run e free h =
    at_stops (λ s. IsTrue (is_free_of s run) → IsSound place held → IsSound place (held ++ run)) place stops e
    (sound_on place held run) free h

pub run_going : (table : References) (last : Option (List ℕ)) (place : LexemeState) (stops held run : List ℕ) →
    held_stops place ≡ Some stops → IsTrue (is_free_of stops run) → IsGoing table last place held →
    IsGoing table last place (held ++ run)
run_going table last place stops held run e free h =
    at_stops (λ s. IsTrue (is_free_of s run) → IsGoing table last place held → IsGoing table last place (held ++ run))
    place stops e (going_on table last place held run) free h

pub run_lines : (place : LexemeState) (stops run : List ℕ) → held_stops place ≡ Some stops →
    IsTrue (is_free_of stops run) → IsTrue (list_all (λ c. not (c == 13)) run)
run_lines place stops run e free =
    let none : List ℕ → Type 0 = λ s. IsTrue (is_free_of s run) → list_all (λ c. not (c == 13)) run ≡ true in
    at_stops none place stops e (no_return place run) free
