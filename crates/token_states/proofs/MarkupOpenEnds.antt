-- What is held of markup is no lexeme yet.
use Rattle.std.proofs.Common.{◌≡◌, ◌≢◌, ◌&&◌, ◌==◌, [], ◌∷◌, ◌++◌, ◌∙◌, Bool, IsTrue, List, None, Option, Some, ap}
use Rattle.std.proofs.Common.{append-nil, append_assoc, codes, cond, drop, false, length, not, option_map, refl, subst}
use Rattle.std.proofs.Common.{sym, true, ℕ}
use Rattle.std.proofs.lemmas.Bool.{and_parts, both_ways, eq-eqb, false≢true}
use Rattle.std.specs.List.{list_all}
use Rattle.std.specs.Prelude.{if◌then◌else◌, is_some}
use Rattle.lex_base.specs.References.{References}
use Rattle.html_lexemes.specs.declared.states.AttrValueKind.TheVariants.{Unquoted, SingleQuoted, DoubleQuoted}
use Rattle.html_lexemes.specs.declared.token.Doctype.{Doctype as SeenDoctype}
use Rattle.html_lexemes.specs.declared.token.Tag.{Tag as SeenTag}
use Rattle.html_lexemes.specs.declared.token.TagKind.{TagKind}
use Rattle.token_grammar.specs.Characters.{is_space, name_of}
use Rattle.token_grammar.specs.Comments.{bogus_comment_slice, comment_mark, comment_slice, empty_comment}
use Rattle.token_grammar.specs.Comments.{found_or_ended}
use Rattle.token_grammar.specs.Doctypes.{DoctypeEnd, after_identifier, after_keyword, after_public, after_system}
use Rattle.token_grammar.specs.Doctypes.{doctype_at, ends_here, ends_identifier, identifier, is_quote, named_doctype}
use Rattle.token_grammar.specs.Doctypes.{public_at, skipped, system_at, system_or, with_public, with_quirks}
use Rattle.token_grammar.specs.Doctypes.{with_system}
use Rattle.token_grammar.specs.Lexemes.{Lexeme, comment_lexeme, declaration, emitted, lexeme_in, nothing, tag_lexeme}
use Rattle.token_grammar.specs.Lexemes.{tagged}
use Rattle.token_grammar.specs.Slices.{after, begins, begins_word, cut, cut_or_all, front_while, rest_while}
use Rattle.token_grammar.specs.Tags.{ends_unquoted, without_spaces}
use Rattle.token_grammar.specs.declared.modes.Mode.{Mode}
use Rattle.token_grammar.specs.declared.modes.TextKind.{TextKind}
use Rattle.token_grammar.specs.declared.modes.TextKind.TheVariants.{Ordinary, Plain, Raw}
use Rattle.token_states.specs.CommentEnds.{IsNotClosed}
use Rattle.token_states.specs.MarkupSound.{HasNoGreater, IsOpenComment, is_begun_declaration, is_begun_section_end}
use Rattle.token_states.specs.OpenEnds.{IsOpenEnded, is_steady}
use Rattle.token_states.specs.Places.{place_lexeme}
use Rattle.token_states.specs.Sound.{IsSound}
use Rattle.token_states.specs.Spellings.{folded, spelled}
use Rattle.token_states.specs.TagPlaces.{rest_in}
use Rattle.token_states.specs.Turns.{with_more}
use Rattle.token_states.specs.declared.declarations.Spelled.{Spelled}
use Rattle.token_states.specs.declared.declarations.Spelled.TheVariants.{Apart}
use Rattle.token_states.specs.declared.place.LexemeState.{LexemeState}
use Rattle.token_states.specs.declared.place.LexemeState.TheVariants.{BogusComment, CdataSection, Comment, Doctype}
use Rattle.token_states.specs.declared.place.LexemeState.TheVariants.{EndTagOpen, MarkupDeclarationOpen, Tag, TagOpen}
use Rattle.token_states.specs.declared.place.LexemeState.TheVariants.{Text}
use Rattle.token_states.specs.declared.place.TagPlace.{TagPlace}
use Rattle.token_states.specs.declared.place.TagPlace.TheVariants.{AfterAttributeName, AttributeName, AttributeValue}
use Rattle.token_states.specs.declared.place.TagPlace.TheVariants.{BeforeAttributeName, BeforeAttributeValue, TagName}
use Rattle.token_states.proofs.CommentLemmas.{still_open_comment}
use Rattle.token_states.proofs.DeclarationLemmas.{is_bogus, no_greater_begun}
use Rattle.token_states.proofs.DoctypeEnds.{drop_none, rest_none}
use Rattle.token_states.proofs.MarkupHeld.{first_of, still_no_greater}
use Rattle.token_states.proofs.SectionLemmas.{are_two, is_one}

-- ---- two rests, of which one makes a tag, or ends the text

is_nothing : Lexeme → Bool
is_nothing nothing = true
is_nothing (emitted items trailing rest) = false
is_nothing (tagged t rest) = false

is_tagged : Lexeme → Bool
is_tagged nothing = false
is_tagged (emitted items trailing rest) = false
is_tagged (tagged t rest) = true

-- what follows a lexeme does not matter to what it is
abbrev IsKept : (Lexeme → Bool) → Type 0
IsKept is = (more : List ℕ) (l : Lexeme) → is (with_more more l) ≡ is l

nothing_kept : IsKept is_nothing
unfolding is_nothing
nothing_kept more nothing = refl
nothing_kept more (emitted items trailing rest) = refl
nothing_kept more (tagged t rest) = refl

tagged_kept : IsKept is_tagged
unfolding is_tagged
tagged_kept more nothing = refl
tagged_kept more (emitted items trailing rest) = refl
tagged_kept more (tagged t rest) = refl

module _ (table : References) (foreign : Bool) (mode : Mode) (place : LexemeState) (held : List ℕ) where
  open_by : (is : Lexeme → Bool) → IsKept is → (one other : List ℕ) → IsTrue (is_steady one) → IsTrue (is_steady other)
      → is (place_lexeme table foreign mode place (held ++ one)) ≡ true →
      is (place_lexeme table foreign mode place (held ++ other)) ≡ false → IsOpenEnded table foreign mode place held
  open_by is kept one other s t p q l same =
      both_ways (is l) (sym (kept other l) ∙ (ap is (sym (same other t)) ∙ q))
      (sym (kept one l) ∙ (ap is (sym (same one s)) ∙ p))

-- after all text is nothing, and after a further character not
x_is_text : (table : References) (foreign : Bool) (kind : TextKind) (mode : Mode) →
    is_nothing (lexeme_in table foreign kind mode 120 []) ≡ false
unfolding is_nothing
x_is_text table foreign Ordinary mode = refl
x_is_text table foreign Plain mode = refl
x_is_text table foreign (Raw kind) mode = refl

pub text_undecided : (table : References) (foreign : Bool) (mode : Mode) (held : List ℕ) → IsSound Text held →
    IsOpenEnded table foreign mode Text held
unfolding is_nothing
text_undecided table foreign mode held sound =
    subst (IsOpenEnded table foreign mode Text) (sym sound)
    (open_by table foreign mode Text [] is_nothing nothing_kept [] (120 ∷ []) refl refl refl
    (x_is_text table foreign mode.text mode))

-- `<a>` and `</a>` are tags, `<` and `</` alone are text
pub tag_open_undecided : (table : References) (foreign : Bool) (mode : Mode) (held : List ℕ) → IsSound TagOpen held →
    IsOpenEnded table foreign mode TagOpen held
unfolding is_tagged
tag_open_undecided table foreign mode held sound =
    subst (IsOpenEnded table foreign mode TagOpen) (sym sound)
    (open_by table foreign mode TagOpen [] is_tagged tagged_kept (codes "a>") [] refl refl refl refl)

pub end_tag_open_undecided : (table : References) (foreign : Bool) (mode : Mode) (held : List ℕ) →
    IsSound EndTagOpen held → IsOpenEnded table foreign mode EndTagOpen held
unfolding is_tagged
end_tag_open_undecided table foreign mode held sound =
    subst (IsOpenEnded table foreign mode EndTagOpen) (sym sound)
    (open_by table foreign mode EndTagOpen [] is_tagged tagged_kept (codes "a>") [] refl refl refl refl)

-- ---- tags: the end of the text cuts one off, a `>` closes it

closing : TagPlace → List ℕ
closing (AttributeValue SingleQuoted) = codes "'>"
closing (AttributeValue DoubleQuoted) = codes "\">"
closing _ = codes ">"

closing_steady : (place : TagPlace) → IsTrue (is_steady (closing place))
unfolding closing
closing_steady TagName = refl
closing_steady BeforeAttributeName = refl
closing_steady AttributeName = refl
closing_steady AfterAttributeName = refl
closing_steady BeforeAttributeValue = refl
closing_steady (AttributeValue Unquoted) = refl
closing_steady (AttributeValue SingleQuoted) = refl
closing_steady (AttributeValue DoubleQuoted) = refl

cut_off : (table : References) (place : TagPlace) → is_some (rest_in table place []) ≡ false
cut_off table TagName = refl
cut_off table BeforeAttributeName = refl
cut_off table AttributeName = refl
cut_off table AfterAttributeName = refl
cut_off table BeforeAttributeValue = refl
cut_off table (AttributeValue Unquoted) = refl
cut_off table (AttributeValue SingleQuoted) = refl
cut_off table (AttributeValue DoubleQuoted) = refl

closed : (table : References) (place : TagPlace) → is_some (rest_in table place (closing place)) ≡ true
unfolding closing
closed table TagName = refl
closed table BeforeAttributeName = refl
closed table AttributeName = refl
closed table AfterAttributeName = refl
closed table BeforeAttributeValue = refl
closed table (AttributeValue Unquoted) = refl
closed table (AttributeValue SingleQuoted) = refl
closed table (AttributeValue DoubleQuoted) = refl

tagged_as : (read : Option (SeenTag × List ℕ)) (rest : Option (List ℕ)) →
    option_map (λ (r : SeenTag × List ℕ). r.1) read ≡ rest → is_tagged (tag_lexeme read) ≡ is_some rest
unfolding is_tagged
tagged_as None rest e = ap is_some e
tagged_as (Some read) rest e = ap is_some e

pub tag_undecided : (table : References) (foreign : Bool) (mode : Mode) (kind : TagKind) (place : TagPlace)
    (held : List ℕ) → IsSound (Tag kind place) held → IsOpenEnded table foreign mode (Tag kind place) held
tag_undecided table foreign mode kind place held sound =
    open_by table foreign mode (Tag kind place) held is_tagged tagged_kept (closing place)
    [] (closing_steady place) refl
    (tagged_as _ _ (sound table (closing place)) ∙ closed table place)
    (tagged_as _ _ (sound table []) ∙ cut_off table place)

-- ---- a further `x` is taken into what is held

abbrev LeavesNothing : Lexeme → Type 0
LeavesNothing nothing = ⊥
LeavesNothing (emitted items trailing rest) = rest ≡ []
LeavesNothing (tagged t rest) = ⊥

never_nil : (xs : List ℕ) (c : ℕ) → xs ++ c ∷ [] ≡ [] → ⊥
never_nil [] c e = cc
never_nil (x ∷ xs) c e = cc

leaves_x : (l : Lexeme) → LeavesNothing (with_more (120 ∷ []) l) → ⊥
leaves_x nothing h = h
leaves_x (emitted items trailing rest) h = never_nil rest 120 h
leaves_x (tagged t rest) h = h

open_by_x : (table : References) (foreign : Bool) (mode : Mode) (place : LexemeState) (held : List ℕ) →
    LeavesNothing (place_lexeme table foreign mode place (held ++ 120 ∷ [])) → IsOpenEnded table foreign mode place held
open_by_x table foreign mode place held left l same = leaves_x l (subst LeavesNothing (same (120 ∷ []) refl) left)

-- ---- without a `>`

no_greater_x : (held : List ℕ) → HasNoGreater held → HasNoGreater (held ++ 120 ∷ [])
no_greater_x held n = still_no_greater held (held ++ 120 ∷ []) 120 n refl (λ e. cc)

no_cut : (hs : List ℕ) → HasNoGreater hs → cut (after (codes ">")) hs ≡ None
no_cut [] n = refl
no_cut (h ∷ hs) n =
    let parts = first_of h hs n in
    rw parts.0 (rw (no_cut hs parts.1) refl)

bogus_all : (hs : List ℕ) → HasNoGreater hs → (bogus_comment_slice hs).rest ≡ []
bogus_all hs n = ap (λ o. (cut_or_all o hs).rest) (no_cut hs n)

pub bogus_comment_undecided : (table : References) (foreign : Bool) (mode : Mode) (held : List ℕ) →
    IsSound BogusComment held → IsOpenEnded table foreign mode BogusComment held
bogus_comment_undecided table foreign mode held sound =
    open_by_x table foreign mode BogusComment held (bogus_all (held ++ 120 ∷ []) (no_greater_x held sound))

-- ---- comments

last_same : (xs ys : List ℕ) (c d : ℕ) → xs ++ c ∷ [] ≡ ys ++ d ∷ [] → c ≡ d
last_same [] [] c d e = cc
last_same [] (y ∷ ys) c d e = absurd (never_nil ys d (ap (drop 1) (sym e)))
last_same (x ∷ xs) [] c d e = absurd (never_nil xs c (ap (drop 1) e))
last_same (x ∷ xs) (y ∷ ys) c d e = last_same xs ys c d (ap (drop 1) e)

-- a text that ends with `x` does not end with `>`
apart_x : (held front mark : List ℕ) → held ++ 120 ∷ [] ≢ front ++ (mark ++ 62 ∷ [])
apart_x held front mark e =
    both_ways (120 == 62) refl
    (eq-eqb 120 62 (last_same held (front ++ mark) 120 62 (e ∙ sym (append_assoc front mark (62 ∷ [])))))

not_closed_x : (held : List ℕ) → IsNotClosed (held ++ 120 ∷ [])
not_closed_x held = record {
  not_greater = apart_x held [] [];
  not_arrow = apart_x held [] (codes "-");
  not_end = λ front. apart_x held front (codes "--");
  not_bang_end = λ front. apart_x held front (codes "--!");
}

comment_all : (hs : List ℕ) → IsOpenComment hs → (comment_slice hs).rest ≡ []
comment_all hs h =
    ap (λ b. (if b then empty_comment (drop 1 hs) else (if begins (codes "->") hs then empty_comment (drop 2 hs)
    else found_or_ended (cut comment_mark hs) hs)).rest) h.no_greater
    ∙ (ap (λ b. (if b then empty_comment (drop 2 hs)
    else found_or_ended (cut comment_mark hs) hs).rest) h.no_arrow ∙ ap (λ o. (found_or_ended o hs).rest) h.no_mark)

pub comment_undecided : (table : References) (foreign : Bool) (mode : Mode) (held : List ℕ) → IsSound Comment held →
    IsOpenEnded table foreign mode Comment held
comment_undecided table foreign mode held sound =
    open_by_x table foreign mode Comment held
    (comment_all (held ++ 120 ∷ []) (still_open_comment held (held ++ 120 ∷ []) 120 sound refl (not_closed_x held)))

-- ---- sections

third_no_end : (b d e : ℕ) (held : List ℕ) → IsTrue (is_begun_section_end (b ∷ d ∷ e ∷ held)) → ⊥
third_no_end b d e held begun =
    false≢true (and_parts (e == 62) _ (and_parts (d == 93) _ (and_parts (b == 93) _ begun).1).1).1

section_all : (held : List ℕ) → IsTrue (is_begun_section_end held) →
    (cut_or_all (cut (after (codes "]]>")) (held ++ 120 ∷ [])) (held ++ 120 ∷ [])).rest ≡ []
section_all [] begun = refl
section_all (b ∷ []) begun =
    ap (λ c. (cut_or_all (cut (after (codes "]]>")) (c ∷ 120 ∷ [])) (c ∷ 120 ∷ [])).rest) (is_one b begun)
section_all (b ∷ d ∷ []) begun =
    ap (λ l. (cut_or_all (cut (after (codes "]]>")) (l ++ 120 ∷ [])) (l ++ 120 ∷ [])).rest) (are_two b d begun)
section_all (b ∷ d ∷ e ∷ held) begun = absurd (third_no_end b d e held begun)

pub section_undecided : (table : References) (foreign : Bool) (mode : Mode) (held : List ℕ) →
    IsSound CdataSection held → IsOpenEnded table foreign mode CdataSection held
section_undecided table foreign mode held sound =
    open_by_x table foreign mode CdataSection held (section_all held sound)

-- ---- declarations: none of the marks has an `x`

abbrev has_none : (ℕ → ℕ) → List ℕ → Bool
has_none f ms = list_all (λ m. not (f 120 == m)) ms

apart_if : (b : Bool) (s : Spelled) → (b ≡ true → s ≡ Apart) → (if b then s else Apart) ≡ Apart
apart_if true s h = h refl
apart_if false s h = refl

spelled_apart : (f : ℕ → ℕ) (ms hs : List ℕ) → has_none f ms ≡ true → spelled f ms (hs ++ 120 ∷ []) ≡ Apart
spelled_apart f [] [] n = refl
spelled_apart f [] (h ∷ hs) n = refl
spelled_apart f (m ∷ ms) [] n =
    apart_if (f 120 == m) (spelled f ms [])
    (λ e. absurd (false≢true (sym (ap not e) ∙ (and_parts (not (f 120 == m)) (has_none f ms) n).0)))
spelled_apart f (m ∷ ms) (h ∷ hs) n =
    apart_if (f h == m) (spelled f ms (hs ++ 120 ∷ []))
    (λ e. spelled_apart f ms hs (and_parts (not (f 120 == m)) (has_none f ms) n).1)

declared_bogus : (foreign : Bool) (mode : Mode) (held : List ℕ) → IsTrue (is_begun_declaration held) →
    comment_lexeme mode (bogus_comment_slice (held ++ 120 ∷ [])) ≡ declaration foreign mode (held ++ 120 ∷ [])
declared_bogus foreign mode held begun =
    let now : List ℕ = held ++ 120 ∷ [] in
    let bogus =
    is_bogus foreign now (spelled_apart (folded false) (codes "--") held refl)
    (spelled_apart (folded true) (codes "doctype") held refl)
    (λ e. spelled_apart (folded false) (codes "[CDATA[") held refl) in
    subst (λ l. comment_lexeme mode (bogus_comment_slice l) ≡ declaration foreign mode l) (append-nil now)
    (bogus held 120 refl begun mode [])

pub declaration_undecided : (table : References) (foreign : Bool) (mode : Mode) (held : List ℕ) →
    IsSound MarkupDeclarationOpen held → IsOpenEnded table foreign mode MarkupDeclarationOpen held
declaration_undecided table foreign mode held sound =
    open_by_x table foreign mode MarkupDeclarationOpen held
    (subst LeavesNothing (declared_bogus foreign mode held sound)
    (bogus_all (held ++ 120 ∷ []) (no_greater_x held (no_greater_begun held sound))))

-- ---- doctypes

abbrev LeavesNone : DoctypeEnd → Type 0
LeavesNone end = end.rest ≡ []

both : (b : Bool) (x y : DoctypeEnd) → LeavesNone x → LeavesNone y → LeavesNone (cond b x y)
both true x y p q = p
both false x y p q = q

spaces_none : (hs : List ℕ) → HasNoGreater hs → HasNoGreater (without_spaces hs)
spaces_none hs n = rest_none is_space hs n

skipped_all : (d : SeenDoctype) (hs : List ℕ) → HasNoGreater hs → LeavesNone (skipped d hs)
skipped_all d hs n = ap (λ o. (cut_or_all o hs).rest) (no_cut hs n)

ends_here_all : (d : SeenDoctype) (hs : List ℕ) → HasNoGreater hs → LeavesNone (ends_here d hs)
ends_here_all d [] n = skipped_all (with_quirks d) [] n
ends_here_all d (h ∷ hs) n =
    ap (λ b. (if b && true then record { doctype = d; rest = hs }
    else skipped (with_quirks d) (h ∷ hs)).rest) (first_of h hs n).0 ∙ skipped_all (with_quirks d) (h ∷ hs) n

after_system_all : (d : SeenDoctype) (hs : List ℕ) → HasNoGreater hs → LeavesNone (after_system d hs)
after_system_all d [] n = refl
after_system_all d (h ∷ hs) n = skipped_all d (h ∷ hs) n

system_at_all : (d : SeenDoctype) (q : ℕ) (hs : List ℕ) → HasNoGreater hs → LeavesNone (system_at d q hs)
system_at_all d q hs n =
    let seen : SeenDoctype = with_system d (identifier q hs) in
    let trailing : List ℕ = after_identifier q hs in
    let none : HasNoGreater trailing = rest_none (λ c. not (ends_identifier q c)) hs n in
    both (begins (q ∷ []) trailing) (after_system seen (without_spaces (drop 1 trailing)))
    (skipped (with_quirks seen) trailing)
    (after_system_all seen (without_spaces (drop 1 trailing)) (spaces_none (drop 1 trailing) (drop_none 1 trailing none)))
    (skipped_all (with_quirks seen) trailing none)

abbrev LeavesNoneAlways : (List ℕ → DoctypeEnd) → Type 0
LeavesNoneAlways f = (hs : List ℕ) → HasNoGreater hs → LeavesNone (f hs)

system_or_all : (d : SeenDoctype) (otherwise : List ℕ → DoctypeEnd) → LeavesNoneAlways otherwise →
    LeavesNoneAlways (system_or d otherwise)
system_or_all d otherwise s [] n = s [] n
system_or_all d otherwise s (h ∷ hs) n =
    both (is_quote h) (system_at d h hs) (otherwise (h ∷ hs)) (system_at_all d h hs (first_of h hs n).1) (s (h ∷ hs) n)

public_at_all : (d : SeenDoctype) (q : ℕ) (hs : List ℕ) → HasNoGreater hs → LeavesNone (public_at d q hs)
public_at_all d q hs n =
    let seen : SeenDoctype = with_public d (identifier q hs) in
    let trailing : List ℕ = after_identifier q hs in
    let none : HasNoGreater trailing = rest_none (λ c. not (ends_identifier q c)) hs n in
    both (begins (q ∷ []) trailing) (system_or seen (ends_here seen) (without_spaces (drop 1 trailing)))
    (skipped (with_quirks seen) trailing)
    (system_or_all seen (ends_here seen) (ends_here_all seen) (without_spaces (drop 1 trailing))
    (spaces_none (drop 1 trailing) (drop_none 1 trailing none)))
    (skipped_all (with_quirks seen) trailing none)

after_public_all : (d : SeenDoctype) → LeavesNoneAlways (after_public d)
after_public_all d [] n = skipped_all (with_quirks d) [] n
after_public_all d (h ∷ hs) n =
    both (is_quote h) (public_at d h hs) (skipped (with_quirks d) (h ∷ hs)) (public_at_all d h hs (first_of h hs n).1)
    (skipped_all (with_quirks d) (h ∷ hs) n)

after_keyword_all : (d : SeenDoctype) → LeavesNoneAlways (after_keyword d)
after_keyword_all d hs n =
    let word : List ℕ = without_spaces (drop 6 hs) in
    let none : HasNoGreater word = spaces_none (drop 6 hs) (drop_none 6 hs n) in
    let system : DoctypeEnd = system_or d (skipped (with_quirks d)) word in
    both (begins_word (codes "public") hs) (after_public d word)
    (cond (begins_word (codes "system") hs) system (ends_here d hs)) (after_public_all d word none)
    (both (begins_word (codes "system") hs) system (ends_here d hs)
    (system_or_all d (skipped (with_quirks d)) (skipped_all (with_quirks d)) word none) (ends_here_all d hs n))

doctype_all : LeavesNoneAlways doctype_at
doctype_all hs n =
    let spaced : List ℕ = without_spaces hs in
    let none : HasNoGreater spaced = spaces_none hs n in
    let name : List ℕ = front_while (λ c. not (ends_unquoted c)) spaced in
    let trailing : List ℕ = rest_while (λ c. not (ends_unquoted c)) spaced in
    let named : SeenDoctype = named_doctype (Some (name_of name)) in
    both (length name == 0) (skipped (with_quirks (named_doctype None)) spaced)
    (after_keyword named (without_spaces trailing)) (skipped_all (with_quirks (named_doctype None)) spaced none)
    (after_keyword_all named (without_spaces trailing)
    (spaces_none trailing (rest_none (λ c. not (ends_unquoted c)) spaced none)))

pub doctype_undecided : (table : References) (foreign : Bool) (mode : Mode) (held : List ℕ) → IsSound Doctype held →
    IsOpenEnded table foreign mode Doctype held
doctype_undecided table foreign mode held sound =
    open_by_x table foreign mode Doctype held (doctype_all (held ++ 120 ∷ []) (no_greater_x held sound))
