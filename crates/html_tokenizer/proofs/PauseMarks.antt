-- The last character before a pause is a tag's `>`.
use Rattle.std.proofs.Common.{◌≡◌, ◌==◌, [], ◌∷◌, ◌++◌, ◌∙◌, Bool, IfSome, List, None, Option, Some, ap, append-nil}
use Rattle.std.proofs.Common.{append_assoc, cond, false, refl, subst, sym, true, ℕ}
use Rattle.html_lexemes.specs.LineEnds.{lines_ended}
use Rattle.html_lexemes.specs.Queue.{Queue, Takes}
use Rattle.lex_base.specs.References.{References}
use Rattle.html_lexemes.specs.declared.token.Tag.{Tag}
use Rattle.token_grammar.specs.Lexemes.{Lexeme, nothing, emitted, tagged}
use Rattle.token_grammar.specs.Tags.{greater}
use Rattle.token_grammar.specs.declared.modes.Mode.{Mode}
use Rattle.token_states.specs.Places.{place_lexeme}
use Rattle.token_states.specs.Turns.{IsTaken, IsUntagged, LeavesText}
use Rattle.token_states.specs.declared.place.LexemeState.{LexemeState}
use Rattle.token_grammar.specs.Meaning.{Meaning}
use Rattle.html_tokenizer.specs.Completes.{Completes, IsUndecided, PausesAfter, TakesEach}
use Rattle.html_tokenizer.specs.Inside as inside
use Rattle.html_tokenizer.specs.Emits.{EmitsOn}
use Rattle.html_tokenizer.specs.declared.tokenizer.Tokenizer.{Tokenizer}
use Rattle.html_tokenizer.specs.PageRest.{page_rest}
use Rattle.html_tokenizer.specs.declared.line_ends.LineEnds.{LineEnds}
use Rattle.html_tokenizer.specs.declared.line_ends.LineEnds.TheVariants.{AtMark, AfterReturn, Within}
use Rattle.html_tokenizer.proofs.QueueTaken.{each_more}

-- ---- the last character of a tag

abbrev last_or : ℕ → List ℕ → ℕ
last_or d [] = d
last_or d (c ∷ cs) = last_or c cs

last_is : (d : ℕ) (cs : List ℕ) (c : ℕ) → last_or d (cs ++ c ∷ []) ≡ c
last_is d [] c = refl
last_is d (e ∷ cs) c = last_is e cs c

same_last : (held front : List ℕ) (c d : ℕ) → held ++ c ∷ [] ≡ front ++ d ∷ [] → c ≡ d
same_last held front c d e = sym (last_is 0 held c) ∙ (ap (last_or 0) e ∙ last_is 0 front d)

-- a tag ends with its `>`
abbrev pub TagsEndWithMark : Type 0
TagsEndWithMark =
    (table : References) (foreign : Bool) (mode : Mode) (place : LexemeState) (cs : List ℕ) (t : Tag) (rest : List ℕ) →
    place_lexeme table foreign mode place cs ≡ tagged t rest → (front : List ℕ) × (cs ≡ front ++ greater ∷ rest)

-- What is over with a character, and is answered, is a tag.
by_lexeme : {H : Type 0} (table : References) (foreign : Bool) (mode : Mode) (place : LexemeState) (held : List ℕ) (c : ℕ)
    (pause : Option H) (l : Lexeme) → TagsEndWithMark →
    place_lexeme table foreign mode place (held ++ c ∷ []) ≡ l → LeavesText l → (IsUntagged l → pause ≡ None) →
    IfSome pause (λ _. c ≡ greater)
by_lexeme table foreign mode place held c pause nothing law e left untagged =
    subst (λ p. IfSome p (λ _. c ≡ greater)) (sym (untagged tt)) tt
by_lexeme table foreign mode place held c pause (emitted items trailing rest) law e left untagged =
    subst (λ p. IfSome p (λ _. c ≡ greater)) (sym (untagged tt)) tt
by_lexeme table foreign mode place held c None (tagged t rest) law e left untagged = tt
by_lexeme table foreign mode place held c (Some pause) (tagged t rest) law e left untagged =
    let found = law table foreign mode place (held ++ c ∷ []) t [] (e ∙ ap (tagged t) left) in
    same_last held found.0 c greater found.1

pub pause_mark : {H : Type 0} (table : References) (foreign : Bool) (mode : Mode) (place last : LexemeState)
    (held now : List ℕ) (c : ℕ) (pause : Option H) → TagsEndWithMark →
    IsTaken table foreign mode place held c last now → LeavesText (place_lexeme table foreign mode last now) →
    (IsUntagged (place_lexeme table foreign mode last now) → pause ≡ None) → IfSome pause (λ _. c ≡ greater)
pause_mark table foreign mode place last held now c pause law taken left untagged =
    by_lexeme table foreign mode place held c pause (place_lexeme table foreign mode last now) law
    (sym (taken []) ∙ ap (place_lexeme table foreign mode last) (append-nil now)) left untagged

-- ---- the character of the page

first_is : (c d : ℕ) (cs ds : List ℕ) → c ∷ cs ≡ d ∷ ds → d ≡ greater → c ≡ greater
first_is c d cs ds e g = cc

no_first : {T : Type 0} (d : ℕ) (ds : List ℕ) → [] ≡ d ∷ ds → T
no_first d ds e = absurd (cc)

-- a character that is a `>` in the text is one in the page
ended_from : (b : Bool) (c d : ℕ) (ds : List ℕ) → cond b (10 ∷ []) (c ∷ []) ≡ d ∷ ds → d ≡ greater → c ≡ greater
ended_from true c d ds e g = absurd (let k : 10 ≡ greater = first_is 10 d [] ds e g in cc)
ended_from false c d ds e g = first_is c d [] ds e g

dropped_or : (b : Bool) (c d : ℕ) (ds : List ℕ) → lines_ended (cond b [] (c ∷ [])) ≡ d ∷ ds → d ≡ greater → c ≡ greater
dropped_or true c d ds e g = no_first d ds e
dropped_or false c d ds e g = ended_from (c == 13) c d ds e g

pub page_mark : (ends : LineEnds) (c d : ℕ) (ds : List ℕ) → page_rest ends (c ∷ []) ≡ d ∷ ds → d ≡ greater → c ≡ greater
page_mark AtMark c d ds e g = dropped_or (c == 0xFEFF) c d ds e g
page_mark AfterReturn c d ds e g = dropped_or (c == 10) c d ds e g
page_mark Within c d ds e g = ended_from (c == 13) c d ds e g

pub some_map : {X : Type 0} {P Q : Type 0} (o : Option X) → IfSome o (λ _. P) → (P → Q) → IfSome o (λ _. Q)
some_map None p f = tt
some_map (Some x) p f = f p

-- ---- the queue

-- What was taken, and any text after it, completes as that text does after it.
pub record HasTaken {A : Type 0} (completes now : List ℕ → A → Type 0) (old new : Queue) : Type 0 where
  pub taken : List ℕ
  pub takes : TakesEach old taken new
  pub reads : (rest : List ℕ) (final : A) → now rest final → completes (taken ++ rest) final

pub has_taken_none : {A : Type 0} (completes : List ℕ → A → Type 0) (old : Queue) → HasTaken completes completes old old
has_taken_none completes old = record { taken = []; takes = refl; reads = λ rest final l. l }

pub has_taken_more : {A : Type 0} (completes now after : List ℕ → A → Type 0) (old between new : Queue) (c : ℕ) →
    HasTaken completes now old between →
    Takes between (c ∷ []) new → ((rest : List ℕ) (final : A) → after rest final → now (c ∷ rest) final) →
    HasTaken completes after old new
has_taken_more completes now after old between new c h t f = record {
  taken = h.taken ++ c ∷ [];
  takes = each_more old h.taken between new c h.takes t;
  reads = λ rest final l. subst (λ x. completes x final) (sym (append_assoc h.taken (c ∷ []) rest))
      (h.reads (c ∷ rest) final (f rest final l));
}

pub pauses_after : {S A H : Type 0} (state : S → A) (means : Meaning A H) (mark c : ℕ) (begun : A)
    (completes : List ℕ → A → Type 0) (old now after : Queue) (before : Tokenizer S) →
    HasTaken completes (inside.Completes state means before) old now →
    EmitsOn means begun (state before.sink) → inside.IsUndecided before → Takes now (c ∷ []) after → c ≡ mark →
    PausesAfter state means mark begun completes old after
unfolding Completes IsUndecided
pauses_after state means mark c begun completes old now after before h on undecided t e = record {
  taken = h.taken;
  takes = each_more old h.taken now after mark h.takes (subst (λ x. Takes now (x ∷ []) after) e t);
  before = before;
  on = on;
  undecided = undecided;
  reads = h.reads;
}
