-- What is held of a lexeme that goes on is no lexeme yet.
use Rattle.std.proofs.Common.{◌≡◌, ◌==◌, ◌||◌, if◌then◌else◌, [], ◌∷◌, ◌++◌, ◌∙◌, Bool, IsTrue, List, ap, false, not}
use Rattle.std.proofs.Common.{refl, subst, true, ℕ}
use Rattle.std.proofs.lemmas.Bool.{and_parts}
use Rattle.html_lexemes.specs.LineEnds.{begins_with_line_feed, lines_ended}
use Rattle.lex_base.specs.References.{References}
use Rattle.token_grammar.specs.declared.modes.Mode.{Mode}
use Rattle.html_tokenizer.specs.Inside.{IsUndecidedAt}
use Rattle.token_states.specs.Goings.{IsGoing}
use Rattle.html_tokenizer.specs.Holdings.{Holds, held_of}
use Rattle.token_states.specs.OpenEnds.{IsOpenEnded, is_steady}
use Rattle.html_tokenizer.specs.PageRest.{page_rest}
use Rattle.token_states.specs.Places.{place_lexeme}
use Rattle.token_states.specs.Turns.{with_more}
use Rattle.html_tokenizer.specs.declared.line_ends.LineEnds.{LineEnds}
use Rattle.html_tokenizer.specs.declared.line_ends.LineEnds.TheVariants.{AtMark, AfterReturn, Within}
use Rattle.token_states.specs.declared.place.LexemeState.{LexemeState}
use Rattle.html_tokenizer.specs.declared.reader.Reader.{Reader}

-- no lexeme stands where one goes on
abbrev pub AreOpenEnded : References → Type 0
AreOpenEnded table = (foreign : Bool) (mode : Mode) (place : LexemeState) (held : List ℕ) →
    IsGoing table mode.last_start_tag place held → IsOpenEnded table foreign mode place held

-- ---- a steady text of a page is that text

none_of : (a b d : Bool) → IsTrue (not (a || b || d)) → ((a ≡ false) × (b ≡ false)) × (d ≡ false)
none_of false false false h = ((refl, refl), refl)
none_of true b d h = absurd (let k : false ≡ true = h in cc)
none_of false true d h = absurd (let k : false ≡ true = h in cc)
none_of false false true h = absurd (let k : false ≡ true = h in cc)

first_steady : (c : ℕ) (cs : List ℕ) → IsTrue (is_steady (c ∷ cs)) → (((c == 10) ≡ false) × ((c == 13) ≡ false))
    × ((c == 0xFEFF) ≡ false)
first_steady c cs h =
    none_of (c == 10) (c == 13) (c == 0xFEFF) (and_parts (not (c == 10 || c == 13 || c == 0xFEFF)) (is_steady cs) h).0

steady_lines : (cs : List ℕ) → IsTrue (is_steady cs) → lines_ended cs ≡ cs
steady_lines [] h = refl
steady_lines (c ∷ cs) h =
    ap (λ b. if b then (if begins_with_line_feed cs then lines_ended cs else 10 ∷ lines_ended cs)
    else c ∷ lines_ended cs) (first_steady c cs h).0.1
    ∙ ap (λ l. c ∷ l) (steady_lines cs (and_parts (not (c == 10 || c == 13 || c == 0xFEFF)) (is_steady cs) h).1)

steady_page : (ends : LineEnds) (cs : List ℕ) → IsTrue (is_steady cs) → page_rest ends cs ≡ cs
steady_page AtMark [] h = refl
steady_page AtMark (c ∷ cs) h =
    ap (λ b. lines_ended (if b then cs else c ∷ cs)) (first_steady c cs h).1 ∙ steady_lines (c ∷ cs) h
steady_page AfterReturn [] h = refl
steady_page AfterReturn (c ∷ cs) h =
    ap (λ b. lines_ended (if b then cs else c ∷ cs)) (first_steady c cs h).0.0 ∙ steady_lines (c ∷ cs) h
steady_page Within cs h = steady_lines cs h

pub undecided : (table : References) (ends : LineEnds) (reader : Reader) → AreOpenEnded table → Holds table reader →
    IsUndecidedAt table ends reader
undecided table ends reader law holds = record {
  lexeme = λ foreign l f.
      law foreign reader.mode reader.pending.place (held_of reader) holds l (λ rest h.
      subst (λ x. place_lexeme table foreign reader.mode reader.pending.place (held_of reader ++ x) ≡ with_more x l)
      (steady_page ends rest h) (f rest));
  section = λ e. subst (λ p. IsGoing table reader.mode.last_start_tag p (held_of reader)) e holds;
}
