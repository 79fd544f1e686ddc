-- A text after no text becomes a node, character by character.
use Rattle.std.proofs.Common.{◌≡◌, ◌<◌, [], ◌∷◌, ◌++◌, ◌∙◌, Bool, List, None, ap, false, fold, refl, sym, true, ℕ}
use Rattle.std.proofs.lemmas.List.{append_assoc}
use Rattle.tree_formatting.specs.Entries.{Entry}
use Rattle.tree_forest.specs.Forest.{Forest, name_of, nodes, text}
use Rattle.tree_forest.specs.Places.{below, put_words}
use Rattle.html_lexemes.specs.declared.names.QualName.{QualName}
use Rattle.html_tree_state.specs.Building.{Building}
use Rattle.html_tree_state.specs.Insertions.{is_template, said}
use Rattle.rules_table.specs.Actions.{act, reconstruct, refuse_frameset, say}
use Rattle.rules_table.specs.InBody.{in_body_text}
use Rattle.rules_table.specs.Rows.{for_character, is_white_space}
use Rattle.rules_table.specs.Rule.{rule}
use Rattle.rules_table.specs.Settling.{taken, taken_character}
use Rattle.rules_table.specs.State.{State, character}
use Rattle.document_laws.specs.Planted.{of_html, with_text}
use Rattle.document_laws.proofs.Planting.{first_said, grown_keeps, last_text, more_said, name_kept}
use Rattle.document_laws.proofs.Standing.{built, here_below, now, reconstructed_now, refused_now, rule_in_body}
use Rattle.document_laws.proofs.Standing.{taken_done, with_tree_now}
use Rattle.document_laws.proofs.Sublists.{AreOpen}

-- one character of a text below a node of a name, whatever the state that a forest stands in
abbrev pub SaysOne : (Bool → Forest → State) → ℕ → QualName → Type 0
SaysOne at p name = (ok : Bool) (c : ℕ) (f : Forest) → name_of p f ≡ name →
    (after : Bool) × (taken_character (at ok f) c ≡ at after (put_words (below p) (c ∷ []) f))

more_run : (at : Bool → Forest → State) (p : ℕ) (name : QualName) → SaysOne at p name →
    (cs ds : List ℕ) (ok : Bool) (f : Forest) → p < nodes f → name_of p f ≡ name →
    (after : Bool) × (fold taken_character (at ok (with_text p ds f)) cs ≡ at after (with_text p (ds ++ cs) f))
more_run at p name one [] ds ok f held named =
    (ok, ap (λ k. at ok (with_text p k f)) (sym (nothing ds))) where
      nothing : (ds : List ℕ) → ds ++ [] ≡ ds
      nothing [] = refl
      nothing (d ∷ ds) = ap (λ k. d ∷ k) (nothing ds)
more_run at p name one (c ∷ cs) ds ok f held named =
    let g = with_text p ds f in
    let first = one ok c g (name_kept f g (grown_keeps p (text ds) f) p held ∙ named) in
    let later = more_run at p name one cs (ds ++ c ∷ []) first.0 f held named in (
      later.0,
      ap (λ z. fold taken_character z cs) (first.1 ∙ ap (at first.0) (more_said p c ds f held))
          ∙ later.1 ∙ ap (λ k. at later.0 (with_text p k f)) (append_assoc ds (c ∷ []) cs),
    )

pub run_said : (at : Bool → Forest → State) (p : ℕ) (name : QualName) → SaysOne at p name →
    (c : ℕ) (cs : List ℕ) (ok : Bool) (f : Forest) → p < nodes f → name_of p f ≡ name → last_text p f ≡ None →
    (after : Bool) × (fold taken_character (at ok f) (c ∷ cs) ≡ at after (with_text p (c ∷ cs) f))
run_said at p name one c cs ok f held named no_text =
    let first = one ok c f named in
    let later = more_run at p name one cs (c ∷ []) first.0 f held named in
    (later.0, ap (λ z. fold taken_character z cs) (first.1 ∙ ap (at first.0) (first_said p c f no_text)) ∙ later.1)

-- in the body
said_is : (b : Building) (p c : ℕ) (rest : List ℕ) (entries : List Entry) (f : Forest) → is_template p f ≡ false →
    said (c ∷ []) (built b (p ∷ rest) entries f) ≡ built b (p ∷ rest) entries (put_words (below p) (c ∷ []) f)
unfolding built
said_is b p c rest entries f plain =
    ap (λ place. let after : Building = record b {
      stack = p ∷ rest;
      formatting = entries;
      fostering = false;
      forest = put_words place (c ∷ []) f;
    } in after) (here_below b p rest entries f plain)

said_now : (s : State) (ok : Bool) (p c : ℕ) (rest : List ℕ) (entries : List Entry) (f : Forest) →
    is_template p f ≡ false → act (say (c ∷ [])) (now s ok (p ∷ rest) entries f)
    ≡ now s ok (p ∷ rest) entries (put_words (below p) (c ∷ []) f)
unfolding act
said_now s ok p c rest entries f plain =
    with_tree_now (said (c ∷ [])) s ok (p ∷ rest) (p ∷ rest) entries entries f (put_words (below p) (c ∷ []) f)
    (said_is s.tree p c rest entries f plain)

-- white space leaves the frameset flag
abbrev flag : (is_space : Bool) → Bool → Bool
flag true ok = ok
flag false ok = false

said_by_row : (is_space : Bool) (s : State) (ok : Bool) (p c : ℕ) (rest : List ℕ) (entries : List Entry) (f : Forest) →
    AreOpen entries (p ∷ rest) → is_template p f ≡ false →
    rule (character c) (now s ok (p ∷ rest) entries f) ≡ for_character c (in_body_text is_space) →
    (taken (character c) (now s ok (p ∷ rest) entries f)).state
    ≡ now s (flag is_space ok) (p ∷ rest) entries (put_words (below p) (c ∷ []) f)
said_by_row true s ok p c rest entries f are plain is =
    taken_done (character c) (now s ok (p ∷ rest) entries f) (reconstruct ∷ say (c ∷ []) ∷ []) is
    ∙ ap (act (say (c ∷ []))) (reconstructed_now s ok (p ∷ rest) entries f are)
    ∙ said_now s ok p c rest entries f plain
said_by_row false s ok p c rest entries f are plain is =
    taken_done (character c) (now s ok (p ∷ rest) entries f) (reconstruct ∷ refuse_frameset ∷ say (c ∷ []) ∷ []) is
    ∙ ap (λ z. act (say (c ∷ [])) (act refuse_frameset z)) (reconstructed_now s ok (p ∷ rest) entries f are)
    ∙ ap (act (say (c ∷ []))) (refused_now s ok (p ∷ rest) entries f)
    ∙ said_now s false p c rest entries f plain

taken_plain : (s : State) (c : ℕ) → s.skip_lf ≡ false →
    taken_character s c ≡ (taken (character c) (record s { skip_lf = false })).state
taken_plain s c e = rw e

character_now : (s : State) (ok : Bool) (c : ℕ) (stack : List ℕ) (entries : List Entry) (f : Forest) →
    taken_character (now s ok stack entries f) c ≡ (taken (character c) (now s ok stack entries f)).state
unfolding now
character_now s ok c stack entries f = refl

pub says_one : (s : State) (p : ℕ) (rest : List ℕ) (entries : List Entry) (word : List ℕ) →
    AreOpen entries (p ∷ rest) → ((f : Forest) → name_of p f ≡ of_html word → is_template p f ≡ false) →
    SaysOne (λ ok f. now s ok (p ∷ rest) entries f) p (of_html word)
says_one s p rest entries word are plain = λ ok c f named. (
  flag (is_white_space c) ok,
  character_now s ok c (p ∷ rest) entries f
      ∙ said_by_row (is_white_space c) s ok p c rest entries f are (plain f named)
      (rule_in_body (character c) s ok p rest entries f word named),
)
