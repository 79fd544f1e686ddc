-- A run of text is taken as its characters are, one by one.
use Rattle.std.proofs.Common.{◌≡◌, ◌∙◌, ◌+◌, ◌-◌, ◌^◌, ◌<◌, ◌==◌, ◌||◌, ◌&&◌, if◌then◌else◌, [], ◌∷◌, ◌++◌, Bool}
use Rattle.std.proofs.Common.{IsTrue, List, MatchOption, None, Option, Some, ap, append_assoc, arith, false, length}
use Rattle.std.proofs.Common.{min, not, refl, subst, suc, sym, true, ℕ}
use Rattle.std.proofs.lemmas.Bool.{and_from, and_parts}
use Rattle.std.specs.List.{list_all}
use Rattle.html_lexemes.specs.LineEnds.{begins_with_line_feed, lines_ended}
use Rattle.html_lexemes.specs.Queue.{Queue, Takes, counted, is_free_of, is_in}
use Rattle.lex_base.specs.References.{References}
use Rattle.html_lexemes.specs.declared.states.RawKind.TheVariants.{Rcdata, Rawtext, ScriptData, ScriptDataEscaped}
use Rattle.token_grammar.specs.Items.{characters}
use Rattle.token_grammar.specs.Lexemes.{emitted}
use Rattle.token_grammar.specs.Meaning.{Meaning}
use Rattle.token_grammar.specs.declared.modes.Mode.{Mode}
use Rattle.token_grammar.specs.declared.modes.TextKind.{TextKind}
use Rattle.token_grammar.specs.declared.modes.TextKind.TheVariants.{Ordinary, Plain, Raw}
use Rattle.html_tokenizer.proofs.QueueTaken.{each_on, taken_more, taken_on}
use Rattle.html_tokenizer.proofs.PauseMarks.{HasTaken}
use Rattle.html_tokenizer.proofs.ReadsLemmas.{leaves_of, reading_of, run_read, text_character}
use Rattle.html_tokenizer.specs.Completes.{TakesEach, TakesSome}
use Rattle.html_tokenizer.specs.Reads.{Leaves}
use Rattle.html_tokenizer.specs.Runs.{TakesFront, TakesRun}
use Rattle.html_tokenizer.specs.Stops.{stops}
use Rattle.token_states.specs.Goings.{IsGoing}
use Rattle.token_states.specs.Turns.{is_text}
use Rattle.token_states.specs.declared.place.LexemeState.{LexemeState}
use Rattle.token_states.specs.declared.place.LexemeState.TheVariants.{Text}

-- ---- errors

-- what looks at a noncharacter no more than at others, looks at NUL alone
pub nul_alone : (watching exact nul other : Bool) → (watching || exact && true) ≡ false → nul ≡ false →
    (nul || watching || exact && other) ≡ false
nul_alone true exact nul other h n = absurd (let k : true ≡ false = h in cc)
nul_alone false true nul other h n = absurd (let k : true ≡ false = h in cc)
nul_alone false false true other h n = absurd (let k : true ≡ false = n in cc)
nul_alone false false false other h n = refl

-- ---- what is free of the stops

none_of_five : (less ampersand feed carriage nul : Bool) →
    IsTrue (not (less || (ampersand || (feed || (carriage || (nul || false)))))) →
    IsTrue (not (nul || less || ampersand)) × (carriage ≡ false)
none_of_five true ampersand feed carriage nul h = absurd (let k : false ≡ true = h in cc)
none_of_five false true feed carriage nul h = absurd (let k : false ≡ true = h in cc)
none_of_five false false true carriage nul h = absurd (let k : false ≡ true = h in cc)
none_of_five false false false true nul h = absurd (let k : false ≡ true = h in cc)
none_of_five false false false false true h = absurd (let k : false ≡ true = h in cc)
none_of_five false false false false false h = (refl, refl)

none_of_six : (less ampersand feed carriage nul dash : Bool) →
    IsTrue (not (less || (ampersand || (feed || (carriage || (nul || (dash || false))))))) →
    IsTrue (not (nul || less || ampersand || dash)) × (carriage ≡ false)
none_of_six true ampersand feed carriage nul dash h = absurd (let k : false ≡ true = h in cc)
none_of_six false true feed carriage nul dash h = absurd (let k : false ≡ true = h in cc)
none_of_six false false true carriage nul dash h = absurd (let k : false ≡ true = h in cc)
none_of_six false false false true nul dash h = absurd (let k : false ≡ true = h in cc)
none_of_six false false false false true dash h = absurd (let k : false ≡ true = h in cc)
none_of_six false false false false false true h = absurd (let k : false ≡ true = h in cc)
none_of_six false false false false false false h = (refl, refl)

-- a character that is no stop is text by itself, and no CR
free_one : (text : TextKind) (c : ℕ) → IsTrue (not (is_in (stops text) c)) →
    IsTrue (is_text text c) × ((c == 13) ≡ false)
free_one Ordinary c h = none_of_five (c == 60) (c == 38) (c == 10) (c == 13) (c == 0) h
free_one Plain c h = none_of_five (c == 60) (c == 38) (c == 10) (c == 13) (c == 0) h
free_one (Raw Rcdata) c h = none_of_five (c == 60) (c == 38) (c == 10) (c == 13) (c == 0) h
free_one (Raw Rawtext) c h = none_of_five (c == 60) (c == 38) (c == 10) (c == 13) (c == 0) h
free_one (Raw ScriptData) c h = none_of_five (c == 60) (c == 38) (c == 10) (c == 13) (c == 0) h
free_one (Raw (ScriptDataEscaped kind)) c h =
    none_of_six (c == 60) (c == 38) (c == 10) (c == 13) (c == 0) (c == 45) h

pub free_text : (text : TextKind) (cs : List ℕ) → IsTrue (is_free_of (stops text) cs) →
    IsTrue (list_all (is_text text) cs)
free_text text [] h = refl
free_text text (c ∷ cs) h =
    let parts = and_parts (not (is_in (stops text) c)) (is_free_of (stops text) cs) h in
    and_from (is_text text c) (list_all (is_text text) cs) (free_one text c parts.0).0 (free_text text cs parts.1)

-- no line ends in it
pub free_lines : (text : TextKind) (cs rest : List ℕ) → IsTrue (is_free_of (stops text) cs) →
    lines_ended (cs ++ rest) ≡ cs ++ lines_ended rest
free_lines text [] rest h = refl
free_lines text (c ∷ cs) rest h =
    let parts = and_parts (not (is_in (stops text) c)) (is_free_of (stops text) cs) h in
    let left = lines_ended (cs ++ rest) in
    let returned = if begins_with_line_feed (cs ++ rest) then left else 10 ∷ left in
    ap (λ b. if b then returned else c ∷ left) (free_one text c parts.0).1
    ∙ ap (λ l. c ∷ l) (free_lines text cs rest parts.1)

-- nor in any text without a CR
pub lines_after : (cs rest : List ℕ) → IsTrue (list_all (λ c. not (c == 13)) cs) →
    lines_ended (cs ++ rest) ≡ cs ++ lines_ended rest
lines_after [] rest h = refl
lines_after (c ∷ cs) rest h =
    let parts = and_parts (not (c == 13)) (list_all (λ d. not (d == 13)) cs) h in
    let left = lines_ended (cs ++ rest) in
    let returned = if begins_with_line_feed (cs ++ rest) then left else 10 ∷ left in
    ap (λ b. if b then returned else c ∷ left) (not_so (c == 13) parts.0)
    ∙ ap (λ l. c ∷ l) (lines_after cs rest parts.1)
  where
    not_so : (b : Bool) → IsTrue (not b) → b ≡ false
    not_so true e = absurd (let k : false ≡ true = e in cc)
    not_so false e = refl

-- ---- the text

module _ {A H : Type 0} (table : References) (means : Meaning A H) where
  -- what is held at a place, which stays, is read as if it stood in what follows
  pub run_held : (mode now : Mode) (place at : LexemeState) (held more cs left : List ℕ) (s t final : A) → now ≡ mode →
      at ≡ place → more ≡ held ++ cs → t ≡ s → Leaves table means now at (more ++ left) t final →
      Leaves table means mode place (held ++ (cs ++ left)) s final
  run_held mode now place at held more cs left s t final m p e u l =
      subst (λ x. Leaves table means mode place x s final) (append_assoc held cs left)
      (subst (λ x. Leaves table means mode place (x ++ left) s final) e
      (subst (λ x. Leaves table means mode place (more ++ left) x final) u
      (subst (λ x. Leaves table means mode x (more ++ left) t final) p
      (subst (λ x. Leaves table means x at (more ++ left) t final) m l))))

  -- what is emitted after some characters in one piece, and what stands after them, is read of both
  pub run_taken : (mode : Mode) (place : LexemeState) (held cs rest : List ℕ) (s final : A) →
      ((state : A) (ds es : List ℕ) →
      means.step (means.step state (characters ds)) (characters es) ≡ means.step state (characters (ds ++ es))) →
      ((state : A) → means.step state (characters []) ≡ state) →
      place ≡ Text → held ≡ [] → IsTrue (list_all (is_text mode.text) cs) →
      Leaves table means mode place (held ++ rest) (means.step s (characters cs)) final →
      Leaves table means mode place (held ++ (cs ++ rest)) s final
  run_taken mode place held [] rest s final joins skips e h t l =
      subst (λ x. Leaves table means mode place (held ++ rest) x final) (skips s) l
  run_taken mode place held (c ∷ cs) rest s final joins skips e h t l =
      let both = and_parts (is_text mode.text c) (list_all (is_text mode.text) cs) t in
      let trailing = means.step s (characters (c ∷ [])) in
      leaves_of table means mode place held (c ∷ (cs ++ rest)) s final
      (emitted (characters (c ∷ []) ∷ []) mode (cs ++ rest)) e h
      (text_character table (means.foreign s) mode c (cs ++ rest) both.0)
      (run_read table means mode cs rest trailing final joins skips both.1
      (reading_of table means mode place held rest (means.step trailing (characters cs)) final e h
      (subst (λ x. Leaves table means mode place (held ++ rest) x final) (sym (joins s (c ∷ []) cs)) l)))

-- what is held goes on with it
pub going_held : (table : References) (mode now : Mode) (place at : LexemeState) (held more cs : List ℕ) → now ≡ mode →
    at ≡ place → more ≡ held ++ cs → IsGoing table mode.last_start_tag place (held ++ cs) →
    IsGoing table now.last_start_tag at more
going_held table mode now place at held more cs m p e h =
    subst (λ (x : Mode). IsGoing table x.last_start_tag at more) (sym m)
    (subst (λ x. IsGoing table mode.last_start_tag x more) (sym p)
    (subst (IsGoing table mode.last_start_tag place) (sym e) h))

-- ---- the queue

counts_one : (t n m : ℕ) → min (min (t + 1) m + n) m ≡ min (t + suc n) m
counts_one t n m = omega arith

counts_on : (t c : ℕ) (cs : List ℕ) → counted t (c ∷ cs) ≡ counted (counted t (c ∷ [])) cs
counts_on t c cs = sym (counts_one t (length cs) (2 ^ 64 - 1))

-- what is taken at once is taken character by character
each_of : (old : Queue) (c : ℕ) (cs : List ℕ) (new : Queue) → Takes old (c ∷ cs) new → TakesEach old (c ∷ cs) new
each_of old c [] new t = (new, (t, refl))
each_of old c (d ∷ ds) new t =
    let next : Queue = record { text = (d ∷ ds) ++ new.text; taken = counted old.taken (c ∷ []) } in
    let first : Takes old (c ∷ []) next = record { text = t.text; taken = refl } in
    let others : Takes next (d ∷ ds) new =
    record { text = refl; taken = t.taken ∙ counts_on old.taken c (d ∷ ds) } in
    (next, (first, each_of next d ds new others))

-- a run that is empty counts nothing
counts_none : (t m : ℕ) → min (min (t + 0) m + 1) m ≡ min (t + 1) m
counts_none t m = omega arith

-- A run that may be empty, and what stands after it, where the queue is not.
after_front : {A : Type 0} (completes now : List ℕ → A → Type 0) (old between new : Queue) (trailing : Option ℕ)
    (cs : List ℕ) → (old.text ≡ [] → ⊥) → Takes old cs between →
    ((rest : List ℕ) (final : A) → now rest final → completes (cs ++ rest) final) →
    MatchOption trailing ((between.text ≡ []) × (new ≡ between)) (λ c. Takes between (c ∷ []) new) →
    TakesRun completes now old trailing new
after_front completes now old between new trailing (c ∷ cs) some t reads m =
    record { between = between; taken = c ∷ cs; takes = each_of old c cs between t; reads = reads; character = m }
after_front completes now old between new None [] some t reads m = absurd (some (t.text ∙ m.0))
after_front completes now old between new (Some c) [] some t reads m = record {
  between = old;
  taken = [];
  takes = refl;
  reads = reads;
  character = record {
    text = t.text ∙ m.text;
    taken = m.taken ∙ (ap (λ n. counted n (c ∷ [])) t.taken ∙ counts_none old.taken (2 ^ 64 - 1));
  };
}

pub front_run : {A : Type 0} {completes now : List ℕ → A → Type 0} {old between new : Queue} {trailing : Option ℕ} →
    (old.text ≡ [] → ⊥) → TakesFront completes now old between →
    MatchOption trailing ((between.text ≡ []) × (new ≡ between)) (λ c. Takes between (c ∷ []) new) →
    TakesRun completes now old trailing new
front_run {completes = completes} {now = now} {old = old} {between = between} {new = new} {trailing = trailing} some f m =
    after_front completes now old between new trailing f.taken some f.takes f.reads m

-- what was taken stood in front
each_text : (old : Queue) (cs : List ℕ) (new : Queue) → TakesEach old cs new → old.text ≡ cs ++ new.text
each_text old [] new e = ap (λ (q : Queue). q.text) (sym e)
each_text old (c ∷ cs) new e = e.1.0.text ∙ ap (λ l. c ∷ l) (each_text e.0 cs new e.1.1)

shorter_after : (xs : List ℕ) (c : ℕ) (ys : List ℕ) → length ys < length (xs ++ c ∷ ys)
shorter_after [] c ys = omega arith
shorter_after (x ∷ xs) c ys = omega (arith, shorter_after xs c ys)

-- ---- a run, and what stands after it

module _ {A : Type 0} {completes now : List ℕ → A → Type 0} {old new : Queue} where
  run_takes : {trailing : Option ℕ} (r : TakesRun completes now old trailing new) → TakesSome old r.between
  run_takes r = record { taken = r.taken; takes = r.takes }

  -- a run goes on from what was taken before it
  pub run_on : {first : List ℕ → A → Type 0} {begun : Queue} {trailing : Option ℕ} → HasTaken first completes begun old →
      (r : TakesRun completes now old trailing new) → HasTaken first now begun r.between
  run_on {first = first} {begun = begun} h r = record {
    taken = h.taken ++ r.taken;
    takes = each_on begun h.taken old r.taken r.between h.takes r.takes;
    reads = λ rest final l. subst (λ x. first x final) (sym (append_assoc h.taken r.taken rest))
        (h.reads (r.taken ++ rest) final (r.reads rest final l));
  }

  pub run_text : {trailing : Option ℕ} (r : TakesRun completes now old trailing new) (rest : List ℕ) (final : A) →
      now (r.between.text ++ rest) final → completes (old.text ++ rest) final
  run_text r rest final l =
      subst (λ x. completes (x ++ rest) final) (sym (each_text old r.taken r.between r.takes))
      (subst (λ x. completes x final) (sym (append_assoc r.taken r.between.text rest))
      (r.reads (r.between.text ++ rest) final l))

  -- a character stands after it
  pub with_character : {trailing : Option ℕ} {c : ℕ} → trailing ≡ Some c → TakesRun completes now old trailing new →
      TakesRun completes now old (Some c) new
  with_character e r = subst (λ b. TakesRun completes now old b new) e r

  pub turn_shorter : {c : ℕ} → TakesRun completes now old (Some c) new → length new.text < length old.text
  turn_shorter {c = c} r =
      subst (λ (l : List ℕ). length new.text < length l) (sym (each_text old r.taken r.between r.takes))
      (subst (λ l. length new.text < length (r.taken ++ l)) (sym r.character.text)
      (shorter_after r.taken c new.text))

  pub turn_takes : {c : ℕ} {begun : Queue} → TakesSome begun old → TakesRun completes now old (Some c) new →
      TakesSome begun new
  turn_takes {c = c} {begun = begun} s r =
      taken_more begun r.between new c (taken_on begun old r.between s (run_takes r)) r.character

  pub turn_text : {c : ℕ} {after : List ℕ → A → Type 0} → TakesRun completes now old (Some c) new →
      ((rest : List ℕ) (final : A) → after rest final → now (c ∷ rest) final) →
      (rest : List ℕ) (final : A) → after (new.text ++ rest) final → completes (old.text ++ rest) final
  turn_text r f rest final l =
      run_text r rest final (subst (λ x. now (x ++ rest) final) (sym r.character.text) (f (new.text ++ rest) final l))

  -- nothing stands after it
  pub with_none : {trailing : Option ℕ} → ((c : ℕ) → trailing ≡ Some c → ⊥) → TakesRun completes now old trailing new →
      TakesRun completes now old None new
  with_none {trailing = None} none r = r
  with_none {trailing = Some c} none r = absurd (none c refl)

  pub last_takes : {begun : Queue} → TakesSome begun old → TakesRun completes now old None new → TakesSome begun new
  last_takes {begun = begun} s r =
      subst (TakesSome begun) (sym r.character.1) (taken_on begun old r.between s (run_takes r))
