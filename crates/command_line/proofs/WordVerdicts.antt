-- Words that clap does not refuse are a line, or a line and a word that asks for help.
use Rattle.std.proofs.Common.{◌≡◌, ◌∙◌, ◌++◌, ◌∷◌, [], Bool, List, Option, Some, ap, append_assoc, codes, false}
use Rattle.std.proofs.Common.{flat_map, refl, subst, sym, true, ℕ}
use Rattle.std.specs.List.{All}
use Rattle.std.specs.Option.{option_map_or}
use Rattle.std.specs.Str.{IsUtf8}
use Rattle.std.proofs.lemmas.List.Elements.{All-cons, All-nil}
use Rattle.clap.specs.Walk.{Held, Row, Text, has_row, idle, settled_rows}
use Rattle.clap.specs.Kinds.{Kinds, or_else}
use Rattle.clap.specs.Faults.{settle_fault, use_fault}
use Rattle.clap.specs.declared.error.kind.ErrorKind.TheVariants.{DisplayHelp, InvalidValue, UnknownArgument}
use Rattle.command_line.specs.CommandWords.{Ending, IsHelpWord, IsPlain, IsWritten, Item, Valued, apart, bare, dashes}
use Rattle.command_line.specs.CommandWords.{file, flag, flag_word, joined, named, valued_word, words_of}
use Rattle.command_line.specs.CommandWords.{words_of_ending}
use Rattle.command_line.proofs.FaultKinds.{IsRefusal, first_refuses, or_else_past, refusal_as}
use Rattle.command_line.proofs.ItemUses.{Takes, bare_use, held, held_with, id_in, item_fault, pend, row_in, taken}
use Rattle.command_line.proofs.ItemUses.{takes, untaken, value_fault}
use Rattle.command_line.proofs.ItemRuns.{Runs, Settles, file_id, listed, pended, settle_passes, settled_rows_are}
use Rattle.command_line.proofs.ItemRuns.{settles, settles_badly, settles_well, trailing}
use Rattle.command_line.proofs.LineWalks.{Leads, carried, dashes_leads, fault_end, fault_first, fault_next, fault_over}
use Rattle.command_line.proofs.LineWalks.{file_leads, flag_leads, flag_long, flag_now, flag_other, joined_leads}
use Rattle.command_line.proofs.LineWalks.{joined_long, joined_now, joined_other, kept, kept_pended, name_leads, place}
use Rattle.command_line.proofs.LineWalks.{position_in, settling, stands, stands_after, trails, value_leads, waits}
use Rattle.command_line.proofs.LineWalks.{wants_leads, wants_long, wants_now, wants_other}
use Rattle.command_line.proofs.OptionNames.{by_flag, by_id, by_option, flag_takes, flagged, id_of, option_takes}
use Rattle.command_line.proofs.OptionNames.{rule_at, shape, valued}
use Rattle.command_line.proofs.WordSorts.{Sort, dashing, flagging, helping, joining, sort_of, standing, straying}
use Rattle.command_line.proofs.WordSorts.{wanting}
use Rattle.command_line.proofs.WordTurns.{alone, dashes_next, dashes_turn, file_turn, flag_turn, help_turn, joined_turn}
use Rattle.command_line.proofs.WordTurns.{rest_at, second_turn, trail_at, trail_second, trail_turn, turn, two_hyphens}
use Rattle.command_line.proofs.WordTurns.{waiting_for, wants_turn}

-- The words go on where the rows end: to the end of a line, or to a word that asks for help.
pub data Emitted (rows : List Row) (words : List Text) : Type 0 where
  emitted_line : (items : List Item) (ending : Ending) → words ≡ flat_map words_of items ++ words_of_ending ending
      → All IsWritten items → Runs rows (items ++ trailing ending) → Emitted rows words
  emitted_help : (items : List Item) (word : Text) (rest : List Text) → words ≡ flat_map words_of items ++ word ∷ rest
      → All IsWritten items → IsHelpWord word → Runs rows items → Emitted rows words

emitted_item : (rows : List Row) (item : Item) (words : List Text) → has_row (id_in item) rows ≡ false
    → value_fault item ≡ [] → IsWritten item → Emitted (rows ++ row_in item ∷ []) words
    → Emitted rows (words_of item ++ words)
emitted_item rows item words fresh fine written (emitted_line items ending is all runs) =
    emitted_line (item ∷ items) ending (ap (λ ws. words_of item ++ ws) is ∙ sym
    (append_assoc (words_of item) (flat_map words_of items) (words_of_ending ending)))
    (All-cons IsWritten item items written all) (fresh, fine, runs)
emitted_item rows item words fresh fine written (emitted_help items word rest is all help runs) =
    emitted_help (item ∷ items) word rest (ap (λ ws. words_of item ++ ws) is ∙ sym
    (append_assoc (words_of item) (flat_map words_of items) (word ∷ rest)))
    (All-cons IsWritten item items written all) help (fresh, fine, runs)

-- what is held is used well, and the words go on; or clap refuses them
pub data Verdict (rows : List Row) (p : Option Item) (words : List Text) (fault : Kinds) : Type 0 where
  allowed : Runs rows (listed p) → Emitted (pended rows p) words → Verdict rows p words fault
  forbidden : IsRefusal fault → Verdict rows p words fault

-- the same where the option waits for its value
pub data Waited (option : Valued) (rows : List Row) (words : List Text) (fault : Kinds) : Type 0 where
  given_value : Emitted rows (valued_word option ∷ words) → Waited option rows words fault
  no_value : IsRefusal fault → Waited option rows words fault

pub record Verdicts (words : List Text) : Type 0 where
  pub at_rest : (rows : List Row) (p : Option Item) → Verdict rows p words (fault_over (stands rows p) words)
  pub at_wait : (option : Valued) (rows : List Row) → Waited option rows words (fault_over (waits option rows) words)

verdict_as : (rows : List Row) (p : Option Item) (words : List Text) (fault same : Kinds) → fault ≡ same
    → Verdict rows p words same → Verdict rows p words fault
verdict_as rows p words fault same e (allowed runs emitted) = allowed runs emitted
verdict_as rows p words fault same e (forbidden refused) = forbidden (refusal_as fault same e refused)

unknown : (fault : Kinds) → fault ≡ UnknownArgument ∷ [] → IsRefusal fault
unknown fault is = (UnknownArgument, (λ same. let bad : UnknownArgument ≡ DisplayHelp = same in cc), is)

-- ---- after `--`

name_verdict : (rows : List Row) (p : Option Item) (name : Text) (rest : List Text) → Runs rows (listed p)
    → Verdict rows p (two_hyphens ∷ name ∷ rest)
    (fault_over (trail_at idle (held_with (pended rows p) (Some (file name))) 2) rest)
name_verdict rows p name [] runs = go (settles (pended rows p) (Some (file name)))
  where
    go : Settles (pended rows p) (Some (file name))
        → Verdict rows p (two_hyphens ∷ name ∷ [])
        (fault_over (trail_at idle (held_with (pended rows p) (Some (file name))) 2) [])
    go (settles_well later) = allowed runs (emitted_line [] (named name) refl (All-nil IsWritten) later)
    go (settles_badly bad) = forbidden (refusal_as _ _
        (fault_end (trail_at idle (held_with (pended rows p) (Some (file name))) 2)) bad)
name_verdict rows p name (word ∷ rest) runs =
    forbidden (fault_first (trail_at idle (held_with (pended rows p) (Some (file name))) 2) word rest
    (unknown _ (trail_second idle (pended rows p) (pend (Some (file name))) word)))

trail_verdict : (rows : List Row) (p : Option Item) (rest : List Text)
    → Verdict rows p (two_hyphens ∷ rest) (fault_over (trails idle rows p) rest)
trail_verdict rows p [] = go (settles rows p)
  where
    go : Settles rows p → Verdict rows p (two_hyphens ∷ []) (fault_over (trails idle rows p) [])
    go (settles_well runs) = allowed runs (emitted_line [] dashes refl (All-nil IsWritten) tt)
    go (settles_badly bad) = forbidden (refusal_as _ _ (fault_end (trails idle rows p)) bad)
trail_verdict rows p (name ∷ rest) = go (has_row file_id (pended rows p)) refl (settles rows p)
  where
    go : (b : Bool) → has_row file_id (pended rows p) ≡ b → Settles rows p
        → Verdict rows p (two_hyphens ∷ name ∷ rest) (fault_over (trails idle rows p) (name ∷ rest))
    go true named_before settled = forbidden (fault_first (trails idle rows p) name rest
        (unknown _ (ap (λ b. turn (trail_at idle (held_with rows p) (position_in b)) name) named_before
        ∙ trail_second idle rows (pend p) name)))
    go false fresh (settles_well runs) = verdict_as rows p (two_hyphens ∷ name ∷ rest) _ _
        ((name_leads rows p name runs fresh).fault rest) (name_verdict rows p name rest runs)
    go false fresh (settles_badly bad) = forbidden (fault_first (trails idle rows p) name rest
        (refusal_as _ _ (ap (λ b. turn (trail_at idle (held_with rows p) (position_in b)) name) fresh
        ∙ trail_turn idle rows (pend p) name) bad))

-- ---- a word where nothing waits

module _ (rows : List Row) (p : Option Item) (word : Text) (rest : List Text) where
  abbrev Here : Type 0
  Here = Verdict rows p (word ∷ rest) (fault_over (stands rows p) (word ∷ rest))

  refused_here : IsRefusal (turn (stands rows p) word) → Here
  refused_here refused = forbidden (fault_first (stands rows p) word rest refused)

  -- an item of one word, once it is taken
  item_here : (item : Item) → word ∷ [] ≡ words_of item → Runs rows (listed p)
      → has_row (id_in item) (pended rows p) ≡ false → value_fault item ≡ [] → IsWritten item
      → Leads (stands rows p) (word ∷ []) (stands_after (pended rows p) item) → Verdicts rest → Here
  item_here item is runs fresh fine written leads later =
      verdict_as rows p (word ∷ rest) _ _ (leads.fault rest)
      (go (later.at_rest (kept (pended rows p) item) (carried item)))
    where
      go : Verdict (kept (pended rows p) item) (carried item) rest
          (fault_over (stands_after (pended rows p) item) rest)
          → Verdict rows p (word ∷ rest) (fault_over (stands_after (pended rows p) item) rest)
      go (allowed _ emitted) = allowed runs (subst (λ ws. Emitted (pended rows p) (ws ++ rest)) (sym is)
          (emitted_item (pended rows p) item rest fresh fine written
          (subst (λ rs. Emitted rs rest) (kept_pended (pended rows p) item) emitted)))
      go (forbidden refused) = forbidden refused

  -- an item that is used at once
  once_here : (item : Item) → word ∷ [] ≡ words_of item → IsWritten item
      → turn (stands rows p) word ≡ or_else (settling rows p) (item_fault (settled_rows shape.rules (pend p) rows) item)
      → (Runs rows (listed p) → has_row (id_in item) (pended rows p) ≡ false → value_fault item ≡ []
      → Leads (stands rows p) (word ∷ []) (stands_after (pended rows p) item)) → Verdicts rest → Here
  once_here item is written now leads later = go (settles rows p)
    where
      taking : Runs rows (listed p) → Takes (pended rows p) item → Here
      taking runs (taken fresh fine) = item_here item is runs fresh fine written (leads runs fresh fine) later
      taking runs (untaken refused) = refused_here (refusal_as _ _
          (now ∙ or_else_past (settling rows p) _ (settle_passes rows p runs)
          ∙ ap (λ rs. item_fault rs item) (settled_rows_are rows p runs)) refused)

      go : Settles rows p → Here
      go (settles_well runs) = taking runs (takes (pended rows p) item)
      go (settles_badly bad) = refused_here (refusal_as _ _ now (first_refuses (settling rows p) _ bad))

  file_here : IsPlain word → Verdicts rest → Here
  file_here plain later = go (has_row file_id (pended rows p)) refl (settles rows p)
    where
      go : (b : Bool) → has_row file_id (pended rows p) ≡ b → Settles rows p → Here
      go true named_before settled =
          refused_here (unknown _ (ap (λ b. turn (rest_at (held_with rows p) (position_in b)) word) named_before
          ∙ second_turn rows (pend p) word (alone word plain)))
      go false fresh (settles_well runs) = item_here (file word) refl runs fresh refl plain
          (file_leads rows p runs word plain fresh) later
      go false fresh (settles_badly bad) = refused_here (refusal_as _ _
          (ap (λ b. turn (rest_at (held_with rows p) (position_in b)) word) fresh
          ∙ file_turn rows (pend p) word (alone word plain)) bad)

  help_here : IsHelpWord word → Here
  help_here help = go (settles rows p)
    where
      go : Settles rows p → Here
      go (settles_well runs) = allowed runs (emitted_help [] word rest refl (All-nil IsWritten) help tt)
      go (settles_badly bad) = refused_here (refusal_as _ _ (help_turn idle rows (pend p) (place rows p) word help)
          (first_refuses (settling rows p) _ bad))

wants_here : (rows : List Row) (p : Option Item) (option : Valued) (rest : List Text) → Verdicts rest
    → Here rows p (valued_word option) rest
wants_here rows p option rest later = go (settles rows p)
  where
    waited : Runs rows (listed p) → Waited option (pended rows p) rest (fault_over (waits option (pended rows p)) rest)
        → Here rows p (valued_word option) rest
    waited runs (given_value emitted) = allowed runs emitted
    waited runs (no_value refused) = forbidden (refusal_as _ _ ((wants_leads rows p runs option).fault rest) refused)

    go : Settles rows p → Here rows p (valued_word option) rest
    go (settles_well runs) = waited runs (later.at_wait option (pended rows p))
    go (settles_badly bad) = refused_here rows p (valued_word option) rest
        (refusal_as _ _ (wants_now option rows p) bad)

rest_verdict : (rows : List Row) (p : Option Item) (word : Text) (rest : List Text) → Verdicts rest → Sort word
    → Here rows p word rest
rest_verdict rows p word rest later (dashing is) = subst (λ w. Here rows p w rest) (sym is)
    (verdict_as rows p (two_hyphens ∷ rest) _ _ ((dashes_leads rows p).fault rest) (trail_verdict rows p rest))
rest_verdict rows p word rest later (flagging option is) = subst (λ w. Here rows p w rest) (sym is)
    (once_here rows p (flag_word option) rest (flag option) refl tt (flag_now option rows p)
    (λ runs. flag_leads rows p runs option) later)
rest_verdict rows p word rest later (wanting option is) =
    subst (λ w. Here rows p w rest) (sym is) (wants_here rows p option rest later)
rest_verdict rows p word rest later (joining option value is) = subst (λ w. Here rows p w rest) (sym is)
    (once_here rows p (valued_word option ++ codes "=" ++ value) rest (joined option value) refl tt
    (joined_now option value rows p) (λ runs. joined_leads rows p runs option value) later)
rest_verdict rows p word rest later (standing plain) = file_here rows p word rest plain later
rest_verdict rows p word rest later (helping help) = help_here rows p word rest help
rest_verdict rows p word rest later (straying stray) =
    refused_here rows p word rest (stray idle rows (pend p) (place rows p))

-- ---- a word where an option waits

abbrev bare_held : Valued → List Row → Held
bare_held option rows = held rows (Some (id_of (valued option), []))

bare_settles : (option : Valued) (rows : List Row) → settle_fault shape.rules false (bare_held option rows)
    ≡ InvalidValue ∷ []
bare_settles option rows = ap (λ o. option_map_or (λ a. use_fault false a [] rows) o []) (by_id (valued option))
    ∙ bare_use option rows

invalid : (option : Valued) (rows : List Row) (fault : Kinds)
    → fault ≡ settle_fault shape.rules false (bare_held option rows) → IsRefusal fault
invalid option rows fault is =
    (InvalidValue, (λ same. let bad : InvalidValue ≡ DisplayHelp = same in cc), is ∙ bare_settles option rows)

-- where the next use of an argument comes first
invalid_first : (option : Valued) (rows : List Row) (fault later : Kinds)
    → fault ≡ or_else (settle_fault shape.rules false (bare_held option rows)) later → IsRefusal fault
invalid_first option rows fault later is =
    refusal_as fault _ is (first_refuses (settle_fault shape.rules false (bare_held option rows)) later
    (invalid option rows _ refl))

module _ (option : Valued) (rows : List Row) where
  abbrev at_now : ℕ
  at_now = position_in (has_row file_id rows)

  -- after `--` the option has no value
  trail_refused : (rest : List Text) → IsRefusal
      (fault_over (trail_at (waiting_for option) (bare_held option rows) at_now) rest)
  trail_refused [] = invalid option rows _ (fault_end (trail_at (waiting_for option) (bare_held option rows) at_now))
  trail_refused (name ∷ rest) = fault_first (trail_at (waiting_for option) (bare_held option rows) at_now) name rest
      (go (has_row file_id rows) refl)
    where
      go : (b : Bool) → has_row file_id rows ≡ b
          → IsRefusal (turn (trail_at (waiting_for option) (bare_held option rows) at_now) name)
      go true before = unknown _
          (ap (λ b. turn (trail_at (waiting_for option) (bare_held option rows) (position_in b)) name) before
          ∙ trail_second (waiting_for option) rows (Some (id_of (valued option), [])) name)
      go false fresh = invalid option rows _
          (ap (λ b. turn (trail_at (waiting_for option) (bare_held option rows) (position_in b)) name) fresh
          ∙ trail_turn (waiting_for option) rows (Some (id_of (valued option), [])) name)

  module _ (word : Text) (rest : List Text) where
    abbrev There : Type 0
    There = Waited option rows (word ∷ rest) (fault_over (waits option rows) (word ∷ rest))

    refused_there : IsRefusal (turn (waits option rows) word) → There
    refused_there refused = no_value (fault_first (waits option rows) word rest refused)

    value_there : IsPlain word → Verdicts rest → There
    value_there plain later = go (later.at_rest rows (Some (apart option word)))
      where
        go : Verdict rows (Some (apart option word)) rest (fault_over (stands rows (Some (apart option word))) rest)
            → There
        go (allowed runs emitted) = given_value (emitted_item rows (apart option word) rest runs.0 runs.1 plain emitted)
        go (forbidden refused) = no_value (refusal_as _ _ ((value_leads option word rows plain).fault rest) refused)

wait_verdict : (option : Valued) (rows : List Row) (word : Text) (rest : List Text) → Verdicts rest → Sort word
    → There option rows word rest
wait_verdict option rows word rest later (dashing is) = subst (λ w. There option rows w rest) (sym is)
    (no_value (refusal_as _ _
    (fault_next (waits option rows) _ two_hyphens rest
    (dashes_turn (waiting_for option) (bare_held option rows) (at_now option rows))
    (dashes_next (waiting_for option) (bare_held option rows) (at_now option rows)))
    (trail_refused option rows rest)))
wait_verdict option rows word rest later (flagging other is) = subst (λ w. There option rows w rest) (sym is)
    (refused_there option rows (flag_word other) rest (invalid_first option rows _ _
    (flag_turn (waiting_for option) (bare_held option rows) (at_now option rows) (flag_word other)
    (id_of (flagged other)) (flag_other other) (rule_at (flagged other)) (by_flag other) (flag_long other)
    (flag_takes other))))
wait_verdict option rows word rest later (wanting other is) = subst (λ w. There option rows w rest) (sym is)
    (refused_there option rows (valued_word other) rest (invalid option rows _
    (wants_turn (waiting_for option) (bare_held option rows) (at_now option rows) (valued_word other)
    (id_of (valued other)) (wants_other other) (rule_at (valued other)) (by_option other) (wants_long other)
    (option_takes other))))
wait_verdict option rows word rest later (joining other value is) = subst (λ w. There option rows w rest) (sym is)
    (refused_there option rows (valued_word other ++ codes "=" ++ value) rest (invalid_first option rows _ _
    (joined_turn (waiting_for option) (bare_held option rows) (at_now option rows)
    (valued_word other ++ codes "=" ++ value) (id_of (valued other)) (joined_other other value)
    (rule_at (valued other)) (by_option other) value
    (joined_long other value) (option_takes other))))
wait_verdict option rows word rest later (standing plain) = value_there option rows word rest plain later
wait_verdict option rows word rest later (helping help) =
    refused_there option rows word rest (invalid_first option rows _ (DisplayHelp ∷ [])
    (help_turn (waiting_for option) rows (Some (id_of (valued option), [])) (at_now option rows) word help))
wait_verdict option rows word rest later (straying stray) =
    refused_there option rows word rest (stray (waiting_for option) rows (Some (id_of (valued option), []))
    (at_now option rows))

-- ---- any words of text

abbrev pub AreTexts : List Text → Type 0
AreTexts [] = Unit {0}
AreTexts (word ∷ rest) = IsUtf8 word × AreTexts rest

pub verdicts : (words : List Text) → AreTexts words → Verdicts words
verdicts [] texts = record {
  at_rest = λ rows p. ended rows p (settles rows p);
  at_wait = λ option rows. no_value (invalid option rows _ (fault_end (waits option rows)));
}
  where
    ended : (rows : List Row) (p : Option Item) → Settles rows p → Verdict rows p [] (fault_over (stands rows p) [])
    ended rows p (settles_well runs) = allowed runs (emitted_line [] bare refl (All-nil IsWritten) tt)
    ended rows p (settles_badly bad) = forbidden (refusal_as _ _ (fault_end (stands rows p)) bad)
verdicts (word ∷ rest) texts =
    let later = verdicts rest texts.1 in
    let sort = sort_of word texts.0 in
    record {
      at_rest = λ rows p. rest_verdict rows p word rest later sort;
      at_wait = λ option rows. wait_verdict option rows word rest later sort;
    }
