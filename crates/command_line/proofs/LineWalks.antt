-- Clap's walk over the words of an item, over a line, and over what stands after `--`.
use Rattle.std.proofs.Common.{◌≡◌, ◌∙◌, ◌++◌, ◌∷◌, [], Bool, List, None, Option, Some, ap, append-nil, append_assoc}
use Rattle.std.proofs.Common.{codes, false, flat_map, map, refl, subst, sym, true, ℕ}
use Rattle.std.specs.Prelude.{fold}
use Rattle.std.specs.List.{All}
use Rattle.std.specs.Str.{bytes_eq}
use Rattle.std.proofs.lemmas.List.Elements.{All-head, All-tail}
use Rattle.clap.specs.Lexer.{long_of}
use Rattle.clap.specs.Walk.{Row, Text, Waiting, Walk, has_row, idle, settled, settled_rows, walked}
use Rattle.clap.specs.Kinds.{Kinds, or_else}
use Rattle.clap.specs.Faults.{settle_fault, walk_fault}
use Rattle.clap.specs.declared.error.kind.ErrorKind.{ErrorKind}
use Rattle.clap.specs.declared.error.kind.ErrorKind.TheVariants.{DisplayHelp}
use Rattle.command_line.specs.CommandWords.{Ending, Flag, IsHelpWord, IsPlain, IsWritten, Item, Valued, apart, bare}
use Rattle.command_line.specs.CommandWords.{dashes, file, flag, flag_word, footnotes, joined, max_bytes, named}
use Rattle.command_line.specs.CommandWords.{no_decorate, references, rich, shared_footnotes, valued_word, width}
use Rattle.command_line.specs.CommandWords.{words_of, words_of_ending}
use Rattle.command_line.proofs.FaultKinds.{IsRefusal, first_refuses, or_else_past}
use Rattle.command_line.proofs.ItemUses.{held, held_with, id_in, item_fault, pend, row_in, taken_passes, use_is}
use Rattle.command_line.proofs.ItemUses.{used_by, used_is, value_fault}
use Rattle.command_line.proofs.ItemRuns.{Runs, file_id, file_row, flag_no_file, is_file, listed, option_no_file}
use Rattle.command_line.proofs.ItemRuns.{other_row, pended, settle_passes, settled_rows_are, trailing}
use Rattle.command_line.proofs.OptionNames.{by_flag, by_option, flag_takes, flagged, id_is, id_of, option_takes}
use Rattle.command_line.proofs.OptionNames.{rule_at, shape, valued}
use Rattle.command_line.proofs.WordTurns.{alone, dashes_next, dashes_turn, file_next, file_turn, flag_next, flag_turn}
use Rattle.command_line.proofs.WordTurns.{help_turn, joined_next, joined_turn, next_of, rest_at, trail_at, trail_next}
use Rattle.command_line.proofs.WordTurns.{trail_turn, turn, two_hyphens, value_next, value_turn, wait_at, wait_on}
use Rattle.command_line.proofs.WordTurns.{wants_next, wants_turn}

-- ---- over several words

abbrev pub end_of : Walk → List Text → Walk
end_of w words = fold (walked shape.rules []) w words

-- what fails at the words, or after them, where what is held is used
abbrev pub fault_over : Walk → List Text → Kinds
fault_over w words = or_else (walk_fault shape [] w words) (settle_fault shape.rules false (end_of w words).held)

abbrev pub rows_over : Walk → List Text → List Row
rows_over w words = (settled shape.rules (end_of w words).held).rows

pub fault_end : (w : Walk) → fault_over w [] ≡ settle_fault shape.rules false w.held
unfolding walk_fault
fault_end w = refl

pub fault_first : (w : Walk) (word : Text) (rest : List Text) → IsRefusal (turn w word)
    → IsRefusal (fault_over w (word ∷ rest))
unfolding walk_fault
fault_first w word rest refused =
    first_refuses (or_else (turn w word) (walk_fault shape [] (next_of w word) rest))
    (settle_fault shape.rules false (end_of w (word ∷ rest)).held)
    (first_refuses (turn w word) (walk_fault shape [] (next_of w word) rest) refused)

fault_kind : (w : Walk) (word : Text) (rest : List Text) (k : ErrorKind) → turn w word ≡ k ∷ []
    → fault_over w (word ∷ rest) ≡ k ∷ []
unfolding walk_fault
fault_kind w word rest k is = ap (λ t. or_else (or_else t (walk_fault shape [] (next_of w word) rest))
    (settle_fault shape.rules false (end_of w (word ∷ rest)).held)) is

pub fault_next : (w after : Walk) (word : Text) (rest : List Text) → turn w word ≡ [] → next_of w word ≡ after
    → fault_over w (word ∷ rest) ≡ fault_over after rest
unfolding walk_fault
fault_next w after word rest passes next =
    ap (λ t. or_else (or_else t (walk_fault shape [] (next_of w word) rest))
    (settle_fault shape.rules false (end_of (next_of w word) rest).held)) passes
    ∙ ap (λ v. fault_over v rest) next

-- the words pass, and bring the walk to another place
pub record Leads (w : Walk) (words : List Text) (after : Walk) : Type 0 where
  pub fault : (rest : List Text) → fault_over w (words ++ rest) ≡ fault_over after rest
  pub end : (rest : List Text) → end_of w (words ++ rest) ≡ end_of after rest

pub leads_word : (w after : Walk) (word : Text) → turn w word ≡ [] → next_of w word ≡ after → Leads w (word ∷ []) after
leads_word w after word passes next = record {
  fault = λ rest. fault_next w after word rest passes next;
  end = λ rest. ap (λ v. end_of v rest) next;
}

pub leads_two : (w middle after : Walk) (word other : Text) → Leads w (word ∷ []) middle
    → Leads middle (other ∷ []) after → Leads w (word ∷ other ∷ []) after
leads_two w middle after word other one two = record {
  fault = λ rest. one.fault (other ∷ rest) ∙ two.fault rest;
  end = λ rest. one.end (other ∷ rest) ∙ two.end rest;
}

-- ---- the places between two words

abbrev pub position_in : Bool → ℕ
position_in false = 1
position_in true = 2

-- nothing waits, and `p` is not used yet
abbrev pub place : List Row → Option Item → ℕ
place rows p = position_in (has_row file_id (pended rows p))

abbrev pub stands : List Row → Option Item → Walk
stands rows p = rest_at (held_with rows p) (place rows p)

-- the option waits for its value
abbrev pub waits : Valued → List Row → Walk
waits option rows = wait_at option rows (position_in (has_row file_id rows))

-- after `--`
abbrev pub trails : Waiting → List Row → Option Item → Walk
trails waiting rows p = trail_at waiting (held_with rows p) (place rows p)

-- ---- a flag

pub flag_other : (option : Flag) → bytes_eq (flag_word option) two_hyphens ≡ false
flag_other rich = refl
flag_other no_decorate = refl
flag_other footnotes = refl
flag_other shared_footnotes = refl

pub flag_long : (option : Flag) → long_of (flag_word option) ≡ Some (id_of (flagged option), None)
flag_long rich = refl
flag_long no_decorate = refl
flag_long footnotes = refl
flag_long shared_footnotes = refl

abbrev pub settling : List Row → Option Item → Kinds
settling rows p = settle_fault shape.rules false (held_with rows p)

pub flag_now : (option : Flag) (rows : List Row) (p : Option Item)
    → turn (stands rows p) (flag_word option)
    ≡ or_else (settling rows p) (item_fault (settled_rows shape.rules (pend p) rows) (flag option))
flag_now option rows p =
    flag_turn idle (held_with rows p) (place rows p) (flag_word option) (id_of (flagged option)) (flag_other option)
    (rule_at (flagged option)) (by_flag option) (flag_long option) (flag_takes option)
    ∙ ap (or_else (settling rows p)) (use_is (settled_rows shape.rules (pend p) rows) (flag option))

-- ---- an option with its value in the same word

pub joined_other : (option : Valued) (value : Text) → bytes_eq (valued_word option ++ codes "=" ++ value) two_hyphens
    ≡ false
joined_other width value = refl
joined_other references value = refl
joined_other max_bytes value = refl

pub joined_long : (option : Valued) (value : Text) → long_of (valued_word option ++ codes "=" ++ value)
    ≡ Some (id_of (valued option), Some value)
joined_long width value = refl
joined_long references value = refl
joined_long max_bytes value = refl

pub joined_now : (option : Valued) (value : Text) (rows : List Row) (p : Option Item)
    → turn (stands rows p) (valued_word option ++ codes "=" ++ value) ≡ or_else (settling rows p)
    (item_fault (settled_rows shape.rules (pend p) rows) (joined option value))
joined_now option value rows p =
    joined_turn idle (held_with rows p) (place rows p) (valued_word option ++ codes "=" ++ value)
    (id_of (valued option)) (joined_other option value) (rule_at (valued option)) (by_option option) value
    (joined_long option value) (option_takes option)
    ∙ ap (or_else (settling rows p)) (use_is (settled_rows shape.rules (pend p) rows) (joined option value))

-- ---- an option, its value in the next word

pub wants_other : (option : Valued) → bytes_eq (valued_word option) two_hyphens ≡ false
wants_other width = refl
wants_other references = refl
wants_other max_bytes = refl

pub wants_long : (option : Valued) → long_of (valued_word option) ≡ Some (id_of (valued option), None)
wants_long width = refl
wants_long references = refl
wants_long max_bytes = refl

pub wants_now : (option : Valued) (rows : List Row) (p : Option Item) → turn (stands rows p) (valued_word option)
    ≡ settling rows p
wants_now option rows p =
    wants_turn idle (held_with rows p) (place rows p) (valued_word option) (id_of (valued option)) (wants_other option)
    (rule_at (valued option)) (by_option option) (wants_long option) (option_takes option)

-- ---- what an item leads to, where what is held is used well

-- what is held after it
abbrev pub carried : Item → Option Item
carried (apart option value) = Some (apart option value)
carried (joined option value) = None
carried (flag option) = None
carried (file name) = Some (file name)

abbrev pub kept : List Row → Item → List Row
kept rows (apart option value) = rows
kept rows (joined option value) = rows ++ row_in (joined option value) ∷ []
kept rows (flag option) = rows ++ row_in (flag option) ∷ []
kept rows (file name) = rows

pub kept_pended : (rows : List Row) (item : Item) → pended (kept rows item) (carried item) ≡ rows ++ row_in item ∷ []
kept_pended rows (apart option value) = refl
kept_pended rows (joined option value) = refl
kept_pended rows (flag option) = refl
kept_pended rows (file name) = refl

pub kept_runs : (rows : List Row) (item : Item) → has_row (id_in item) rows ≡ false → value_fault item ≡ []
    → Runs (kept rows item) (listed (carried item))
kept_runs rows (apart option value) fresh fine = (fresh, fine, tt)
kept_runs rows (joined option value) fresh fine = tt
kept_runs rows (flag option) fresh fine = tt
kept_runs rows (file name) fresh fine = (fresh, fine, tt)

abbrev pub stands_after : List Row → Item → Walk
stands_after rows item = stands (kept rows item) (carried item)

module _ (rows : List Row) (p : Option Item) (runs : Runs rows (listed p)) where
  -- the fault and the rows of an item that is used at once
  now_passes : (item : Item) → has_row (id_in item) (pended rows p) ≡ false → value_fault item ≡ []
      → or_else (settling rows p) (item_fault (settled_rows shape.rules (pend p) rows) item) ≡ []
  now_passes item fresh fine =
      or_else_past (settling rows p) _ (settle_passes rows p runs) ∙ ap (λ rs. item_fault rs item)
      (settled_rows_are rows p runs) ∙ taken_passes (pended rows p) item fresh fine

  now_rows : (item : Item) → has_row (id_in item) (pended rows p) ≡ false
      → used_by item (settled_rows shape.rules (pend p) rows) ≡ pended rows p ++ row_in item ∷ []
  now_rows item fresh = ap (used_by item) (settled_rows_are rows p runs) ∙ used_is item (pended rows p) fresh

  -- the walk where it is used, with its place
  now_stands : (item : Item) → is_file item ≡ false → has_row (id_in item) (pended rows p) ≡ false
      → rest_at (held (used_by item (settled_rows shape.rules (pend p) rows)) None) (place rows p)
      ≡ stands (pended rows p ++ row_in item ∷ []) None
  now_stands item other fresh =
      ap (λ rs. rest_at (held rs None) (place rows p)) (now_rows item fresh)
      ∙ ap (λ b. rest_at (held (pended rows p ++ row_in item ∷ []) None) (position_in b))
      (sym (other_row (pended rows p) item other))

  pub flag_leads : (option : Flag) → has_row (id_in (flag option)) (pended rows p) ≡ false
      → value_fault (flag option) ≡ []
      → Leads (stands rows p) (flag_word option ∷ []) (stands_after (pended rows p) (flag option))
  flag_leads option fresh fine = leads_word _ _ _ (flag_now option rows p ∙ now_passes (flag option) fresh fine)
      (flag_next idle (held_with rows p) (place rows p) (flag_word option) (id_of (flagged option)) (flag_other option)
      (rule_at (flagged option)) (by_flag option) (flag_long option) (flag_takes option)
      ∙ now_stands (flag option) (flag_no_file option) fresh)

  pub joined_leads : (option : Valued) (value : Text) → has_row (id_in (joined option value)) (pended rows p) ≡ false
      → value_fault (joined option value) ≡ []
      → Leads (stands rows p) ((valued_word option ++ codes "=" ++ value) ∷ [])
      (stands_after (pended rows p) (joined option value))
  joined_leads option value fresh fine = leads_word _ _ _
      (joined_now option value rows p ∙ now_passes (joined option value) fresh fine)
      (joined_next idle (held_with rows p) (place rows p) (valued_word option ++ codes "=" ++ value)
      (id_of (valued option)) (joined_other option value) (rule_at (valued option)) (by_option option) value
      (joined_long option value) (option_takes option) ∙ now_stands (joined option value) (option_no_file option) fresh)

  pub wants_leads : (option : Valued) → Leads (stands rows p) (valued_word option ∷ []) (waits option (pended rows p))
  wants_leads option = leads_word _ _ _ (wants_now option rows p ∙ settle_passes rows p runs)
      (wants_next idle (held_with rows p) (place rows p) (valued_word option) (id_of (valued option))
      (wants_other option) (rule_at (valued option)) (by_option option) (wants_long option) (option_takes option)
      ∙ λ i. wait_on (id_is (valued option) i) (settled_rows_are rows p runs i) (place rows p))

  pub file_leads : (name : Text) → IsPlain name → has_row file_id (pended rows p) ≡ false
      → Leads (stands rows p) (name ∷ []) (stands_after (pended rows p) (file name))
  file_leads name plain fresh = leads_word _ _ _
      (ap (λ b. turn (rest_at (held_with rows p) (position_in b)) name) fresh
      ∙ file_turn rows (pend p) name (alone name plain) ∙ settle_passes rows p runs)
      (ap (λ b. next_of (rest_at (held_with rows p) (position_in b)) name) fresh
      ∙ file_next rows (pend p) name (alone name plain)
      ∙ ap (λ rs. rest_at (held rs (Some (file_id, name ∷ []))) 2) (settled_rows_are rows p runs)
      ∙ ap (λ b. rest_at (held_with (pended rows p) (Some (file name))) (position_in b))
      (sym (file_row (pended rows p) name)))

pub value_leads : (option : Valued) (value : Text) (rows : List Row) → IsPlain value
    → Leads (waits option rows) (value ∷ []) (stands_after rows (apart option value))
value_leads option value rows plain = leads_word _ _ _
    (value_turn option rows (position_in (has_row file_id rows)) value (alone value plain))
    (value_next option rows (position_in (has_row file_id rows)) value (alone value plain)
    ∙ ap (λ b. rest_at (held_with rows (Some (apart option value))) (position_in b))
    (sym (other_row rows (apart option value) (option_no_file option))))

item_leads : (item : Item) (rows : List Row) (p : Option Item) → Runs rows (listed p)
    → has_row (id_in item) (pended rows p) ≡ false → value_fault item ≡ [] → IsWritten item
    → Leads (stands rows p) (words_of item) (stands_after (pended rows p) item)
item_leads (apart option value) rows p runs fresh fine written =
    leads_two _ _ _ (valued_word option) value (wants_leads rows p runs option)
    (value_leads option value (pended rows p) written)
item_leads (joined option value) rows p runs fresh fine written = joined_leads rows p runs option value fresh fine
item_leads (flag option) rows p runs fresh fine written = flag_leads rows p runs option fresh fine
item_leads (file name) rows p runs fresh fine written = file_leads rows p runs name written fresh

-- ---- what stands after `--`

pub dashes_leads : (rows : List Row) (p : Option Item) → Leads (stands rows p) (two_hyphens ∷ []) (trails idle rows p)
dashes_leads rows p = leads_word _ _ _ (dashes_turn idle (held_with rows p) (place rows p))
    (dashes_next idle (held_with rows p) (place rows p))

pub name_leads : (rows : List Row) (p : Option Item) (name : Text) → Runs rows (listed p)
    → has_row file_id (pended rows p) ≡ false
    → Leads (trails idle rows p) (name ∷ []) (trail_at idle (held_with (pended rows p) (Some (file name))) 2)
name_leads rows p name runs fresh = leads_word _ _ _
    (ap (λ b. turn (trail_at idle (held_with rows p) (position_in b)) name) fresh ∙ trail_turn idle rows (pend p) name
    ∙ settle_passes rows p runs)
    (ap (λ b. next_of (trail_at idle (held_with rows p) (position_in b)) name) fresh
    ∙ trail_next idle rows (pend p) name
    ∙ ap (λ rs. trail_at idle (held rs (Some (file_id, name ∷ []))) 2) (settled_rows_are rows p runs))

-- ---- a line

-- no word is refused, nor what is held at the end, and these are the rows
pub record Passes (w : Walk) (words : List Text) (rows : List Row) : Type 0 where
  pub fault : fault_over w words ≡ []
  pub found : rows_over w words ≡ rows

passes_end : (w : Walk) (rows : List Row) (p : Option Item) → w.held ≡ held_with rows p → Runs rows (listed p)
    → Passes w [] (pended rows p)
passes_end w rows p is runs = record {
  fault = fault_end w ∙ ap (settle_fault shape.rules false) is ∙ settle_passes rows p runs;
  found = ap (λ h. (settled shape.rules h).rows) is ∙ settled_rows_are rows p runs;
}

passes_on : (w after : Walk) (words rest : List Text) (rows : List Row) → Leads w words after → Passes after rest rows
    → Passes w (words ++ rest) rows
passes_on w after words rest rows leads passes = record {
  fault = leads.fault rest ∙ passes.fault;
  found = ap (λ v. (settled shape.rules v.held).rows) (leads.end rest) ∙ passes.found;
}

ending_passes : (ending : Ending) (rows : List Row) (p : Option Item) → Runs rows (listed p)
    → Runs (pended rows p) (trailing ending)
    → Passes (stands rows p) (words_of_ending ending) (pended rows p ++ map row_in (trailing ending))
ending_passes bare rows p runs later = subst (Passes (stands rows p) []) (sym (append-nil (pended rows p)))
    (passes_end (stands rows p) rows p refl runs)
ending_passes dashes rows p runs later =
    subst (Passes (stands rows p) (two_hyphens ∷ [])) (sym (append-nil (pended rows p)))
    (passes_on _ _ (two_hyphens ∷ []) [] _ (dashes_leads rows p) (passes_end (trails idle rows p) rows p refl runs))
ending_passes (named name) rows p runs later =
    passes_on _ _ (two_hyphens ∷ []) (name ∷ []) _ (dashes_leads rows p)
    (passes_on _ _ (name ∷ []) [] _ (name_leads rows p name runs later.0)
    (passes_end _ (pended rows p) (Some (file name)) refl later))

-- the rows of what is held, and then of the rest
more_rows : (rows : List Row) (item : Item) (rest : List Item) → pended (kept rows item) (carried item)
    ++ map row_in rest ≡ rows ++ map row_in (item ∷ rest)
more_rows rows item rest = ap (λ rs. rs ++ map row_in rest) (kept_pended rows item)
    ∙ append_assoc rows (row_in item ∷ []) (map row_in rest)

pub line_passes : (items : List Item) (ending : Ending) (rows : List Row) (p : Option Item) → Runs rows (listed p)
    → Runs (pended rows p) (items ++ trailing ending) → All IsWritten items
    → Passes (stands rows p) (flat_map words_of items ++ words_of_ending ending)
    (pended rows p ++ map row_in (items ++ trailing ending))
line_passes [] ending rows p runs later written = ending_passes ending rows p runs later
line_passes (item ∷ items) ending rows p runs later written =
    let now = pended rows p in
    let rest = flat_map words_of items ++ words_of_ending ending in
    let further = line_passes items ending (kept now item) (carried item) (kept_runs now item later.0 later.1)
    (subst (λ rs. Runs rs (items ++ trailing ending)) (sym (kept_pended now item)) later.2)
    (All-tail IsWritten item items written) in
    subst (λ ws. Passes (stands rows p) ws (now ++ map row_in (item ∷ items ++ trailing ending)))
    (sym (append_assoc (words_of item) (flat_map words_of items) (words_of_ending ending)))
    (passes_on (stands rows p) (stands_after now item) (words_of item) rest
    (now ++ map row_in (item ∷ items ++ trailing ending))
    (item_leads item rows p runs later.0 later.1 (All-head IsWritten item items written))
    (subst (Passes (stands_after now item) rest) (more_rows now item (items ++ trailing ending)) further))

-- ---- a line and a word that asks for help

pub line_helps : (items : List Item) (rows : List Row) (p : Option Item) (word : Text) (rest : List Text)
    → Runs rows (listed p) → Runs (pended rows p) items → All IsWritten items
    → IsHelpWord word → fault_over (stands rows p) (flat_map words_of items ++ word ∷ rest) ≡ DisplayHelp ∷ []
line_helps [] rows p word rest runs later written help =
    fault_kind (stands rows p) word rest DisplayHelp
    (help_turn idle rows (pend p) (place rows p) word help ∙ or_else_past (settling rows p) _
    (settle_passes rows p runs))
line_helps (item ∷ items) rows p word rest runs later written help =
    let now = pended rows p in
    ap (fault_over (stands rows p)) (append_assoc (words_of item) (flat_map words_of items) (word ∷ rest))
    ∙ (item_leads item rows p runs later.0 later.1 (All-head IsWritten item items written)).fault
    (flat_map words_of items ++ word ∷ rest)
    ∙ line_helps items (kept now item) (carried item) word rest (kept_runs now item later.0 later.1)
    (subst (λ rs. Runs rs items) (sym (kept_pended now item)) later.2)
    (All-tail IsWritten item items written) help
