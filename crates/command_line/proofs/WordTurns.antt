-- What clap's walk makes of one word, by what the word is and what waits for it.
use Rattle.std.proofs.Common.{◌≡◌, ◌∙◌, ◌==◌, ◌&&◌, ◌<◌, [], ◌∷◌, Bool, List, None, Option, Some, ap, arith, codes}
use Rattle.std.proofs.Common.{eqb-true, false, inl, inr, lt-ltb, refl, subst, sym, true, ℕ}
use Rattle.std.specs.Prelude.{nat_lt, slice_get}
use Rattle.std.specs.Str.{bytes_eq, chars}
use Rattle.clap.specs.Lexer.{long_of, short_of}
use Rattle.clap.specs.Walk.{Held, Row, Rule, Text, Waiting, Walk, arg_by_long, idle, option, positional, reacted}
use Rattle.clap.specs.Walk.{settled, settled_rows, subcommand_met, takes_values, walked}
use Rattle.clap.specs.Kinds.{Kinds, or_else}
use Rattle.clap.specs.Faults.{flags_fault, react_fault, settle_fault, turn_fault}
use Rattle.clap.specs.declared.error.kind.ErrorKind.{ErrorKind}
use Rattle.clap.specs.declared.error.kind.ErrorKind.TheVariants.{DisplayHelp, TooManyValues, UnknownArgument}
use Rattle.command_line.specs.CommandWords.{IsHelpWord, IsPlain, Valued}
use Rattle.command_line.proofs.FaultKinds.{or_else_none}
use Rattle.command_line.proofs.ItemUses.{held}
use Rattle.command_line.proofs.OptionNames.{at_first, at_second, by_help, by_id, by_letter, file_is_last}
use Rattle.command_line.proofs.OptionNames.{file_is_single, file_takes_one, filed, help_at, help_takes, id_is, id_of}
use Rattle.command_line.proofs.OptionNames.{is_leaf, no_override, option_takes_one, same_option, shape, valued}

-- ---- the walk between two words

pub data IsAwaiting : Waiting → Type 0 where
  nothing_waits : IsAwaiting idle
  option_waits : (id : Text) → IsAwaiting (option id)

abbrev pub walk_at : Waiting → Held → ℕ → Walk
walk_at waiting h position = record {
  held = h;
  waiting = waiting;
  position = position;
  is_trailing = false;
  stopped =
      None;
}

abbrev pub rest_at : Held → ℕ → Walk
rest_at h position = walk_at idle h position

-- the option waits for its value
abbrev pub wait_on : Text → List Row → ℕ → Walk
wait_on id rows position = walk_at (option id) (held rows (Some (id, []))) position

abbrev pub waiting_for : Valued → Waiting
waiting_for name = option (id_of (valued name))

abbrev pub wait_at : Valued → List Row → ℕ → Walk
wait_at name rows position = wait_on (id_of (valued name)) rows position

-- `--` was passed
abbrev pub trail_at : Waiting → Held → ℕ → Walk
trail_at waiting h position = record {
  held = h;
  waiting = waiting;
  position = position;
  is_trailing = true;
  stopped =
      None;
}

abbrev pub turn : Walk → Text → Kinds
turn w word = turn_fault shape [] w word

abbrev pub next_of : Walk → Text → Walk
next_of w word = walked shape.rules [] w word

abbrev pub two_hyphens : Text
two_hyphens = codes "--"

-- the command has no other commands
no_command : (waiting : Waiting) (word : Text) → subcommand_met [] waiting word ≡ None
no_command idle word = refl
no_command (option id) word = refl
no_command positional word = refl

-- ---- long options

module _ (waiting : Waiting) (h : Held) (position : ℕ) (word name : Text) (other : bytes_eq word two_hyphens ≡ false)
  where
    pub unknown_turn : (v : Option Text) → long_of word ≡ Some (name, v) → arg_by_long shape.rules name ≡ None
        → turn (walk_at waiting h position) word ≡ UnknownArgument ∷ []
    unknown_turn v long found = simp (no_command waiting word, other, long, found)

    module _ (rule : Rule) (found : arg_by_long shape.rules name ≡ Some rule) where
      pub flag_turn : long_of word ≡ Some (name, None) → takes_values rule ≡ false
          → turn (walk_at waiting h position) word ≡ react_fault shape.rules false rule [] h
      flag_turn long bare = simp (no_command waiting word, other, long, found, bare, no_override) (or_else_none _)

      pub flag_next : long_of word ≡ Some (name, None) → takes_values rule ≡ false
          → next_of (walk_at waiting h position) word ≡ rest_at (reacted shape.rules rule [] h) position
      unfolding walked
      flag_next long bare = simp (no_command waiting word, other, long, found, bare)

      pub too_many_turn : (value : Text) → long_of word ≡ Some (name, Some value) → takes_values rule ≡ false
          → turn (walk_at waiting h position) word ≡ TooManyValues ∷ []
      too_many_turn value long bare = simp (no_command waiting word, other, long, found, bare)

      pub joined_turn : (value : Text) → long_of word ≡ Some (name, Some value) → takes_values rule ≡ true
          → turn (walk_at waiting h position) word ≡ react_fault shape.rules false rule (value ∷ []) h
      joined_turn value long takes = simp (no_command waiting word, other, long, found, takes, no_override)
          (or_else_none _)

      pub joined_next : (value : Text) → long_of word ≡ Some (name, Some value) → takes_values rule ≡ true
          → next_of (walk_at waiting h position) word ≡ rest_at (reacted shape.rules rule (value ∷ []) h) position
      unfolding walked
      joined_next value long takes = simp (no_command waiting word, other, long, found, takes)

      pub wants_turn : long_of word ≡ Some (name, None) → takes_values rule ≡ true
          → turn (walk_at waiting h position) word ≡ settle_fault shape.rules false h
      wants_turn long takes = simp (no_command waiting word, other, long, found, takes, no_override) (or_else_none _)

      pub wants_next : long_of word ≡ Some (name, None) → takes_values rule ≡ true
          → next_of (walk_at waiting h position) word ≡ walk_at (option rule.id)
          (record (settled shape.rules h) { pending = Some (rule.id, []) }) position
      unfolding walked
      wants_next long takes = simp (no_command waiting word, other, long, found, takes)

-- ---- letters after a hyphen

or_else_twice : (a b c : Kinds) (k : ErrorKind) → or_else (or_else (or_else a (k ∷ [])) b) c ≡ or_else a (k ∷ [])
or_else_twice [] b c k = refl
or_else_twice (x ∷ xs) b c k = refl

pub letter_help : (waiting : Waiting) (rows : List Row) (p : Option (Text × List Text)) (position y : ℕ) (ys : List ℕ)
    → (y == 45) ≡ false → slice_get (chars (y ∷ ys)) 0 ≡ Some 104
    → turn (walk_at waiting (held rows p) position) (45 ∷ y ∷ ys) ≡ or_else
    (settle_fault shape.rules false (held rows p)) (DisplayHelp ∷ [])
unfolding flags_fault help_at
letter_help waiting rows p position y ys other first =
    simp (no_command waiting (45 ∷ y ∷ ys), other, first, by_letter 104, no_override, or_else_twice)

pub letter_unknown : (waiting : Waiting) (rows : List Row) (p : Option (Text × List Text)) (position y x : ℕ)
    (ys : List ℕ) → (y == 45) ≡ false → slice_get (chars (y ∷ ys)) 0 ≡ Some x
    → (104 == x) ≡ false → turn (walk_at waiting (held rows p) position) (45 ∷ y ∷ ys) ≡ UnknownArgument ∷ []
unfolding flags_fault
letter_unknown waiting rows p position y x ys other first differs =
    simp (no_command waiting (45 ∷ y ∷ ys), other, first, by_letter x, differs)

-- ---- help

first_char : (y : ℕ) (ys : List ℕ) → y < 128 → slice_get (chars (y ∷ ys)) 0 ≡ Some y
unfolding chars
first_char y [] low = let ascii : nat_lt y 128 ≡ true = lt-ltb y 128 low in simp ascii
first_char y (z ∷ zs) low = let ascii : nat_lt y 128 ≡ true = lt-ltb y 128 low in simp ascii

none_first : slice_get (chars []) 0 ≡ None
unfolding chars
none_first = refl

no_letter : (x : ℕ) → None ≡ Some x → ⊥
no_letter x e = cc

help_use : (h : Held) → react_fault shape.rules false help_at [] h ≡ or_else (settle_fault shape.rules false h)
    (DisplayHelp ∷ [])
unfolding help_at
help_use h = refl

pub help_turn : (waiting : Waiting) (rows : List Row) (p : Option (Text × List Text)) (position : ℕ) (word : Text)
    → IsHelpWord word
    → turn (walk_at waiting (held rows p) position) word ≡ or_else (settle_fault shape.rules false (held rows p))
    (DisplayHelp ∷ [])
help_turn waiting rows p position word (inl is) =
    ap (turn (walk_at waiting (held rows p) position)) is
    ∙ flag_turn waiting (held rows p) position (codes "--help") (codes "help") refl help_at by_help refl help_takes
    ∙ help_use (held rows p)
help_turn waiting rows p position word (inr flags) = ap (turn (walk_at waiting (held rows p) position)) flags.1
    ∙ by_flags flags.0 flags.2
  where
    by_flags : (letters : Text) → slice_get (chars letters) 0 ≡ Some 104
        → turn (walk_at waiting (held rows p) position) (45 ∷ letters) ≡ or_else
        (settle_fault shape.rules false (held rows p)) (DisplayHelp ∷ [])
    by_flags [] first = absurd (no_letter 104 (sym none_first ∙ first))
    by_flags (y ∷ ys) first = go (y == 45) refl
      where
        go : (b : Bool) → (y == 45) ≡ b → turn (walk_at waiting (held rows p) position) (45 ∷ y ∷ ys)
            ≡ or_else (settle_fault shape.rules false (held rows p)) (DisplayHelp ∷ [])
        go true t =
            let is : y ≡ 45 = eqb-true y 45 t in
            let bad : Some y ≡ Some 104 = sym (first_char y ys (omega arith)) ∙ first in
            let same : y ≡ 104 = cc in
            absurd (omega arith)
        go false t = letter_help waiting rows p position y ys t first

-- ---- words that stand alone

-- neither `--`, nor a long option, nor letters
pub record IsAlone (word : Text) : Type 0 where
  pub other : bytes_eq word two_hyphens ≡ false
  pub no_long : long_of word ≡ None
  pub no_short : short_of word ≡ None

pub alone : (word : Text) → IsPlain word → IsAlone word
alone [] plain = record { other = refl; no_long = refl; no_short = refl }
alone (x ∷ xs) (inl first) = record { other = simp first; no_long = simp first; no_short = simp first }
alone (x ∷ xs) (inr is) = subst IsAlone (sym is) (record { other = refl; no_long = refl; no_short = refl })

and_false : (b : Bool) → (b && false) ≡ false
and_false true = refl
and_false false = refl

module _ (rows : List Row) (p : Option (Text × List Text)) (word : Text) (stands : IsAlone word) where
  pub file_turn : turn (rest_at (held rows p) 1) word ≡ settle_fault shape.rules false (held rows p)
  file_turn = simp (stands.other, stands.no_long, stands.no_short, at_first, file_takes_one, and_false, no_override)

  pub file_next : next_of (rest_at (held rows p) 1) word
      ≡ rest_at (held (settled_rows shape.rules p rows) (Some (id_of filed, word ∷ []))) 2
  unfolding walked
  file_next = simp (
    stands.other,
    stands.no_long,
    stands.no_short,
    at_first,
    file_takes_one,
    and_false,
    file_is_single,
    file_is_last,
    id_is filed,
  )

  pub second_turn : turn (rest_at (held rows p) 2) word ≡ UnknownArgument ∷ []
  second_turn = simp (stands.other, stands.no_long, stands.no_short, at_second, is_leaf)

module _ (name : Valued) (rows : List Row) (position : ℕ) (word : Text) (stands : IsAlone word) where
  pub value_turn : turn (wait_at name rows position) word ≡ []
  value_turn = simp (stands.other, stands.no_long, stands.no_short)

  pub value_next : next_of (wait_at name rows position) word
      ≡ rest_at (held rows (Some (id_of (valued name), word ∷ []))) position
  unfolding walked
  value_next = simp (
    stands.other,
    stands.no_long,
    stands.no_short,
    by_id (valued name),
    id_is (valued name),
    same_option name,
    option_takes_one name,
  )

-- ---- `--`, and the words after it

pub dashes_turn : (waiting : Waiting) (h : Held) (position : ℕ) → turn (walk_at waiting h position) two_hyphens ≡ []
dashes_turn waiting h position = simp (no_command waiting two_hyphens)

pub dashes_next : (waiting : Waiting) (h : Held) (position : ℕ) → next_of (walk_at waiting h position) two_hyphens
    ≡ trail_at waiting h position
unfolding walked
dashes_next waiting h position = simp (no_command waiting two_hyphens)

module _ (waiting : Waiting) (rows : List Row) (p : Option (Text × List Text)) (word : Text) where
  pub trail_turn : turn (trail_at waiting (held rows p) 1) word ≡ settle_fault shape.rules false (held rows p)
  trail_turn = simp (at_first, file_takes_one, and_false, no_override)

  pub trail_next : next_of (trail_at waiting (held rows p) 1) word ≡ trail_at idle
      (held (settled_rows shape.rules p rows) (Some (id_of filed, word ∷ []))) 2
  unfolding walked
  trail_next = simp (at_first, file_takes_one, and_false, file_is_single, id_is filed)

  pub trail_second : turn (trail_at waiting (held rows p) 2) word ≡ UnknownArgument ∷ []
  trail_second = simp (at_second, is_leaf)
