-- The eight names that a line may use, and what clap looks up of this program's command.
use Rattle.std.proofs.Common.{◌≡◌, ◌==◌, ℕ, Bool, true, false, Some, None, refl, codes}
use Rattle.std.specs.Prelude.{if◌then◌else◌}
use Rattle.std.specs.Str.{bytes_eq}
use Rattle.clap.specs.Walk.{Rule, Text, action_of, arg_by_id, arg_by_index, arg_by_long, arg_by_short, is_append}
use Rattle.clap.specs.Walk.{most_values, takes_several, takes_values}
use Rattle.clap.specs.Simple.{Shape, built, filled, help_rule, is_simple, with_index}
use Rattle.clap.specs.Faults.{is_simple_and_free}
use Rattle.command_line.specs.CommandRules.{file_rule, flag_rule, number_rule, program, text_rule}
use Rattle.command_line.specs.CommandWords.{Flag, Valued, footnotes, max_bytes, no_decorate, references, rich}
use Rattle.command_line.specs.CommandWords.{shared_footnotes, width}

pub data Name : Type 0 where
  valued : Valued → Name
  flagged : Flag → Name
  filed : Name

abbrev pub id_of : Name → Text
id_of (valued width) = codes "width"
id_of (valued references) = codes "references"
id_of (valued max_bytes) = codes "max-bytes"
id_of (flagged rich) = codes "rich"
id_of (flagged no_decorate) = codes "no-decorate"
id_of (flagged footnotes) = codes "footnotes"
id_of (flagged shared_footnotes) = codes "shared-footnotes"
id_of filed = codes "file"

-- what a parse reads of the command, and of the argument with the name
unfoldable pub shape : Shape
shape = (built program).top

unfoldable pub rule_at : Name → Rule
rule_at (valued width) = filled (number_rule (codes "width"))
rule_at (valued references) = filled (text_rule (codes "references"))
rule_at (valued max_bytes) = filled (number_rule (codes "max-bytes"))
rule_at (flagged rich) = filled (flag_rule (codes "rich"))
rule_at (flagged no_decorate) = filled (flag_rule (codes "no-decorate"))
rule_at (flagged footnotes) = filled (flag_rule (codes "footnotes"))
rule_at (flagged shared_footnotes) = filled (flag_rule (codes "shared-footnotes"))
rule_at filed = with_index 1 (filled file_rule)

unfoldable pub help_at : Rule
help_at = filled help_rule

-- ---- what is found

pub by_id : (name : Name) → arg_by_id shape.rules (id_of name) ≡ Some (rule_at name)
unfolding shape rule_at
by_id (valued width) = refl
by_id (valued references) = refl
by_id (valued max_bytes) = refl
by_id (flagged rich) = refl
by_id (flagged no_decorate) = refl
by_id (flagged footnotes) = refl
by_id (flagged shared_footnotes) = refl
by_id filed = refl

pub by_option : (option : Valued) → arg_by_long shape.rules (id_of (valued option)) ≡ Some (rule_at (valued option))
unfolding shape rule_at
by_option width = refl
by_option references = refl
by_option max_bytes = refl

pub by_flag : (flag : Flag) → arg_by_long shape.rules (id_of (flagged flag)) ≡ Some (rule_at (flagged flag))
unfolding shape rule_at
by_flag rich = refl
by_flag no_decorate = refl
by_flag footnotes = refl
by_flag shared_footnotes = refl

pub by_help : arg_by_long shape.rules (codes "help") ≡ Some help_at
unfolding shape help_at
by_help = refl

pub by_letter : (letter : ℕ) → arg_by_short shape.rules letter ≡ (if 104 == letter then Some help_at else None)
unfolding shape help_at
by_letter letter = go (104 == letter) refl
  where
    go : (b : Bool) → (104 == letter) ≡ b → arg_by_short shape.rules letter
        ≡ (if 104 == letter then Some help_at else None)
    go true e = simp e
    go false e = simp e

pub at_first : arg_by_index shape.rules 1 ≡ Some (rule_at filed)
unfolding shape rule_at
at_first = refl

pub at_second : arg_by_index shape.rules 2 ≡ None
unfolding shape
at_second = refl

-- ---- the rules

pub option_takes : (option : Valued) → takes_values (rule_at (valued option)) ≡ true
unfolding rule_at
option_takes width = refl
option_takes references = refl
option_takes max_bytes = refl

pub option_takes_one : (option : Valued) → most_values (rule_at (valued option)) ≡ 1
unfolding rule_at
option_takes_one width = refl
option_takes_one references = refl
option_takes_one max_bytes = refl

pub same_option : (option : Valued) → bytes_eq (id_of (valued option)) (id_of (valued option)) ≡ true
same_option width = refl
same_option references = refl
same_option max_bytes = refl

pub flag_takes : (flag : Flag) → takes_values (rule_at (flagged flag)) ≡ false
unfolding rule_at
flag_takes rich = refl
flag_takes no_decorate = refl
flag_takes footnotes = refl
flag_takes shared_footnotes = refl

pub help_takes : takes_values help_at ≡ false
unfolding help_at
help_takes = refl

pub id_is : (name : Name) → (rule_at name).id ≡ id_of name
unfolding rule_at
id_is (valued width) = refl
id_is (valued references) = refl
id_is (valued max_bytes) = refl
id_is (flagged rich) = refl
id_is (flagged no_decorate) = refl
id_is (flagged footnotes) = refl
id_is (flagged shared_footnotes) = refl
id_is filed = refl

pub file_takes_one : takes_several (rule_at filed) ≡ false
unfolding rule_at
file_takes_one = refl

pub file_is_single : is_append (action_of (rule_at filed)) ≡ false
unfolding rule_at
file_is_single = refl

pub file_is_last : (rule_at filed).trailing_var_arg ≡ false
unfolding rule_at
file_is_last = refl

-- ---- the command

pub no_override : shape.args_override_self ≡ false
unfolding shape
no_override = refl

pub is_leaf : shape.is_leaf ≡ true
unfolding shape
is_leaf = refl

pub free_program : is_simple_and_free program ≡ true
free_program = refl

pub simple_program : is_simple program ≡ true
simple_program = refl
