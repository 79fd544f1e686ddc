-- What becomes of an element's value, by what its children have.
use Rattle.std.specs.Prelude.{◌&&◌, ◌||◌, Bool, true, false, not, if◌then◌else◌, is_none}
use Rattle.render_values.specs.Cells.{has_cells}
use Rattle.render_values.specs.Emptiness.{all_empty, holds_none, is_empty_value}
use Rattle.render_values.specs.Raising.{is_number, raised}
use Rattle.render_values.specs.Values.{Values, none, value}
use Rattle.render_values.specs.declared.closing.Condition.{Condition}
use Rattle.render_values.specs.declared.closing.Condition.TheVariants as conditions
use Rattle.render_values.specs.declared.closing.Outcome.{Outcome}
use Rattle.render_values.specs.declared.closing.Outcome.TheVariants as outcomes
use Rattle.render_values.specs.declared.info.Head.{Head}
use Rattle.render_values.specs.declared.info.RenderInfo.TheVariants.{Nothing}

-- whether an element has its value
abbrev pub shows : Condition → (inside : Values) → Bool
shows conditions.Never inside = false
shows conditions.Always inside = true
shows conditions.AnyShown inside = not (all_empty inside)
shows conditions.AnyValue inside = not (holds_none inside)
shows conditions.AnyCell inside = has_cells inside
shows conditions.Digits inside = true

-- one text of digits is its own superscript
abbrev pub is_raised : Condition → (inside : Values) → Bool
is_raised conditions.Digits inside = is_number inside
is_raised _ inside = false

-- an element without its value keeps the fragment that starts in it; a guarded one goes where it is shallow-empty
abbrev pub ending : Condition → (guarded : Bool) → Head → (inside : Values) → Outcome
ending condition guarded head inside =
    if not (shows condition inside)
    then (if guarded || is_none head.fragment then outcomes.Goes else outcomes.Fragment)
    else if is_raised condition inside then outcomes.Raised
    else (if guarded && is_empty_value head (holds_none inside) then outcomes.Goes else outcomes.Stays)

-- its value, before others
abbrev pub ended : Outcome → Head → (inside rest : Values) → Values
ended outcomes.Stays head inside rest = value head inside rest
ended outcomes.Raised head inside rest = value (raised head inside) none rest
ended outcomes.Fragment head inside rest = value (record head { info = Nothing }) none rest
ended outcomes.Goes head inside rest = rest
