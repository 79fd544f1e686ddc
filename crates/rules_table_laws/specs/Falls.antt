-- Where a rule hands a mark on, its rank falls (WHATWG HTML, 13.2.6, "reprocess the token").
use Rattle.std.specs.Prelude.{◌<◌}
use Rattle.rules_table.specs.Actions.{act_all}
use Rattle.rules_table.specs.Rank.{rank}
use Rattle.rules_table.specs.Rows.{Row, again, asks, done}
use Rattle.rules_table.specs.State.{TreeToken, State}

abbrev pub Falls : TreeToken → State → Row → Type 0
Falls mark s (done actions) = Unit {0}
Falls mark s (asks ask actions) = Unit {0}
Falls mark s (again actions) = rank mark (act_all actions s) < rank mark s
