-- The exit statuses of the program.
use Rattle.std.specs.Prelude.{ℕ}
use Rattle.html2text.specs.declared.outcome.Outcome.{Outcome}
use Rattle.html2text.specs.declared.outcome.Outcome.TheVariants.{Done, Page, NotOpened, Words, Table}

abbrev pub status_of : Outcome → ℕ
status_of Done = 0
status_of (Page error) = 1
status_of NotOpened = 1
status_of Words = 2
status_of Table = 3
