-- What clap found, and how it fails, by its clauses at this program's command.
use Rattle.std.proofs.Common.{◌≡◌, ◌∙◌, ap, string_bytes, map, true}
use Rattle.clap.specs.Words.{app_of, found_of, is_simple, kind_of, matches_of}
use Rattle.command_line.specs.Requests.{asked_of}
use Rattle.command_line.proofs.OptionNames.{simple_program}
use Rattle.command_line.proofs.WordOutcomes.{are_texts, explains, helped, helps_alone, may_be, memory_fault, no_fault}
use Rattle.command_line.proofs.WordOutcomes.{passed_kinds, takes_line}
use Rattle.command_line.proofs.words.read_words.Goals as goal

pub returns-in_ok-request_in-in-Ok-try_get_matches_from-clause-asked :
    goal.returns-in_ok-request_in-in-Ok-try_get_matches_from-clause-asked
returns-in_ok-request_in-in-Ok-try_get_matches_from-clause-asked c =
    let words = map string_bytes c.args.words.now in
    let clauses = c.in-Ok-try_get_matches_from.ensures in
    let simple : is_simple (app_of c.in-Ok.command) ≡ true = ap is_simple c.in-Ok.ensures ∙ simple_program in
    takes_line words (found_of c.in-Ok-try_get_matches_from.matches)
    (asked_of c.in_ok-request_in-in-Ok-try_get_matches_from.field-0) (are_texts c.args.words.now)
    (no_fault (app_of c.in-Ok.command) words c.in-Ok.ensures clauses.kinds)
    ((clauses.matches simple).0 ∙ ap (λ a. matches_of a words) c.in-Ok.ensures)
    c.in_ok-request_in-in-Ok-try_get_matches_from.ensures

pub returns-in_ok-request_in-in-Ok-try_get_matches_from-clause-helped :
    goal.returns-in_ok-request_in-in-Ok-try_get_matches_from-clause-helped
returns-in_ok-request_in-in-Ok-try_get_matches_from-clause-helped c =
    let words = map string_bytes c.args.words.now in
    helps_alone words (no_fault (app_of c.in-Ok.command) words c.in-Ok.ensures
    c.in-Ok-try_get_matches_from.ensures.kinds)

pub returns-in-Err-clause-explained : goal.returns-in-Err-clause-explained
returns-in-Err-clause-explained c =
    let words = map string_bytes c.args.words.now in
    explains words (kind_of c.in-Err.error) c.word_fault.result (are_texts c.args.words.now)
    (may_be (app_of c.in-Ok.command) words c.in-Err.error c.in-Ok.ensures c.in-Err.ensures.kinds) c.word_fault.ensures

pub returns-in-Err-clause-answered : goal.returns-in-Err-clause-answered
returns-in-Err-clause-answered c = λ asked asks.
    let words = map string_bytes c.args.words.now in
    let may = may_be (app_of c.in-Ok.command) words c.in-Err.error c.in-Ok.ensures c.in-Err.ensures.kinds in
    memory_fault (kind_of c.in-Err.error) c.word_fault.result c.word_fault.ensures
    (passed_kinds words asked (kind_of c.in-Err.error) asks may)

pub returns-in-Err-clause-helped : goal.returns-in-Err-clause-helped
returns-in-Err-clause-helped c =
    let words = map string_bytes c.args.words.now in
    helped words (kind_of c.in-Err.error) c.word_fault.result (are_texts c.args.words.now)
    (may_be (app_of c.in-Ok.command) words c.in-Err.error c.in-Ok.ensures c.in-Err.ensures.kinds) c.word_fault.ensures
