use Rattle.std.proofs.Common.{◌∙◌, arith, encode_utf8, sym, [], ◌∷◌, string_bytes}
use Rattle.std.proofs.lemmas.Str.{IsUtf8-string_bytes}
use Rattle.std.proofs.lemmas.Bool.Decides.{nat_tests}
use Rattle.test_fields.specs.Escapes.{escape_of}
use Rattle.test_fields.proofs.AddedLemmas.{chars-encode, escape_10, escape_13, escape_9, escape_92, escape_seen}
use Rattle.test_fields.proofs.AddedLemmas.{is_pushed}
use Rattle.test_fields.proofs.escapes.push_character.Goals as goal

pub returns-in-92 : goal.returns-in-92
returns-in-92 c = is_pushed c.push_str.result (string_bytes c.args.line.now) (string_bytes c.push_str.new.self)
    (92 ∷ 92 ∷ []) (escape_of c.args.c) (IsUtf8-string_bytes c.args.line.now) (escape_92 c.args.c c.in-92.is)
    c.push_str.ensures.bytes

pub returns-in-10 : goal.returns-in-10
returns-in-10 c = is_pushed c.push_str-in-10.result (string_bytes c.args.line.now)
    (string_bytes c.push_str-in-10.new.self) (92 ∷ 110 ∷ []) (escape_of c.args.c)
    (IsUtf8-string_bytes c.args.line.now) (escape_10 c.args.c c.in-10.is) c.push_str-in-10.ensures.bytes

pub returns-in-9 : goal.returns-in-9
returns-in-9 c = is_pushed c.push_str-in-9.result (string_bytes c.args.line.now)
    (string_bytes c.push_str-in-9.new.self) (92 ∷ 116 ∷ []) (escape_of c.args.c)
    (IsUtf8-string_bytes c.args.line.now) (escape_9 c.args.c c.in-9.is) c.push_str-in-9.ensures.bytes

pub returns-in-13 : goal.returns-in-13
returns-in-13 c = is_pushed c.push_str-in-13.result (string_bytes c.args.line.now)
    (string_bytes c.push_str-in-13.new.self) (92 ∷ 114 ∷ []) (escape_of c.args.c)
    (IsUtf8-string_bytes c.args.line.now) (escape_13 c.args.c c.in-13.is) c.push_str-in-13.ensures.bytes

pub returns-in_default-2 : goal.returns-in_default-2
returns-in_default-2 c =
    is_pushed c.push.result (string_bytes c.args.line.now) (string_bytes c.push.new.self) (encode_utf8 c.args.c)
    (escape_of c.args.c) (IsUtf8-string_bytes c.args.line.now)
    (chars-encode c.args.c c.ranges.c.0 ∙ escape_seen c.args.c (search (arith, nat_tests)) (search (arith, nat_tests))
    (search (arith, nat_tests)) (search (arith, nat_tests)) (sym c.is_unseen.ensures ∙ c.if-is_unseen.false))
    c.push.ensures.bytes
