use Rattle.std.proofs.Common.{◌∙◌, ap}
use Rattle.command_line.specs.Requests.{asked_of}
use Rattle.html2text.proofs.EndingLemmas.{ends_as}
use Rattle.html2text.proofs.SettingLemmas.{decorated_setting, plain_has, plain_narrow, plain_nothing, sharing}
use Rattle.html2text.proofs.showing.write_decorated.Goals as goal
use Rattle.html2text.specs.Written.{IsSetting}
use Rattle.page_config.specs.Settings.{bare_setting}

pub returns : goal.returns
returns g c =
    let asked = asked_of c.args.request.now in
    let setting = bare_setting c.shared_footnotes-config.result in
    let is : IsSetting asked c.args.table setting =
    decorated_setting asked c.args.table setting _ c.requires.rich c.requires.decorated c.in_ok-plain.ensures.plain
    (c.shared_footnotes-config.ensures.setting ∙ ap (sharing asked) c.max_bytes-config.ensures.setting) in
    ends_as _ _ _ _ _ _ _ _ _ _ _ _ _ _ _ _ _ c.write_by.result
    (λ page emitted. plain_has asked c.args.table setting is c.requires.rich page emitted)
    (λ page. plain_narrow asked c.args.table setting is c.requires.rich page)
    (λ page. plain_nothing asked c.args.table setting is c.requires.rich page)
    (c.shared_footnotes-config.ensures.bytes ∙ (c.max_bytes-config.ensures.bytes ∙ c.unwrap_or.ensures))
    c.write_by.ensures
