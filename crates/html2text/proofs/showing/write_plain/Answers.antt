use Rattle.std.proofs.Common.{◌≡◌, ◌∙◌, ap}
use Rattle.command_line.specs.Requests.{asked_of}
use Rattle.html2text.proofs.EndingLemmas.{ends_as}
use Rattle.html2text.proofs.SettingLemmas.{bare, plain_has, plain_narrow, plain_nothing, plain_setting, sharing}
use Rattle.html2text.proofs.showing.write_plain.Goals as goal
use Rattle.html2text.specs.Written.{IsSetting}
use Rattle.page_config.specs.Settings.{PageSetting, bare_setting}

pub returns : goal.returns
returns g c =
    let asked = asked_of c.args.request.now in
    let setting = bare_setting c.max_bytes-config.result in
    let same : setting ≡ bare c.args.table asked =
    c.max_bytes-config.ensures.setting ∙ c.shared_footnotes.ensures.setting
    ∙ ap (sharing asked) (c.link_footnotes.ensures.setting
    ∙ ap (λ (s : PageSetting (Unit {0})). record s {
      rendering = record s.rendering {
        options = record s.rendering.options { include_link_footnotes = asked.footnotes };
      };
    }) c.plain_no_decorate.ensures.setting) in
    let is : IsSetting asked c.args.table setting =
    plain_setting asked c.args.table setting c.requires.rich c.requires.decorated same in
    ends_as _ _ _ _ _ _ _ _ _ _ _ _ _ _ _ _ _ c.write_by.result
    (λ page emitted. plain_has asked c.args.table setting is c.requires.rich page emitted)
    (λ page. plain_narrow asked c.args.table setting is c.requires.rich page)
    (λ page. plain_nothing asked c.args.table setting is c.requires.rich page)
    (c.max_bytes-config.ensures.bytes ∙ c.unwrap_or.ensures) c.write_by.ensures
